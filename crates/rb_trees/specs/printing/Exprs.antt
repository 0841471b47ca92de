-- How expressions are printed. The places of the grammar are levels, from 0, where any expression may stand, to 7,
-- where a receiver or an indexed list stands; parentheses stand exactly around what its place doesn't derive without.
use Rattle.std.specs.Prelude.{ℕ, nat_lt, List, [], ◌∷◌, ◌++◌, cond}
use Rattle.rb_trees.specs.declared.code.UnOp.{UnOp}
use Rattle.rb_trees.specs.declared.code.UnOp.TheVariants as unary
use Rattle.rb_trees.specs.declared.code.BinOp.{BinOp}
use Rattle.rb_trees.specs.declared.code.BinOp.TheVariants as binary
use Rattle.rb_trees.specs.mirror.Code.{Expr, Exprs, Lit, Name, This, Unary, Binary, Field, Call, Index, New, Items, Taken, NoExprs, MoreExprs}
use Rattle.rb_trees.specs.printing.Pieces.{Piece}
use Rattle.rb_trees.specs.printing.Types.{type_pieces}
use Rattle.rb_trees.specs.printing.Words as w
use Rattle.rb_trees.specs.printing.Words.{space, opens, closes, comma, dot, name_piece, number_piece, literal_pieces}

-- Each binary operator has the level of the grammar's rule that derives it: `||`, `&&`, equality, order, sums, products.
abbrev pub binary_level : BinOp → ℕ
binary_level binary.Or = 0
binary_level binary.And = 1
binary_level binary.Eq = 2
binary_level binary.Ne = 2
binary_level binary.Lt = 3
binary_level binary.Le = 3
binary_level binary.Gt = 3
binary_level binary.Ge = 3
binary_level binary.Add = 4
binary_level binary.Sub = 4
binary_level binary.Mul = 5
binary_level binary.Div = 5
binary_level binary.Rem = 5

-- Repeated operators group to the left; equality and order don't repeat.
abbrev pub left_level : BinOp → ℕ
left_level binary.Or = 0
left_level binary.And = 1
left_level binary.Eq = 3
left_level binary.Ne = 3
left_level binary.Lt = 4
left_level binary.Le = 4
left_level binary.Gt = 4
left_level binary.Ge = 4
left_level binary.Add = 4
left_level binary.Sub = 4
left_level binary.Mul = 5
left_level binary.Div = 5
left_level binary.Rem = 5

abbrev pub right_level : BinOp → ℕ
right_level binary.Or = 1
right_level binary.And = 2
right_level binary.Eq = 3
right_level binary.Ne = 3
right_level binary.Lt = 4
right_level binary.Le = 4
right_level binary.Gt = 4
right_level binary.Ge = 4
right_level binary.Add = 5
right_level binary.Sub = 5
right_level binary.Mul = 6
right_level binary.Div = 6
right_level binary.Rem = 6

abbrev pub binary_sign : BinOp → Piece
binary_sign binary.Or = w.or
binary_sign binary.And = w.and
binary_sign binary.Eq = w.equal
binary_sign binary.Ne = w.unequal
binary_sign binary.Lt = w.less
binary_sign binary.Le = w.at_most
binary_sign binary.Gt = w.greater
binary_sign binary.Ge = w.at_least
binary_sign binary.Add = w.plus
binary_sign binary.Sub = w.minus
binary_sign binary.Mul = w.star
binary_sign binary.Div = w.slash
binary_sign binary.Rem = w.percent

-- Prefix signs are of level 6; `len` and `str` are like calls.
abbrev pub unary_level : UnOp → ℕ
unary_level unary.Not = 6
unary_level unary.Neg = 6
unary_level unary.Len = 8
unary_level unary.Str = 8

-- where the operand stands
abbrev pub operand_level : UnOp → ℕ
operand_level unary.Not = 6
operand_level unary.Neg = 6
operand_level unary.Len = 0
operand_level unary.Str = 0

-- the level of an expression: fields, calls and indexes are of level 7, what needs no parentheses anywhere of level 8
abbrev pub level_of : Expr → ℕ
level_of (Unary at op a) = unary_level op
level_of (Binary at op a b) = binary_level op
level_of (Field at a name) = 7
level_of (Call at a method args) = 7
level_of (Index at a b) = 7
level_of _ = 8

abbrev pub in_parentheses : List Piece → List Piece
in_parentheses pieces = opens ∷ pieces ++ closes ∷ []

-- an expression at a place of the level, given its own pieces
abbrev pub placed_at : ℕ → Expr → List Piece → List Piece
placed_at level e pieces = cond (nat_lt (level_of e) level) (in_parentheses pieces) pieces

abbrev pub unary_pieces : UnOp → List Piece → List Piece
unary_pieces unary.Not operand = w.not_sign ∷ operand
unary_pieces unary.Neg operand = w.minus ∷ operand
unary_pieces unary.Len operand = w.len_word ∷ in_parentheses operand
unary_pieces unary.Str operand = w.str_word ∷ in_parentheses operand

abbrev mutual
  -- an expression where any may stand
  pub expr_pieces : Expr → List Piece
  expr_pieces (Lit at value) = literal_pieces value
  expr_pieces (Name at name) = name_piece name ∷ []
  expr_pieces (This at) = w.this_word ∷ []
  expr_pieces (Unary at op a) = unary_pieces op (placed_at (operand_level op) a (expr_pieces a))
  expr_pieces (Binary at op a b) =
      placed_at (left_level op) a (expr_pieces a) ++ space ∷ binary_sign op ∷ space ∷ placed_at (right_level op) b (expr_pieces b)
  expr_pieces (Field at a name) = placed_at 7 a (expr_pieces a) ++ dot ∷ name_piece name ∷ []
  expr_pieces (Call at a method args) = placed_at 7 a (expr_pieces a) ++ dot ∷ name_piece method ∷ in_parentheses (args_pieces args)
  expr_pieces (Index at a b) = placed_at 7 a (expr_pieces a) ++ w.open_bracket ∷ expr_pieces b ++ w.close_bracket ∷ []
  expr_pieces (New at class args) = w.new_word ∷ space ∷ name_piece class ∷ in_parentheses (args_pieces args)
  expr_pieces (Items at item items) = w.List_word ∷ w.less ∷ type_pieces item ++ w.greater ∷ in_parentheses (args_pieces items)
  expr_pieces (Taken at step) = w.less ∷ number_piece step ∷ w.greater ∷ []

  pub args_pieces : Exprs → List Piece
  args_pieces NoExprs = []
  args_pieces (MoreExprs e es) = expr_pieces e ++ more_args_pieces es

  pub more_args_pieces : Exprs → List Piece
  more_args_pieces NoExprs = []
  more_args_pieces (MoreExprs e es) = comma ∷ space ∷ expr_pieces e ++ more_args_pieces es

-- an expression at a place of the level
abbrev pub placed : ℕ → Expr → List Piece
placed level e = placed_at level e (expr_pieces e)

-- what stands behind the left operand
abbrev pub right_pieces : BinOp → Expr → List Piece
right_pieces op e = space ∷ binary_sign op ∷ space ∷ placed (right_level op) e

-- what stands behind an indexed list
abbrev pub index_pieces : Expr → List Piece
index_pieces e = w.open_bracket ∷ expr_pieces e ++ w.close_bracket ∷ []

-- arguments in parentheses
abbrev pub call_pieces : Exprs → List Piece
call_pieces args = in_parentheses (args_pieces args)
