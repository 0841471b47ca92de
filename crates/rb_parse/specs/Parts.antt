-- Reading of what the code reads by a function of its own.
use Rattle.std.specs.Prelude.{ℕ, List, [], ◌∷◌, Bool, true, false, cond, Option, Some, None, Ok}
use Rattle.rb_trees.specs.declared.tokens.Token.{Token}
use Rattle.rb_trees.specs.declared.tokens.TokenKind.TheVariants as kind
use Rattle.rb_trees.specs.declared.values.Value as value
use Rattle.rb_trees.specs.declared.code.UnOp.{UnOp}
use Rattle.rb_trees.specs.declared.code.BinOp.{BinOp}
use Rattle.rb_trees.specs.declared.code.BinOp.TheVariants as binary
use Rattle.rb_trees.specs.declared.code.Expr as expr
use Rattle.rb_trees.specs.mirror.Types.{TypeTree}
use Rattle.rb_trees.specs.mirror.Code as code
use Rattle.rb_trees.specs.mirror.Code.{Expr, Exprs, mirror_expr}
use Rattle.rb_trees.specs.Kinds as k
use Rattle.rb_meaning_bytes.specs.grammar.Values.{name_of, number_of, text_of}
use Rattle.rb_meaning_bytes.specs.grammar.Symbols as s
use Rattle.rb_parse.specs.declared.levels.Level.{Level}
use Rattle.rb_parse.specs.declared.levels.Level.TheVariants as l
use Rattle.rb_parse.specs.Reading.{Read, ◌>>=◌, take_kind, taken, on_taken, read_of}

-- the type of an item or row, between its signs
unfoldable pub item_of : List ℕ → List Token → Read TypeTree
item_of source ts = take_kind k.sign_less ts >>= λ a. read_of source s.AType a.1 >>= λ b. take_kind k.sign_greater b.1 >>= λ c. Ok (b.0, c.1)

-- the level in the grammar
abbrev pub level_of : Level → s.Level
level_of l.Or = s.OrLevel
level_of l.And = s.AndLevel
level_of l.Same = s.SameLevel
level_of l.Order = s.OrderLevel
level_of l.Sum = s.SumLevel
level_of l.Product = s.ProductLevel

-- what the operators of a level join
unfoldable pub operand_of : List ℕ → Level → List Token → Read Expr
operand_of source l.Or ts = read_of source (s.Chain s.AndLevel) ts
operand_of source l.And ts = read_of source (s.Chain s.SameLevel) ts
operand_of source l.Same ts = read_of source (s.Chain s.OrderLevel) ts
operand_of source l.Order ts = read_of source (s.Chain s.SumLevel) ts
operand_of source l.Sum ts = read_of source (s.Chain s.ProductLevel) ts
operand_of source l.Product ts = read_of source s.Prefix ts

-- whether more operators of the level may follow one
unfoldable pub repeats : Level → Bool
repeats l.Same = false
repeats l.Order = false
repeats _ = true

-- how many parts an operand of the level may begin with
abbrev pub depth : Level → ℕ
depth l.Or = 14
depth l.And = 12
depth l.Same = 10
depth l.Order = 8
depth l.Sum = 6
depth l.Product = 4

-- the operator of the level that comes next, its token and the tokens behind it
unfoldable pub operator_at : Level → List Token → Option (BinOp × Token × List Token)
operator_at l.Or ts = on_taken (taken k.sign_or ts) (λ x. Some (binary.Or, x.0, x.1)) None
operator_at l.And ts = on_taken (taken k.sign_and ts) (λ x. Some (binary.And, x.0, x.1)) None
operator_at l.Same ts = on_taken (taken k.sign_equal ts) (λ x. Some (binary.Eq, x.0, x.1)) (on_taken (taken k.sign_unequal ts) (λ x. Some (binary.Ne, x.0, x.1)) None)
operator_at l.Order ts = on_taken (taken k.sign_less ts) (λ x. Some (binary.Lt, x.0, x.1)) (on_taken (taken k.sign_at_most ts) (λ x. Some (binary.Le, x.0, x.1)) (on_taken (taken k.sign_greater ts) (λ x. Some (binary.Gt, x.0, x.1)) (on_taken (taken k.sign_at_least ts) (λ x. Some (binary.Ge, x.0, x.1)) None)))
operator_at l.Sum ts = on_taken (taken k.sign_plus ts) (λ x. Some (binary.Add, x.0, x.1)) (on_taken (taken k.sign_minus ts) (λ x. Some (binary.Sub, x.0, x.1)) None)
operator_at l.Product ts = on_taken (taken k.sign_star ts) (λ x. Some (binary.Mul, x.0, x.1)) (on_taken (taken k.sign_slash ts) (λ x. Some (binary.Div, x.0, x.1)) (on_taken (taken k.sign_percent ts) (λ x. Some (binary.Rem, x.0, x.1)) None))

-- what the operators of the level that follow make of an expression
unfoldable pub more_of : List ℕ → Level → Expr → List Token → Read Expr
more_of source level left ts = read_of source (s.MoreChain (level_of level)) ts >>= λ m. Ok (m.0 left, m.1)

abbrev pub on_operator : Option (BinOp × Token × List Token) → (BinOp × Token × List Token → Read Expr) → Read Expr → Read Expr
on_operator None f other = other
on_operator (Some x) f other = f x

-- the right operand behind an operator, and what follows it
unfoldable pub joined_of : List ℕ → Level → Expr → BinOp → Token → List Token → Read Expr
joined_of source level left op sign ts = operand_of source level ts >>= λ b. cond (repeats level) (more_of source level (code.Binary sign.start op left b.0) b.1) (Ok (code.Binary sign.start op left b.0, b.1))

-- the operand behind a sign
unfoldable pub prefixed_of : List ℕ → UnOp → Token → List Token → Read Expr
prefixed_of source op sign ts = read_of source s.Prefix ts >>= λ a. Ok (code.Unary sign.start op a.0, a.1)

-- what the members and indexes that follow make of an expression
unfoldable pub members_of : List ℕ → Expr → List Token → Read Expr
members_of source object ts = read_of source s.Members ts >>= λ m. Ok (m.0 object, m.1)

-- arguments and the bracket that closes them
unfoldable pub arguments_to_close : List ℕ → List Token → Read Exprs
arguments_to_close source ts = read_of source s.Arguments ts >>= λ a. take_kind k.sign_close a.1 >>= λ c. Ok (a.0, c.1)

-- an expression and the bracket that closes it
unfoldable pub expression_to_close : List ℕ → List Token → Read Expr
expression_to_close source ts = read_of source s.Expression ts >>= λ a. take_kind k.sign_close a.1 >>= λ c. Ok (a.0, c.1)

-- what follows the name of a member
unfoldable pub called_of : List ℕ → Expr → Token → List Token → Read Expr
called_of source object name ts =
    on_taken (taken k.sign_open ts)
    (λ w. arguments_to_close source w.1 >>= λ a. members_of source (code.Call name.start object (name_of source name) a.0) a.1)
    (members_of source (code.Field name.start object (name_of source name)) ts)

-- what follows the dot of a member
unfoldable pub member_at : List ℕ → Expr → List Token → Read Expr
member_at source object ts = take_kind kind.Name ts >>= λ n. called_of source object n.0 n.1

-- what follows the bracket of an index
unfoldable pub index_at : List ℕ → Expr → Token → List Token → Read Expr
index_at source object sign ts = read_of source s.Expression ts >>= λ a. take_kind k.sign_close_bracket a.1 >>= λ c. members_of source (code.Index sign.start object a.0) c.1

-- an expression of one token
unfoldable pub atom_of : List ℕ → List Token → Option (Expr × List Token)
atom_of source ts =
    on_taken (taken kind.Number ts) (λ w. Some (code.Lit w.0.start (value.Int (number_of source w.0)), w.1))
    (on_taken (taken kind.TextLit ts) (λ w. Some (code.Lit w.0.start (value.Text (text_of source w.0)), w.1))
    (on_taken (taken k.keyword_true ts) (λ w. Some (code.Lit w.0.start (value.Bool true), w.1))
    (on_taken (taken k.keyword_false ts) (λ w. Some (code.Lit w.0.start (value.Bool false), w.1))
    (on_taken (taken k.keyword_this ts) (λ w. Some (code.This w.0.start, w.1))
    (on_taken (taken kind.Name ts) (λ w. Some (code.Name w.0.start (name_of source w.0), w.1))
    None)))))

abbrev pub on_atom : {A : Type 0} → Option (A × List Token) → Read A → Read A
on_atom None other = other
on_atom (Some x) other = Ok x

-- the operand of a word that is written like a call
unfoldable pub measured_of : List ℕ → UnOp → Token → List Token → Read Expr
measured_of source op word ts = take_kind k.sign_open ts >>= λ o. expression_to_close source o.1 >>= λ a. Ok (code.Unary word.start op a.0, a.1)

-- what follows `new`
unfoldable pub object_of : List ℕ → Token → List Token → Read Expr
object_of source word ts = take_kind kind.Name ts >>= λ n. take_kind k.sign_open n.1 >>= λ o. arguments_to_close source o.1 >>= λ a. Ok (code.New word.start (name_of source n.0) a.0, a.1)

-- what follows the `List` of an expression
unfoldable pub list_of : List ℕ → Token → List Token → Read Expr
list_of source word ts = item_of source ts >>= λ i. take_kind k.sign_open i.1 >>= λ o. arguments_to_close source o.1 >>= λ a. Ok (code.Items word.start i.0 a.0, a.1)

-- expressions of a list before the expressions that follow
abbrev pub put_exprs : List expr.Expr → Exprs → Exprs
put_exprs [] l = l
put_exprs (e ∷ es) l = code.MoreExprs (mirror_expr e) (put_exprs es l)

-- the arguments that follow the first one
unfoldable pub more_on : List ℕ → Expr → List Token → Read Exprs
more_on source first ts = read_of source s.MoreArguments ts >>= λ m. Ok (code.MoreExprs first m.0, m.1)

-- the arguments so far with those that follow
unfoldable pub arguments_on : List ℕ → List expr.Expr → List Token → Read Exprs
arguments_on source list ts = read_of source s.MoreArguments ts >>= λ m. Ok (put_exprs list m.0, m.1)
