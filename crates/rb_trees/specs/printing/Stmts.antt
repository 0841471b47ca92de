-- How statements are printed: each on its own line, with two more spaces in each block.
use Rattle.std.specs.Prelude.{ℕ, List, [], ◌∷◌, ◌++◌, codes, Option, None, Some}
use Rattle.rb_trees.specs.mirror.Code.{Expr, Stmt, Stmts, Val, Var, Assign, Run, Print, Throw, If, While, For, Try, Batch, NoStmts, MoreStmts}
use Rattle.rb_trees.specs.mirror.Declarations.{Body}
use Rattle.rb_trees.specs.printing.Pieces.{Piece, Space}
use Rattle.rb_trees.specs.printing.Exprs.{expr_pieces, in_parentheses}
use Rattle.rb_trees.specs.printing.Words as w
use Rattle.rb_trees.specs.printing.Words.{space, name_piece}

-- a line: the spaces before it, its pieces, and a line feed
abbrev pub line : List ℕ → List Piece → List Piece
line indent pieces = Space indent ∷ pieces ++ Space (10 ∷ []) ∷ []

-- the spaces of a block's lines
abbrev pub deeper : List ℕ → List ℕ
deeper indent = indent ++ codes "  "

-- `{` ends the line that opens a block, and `}` stands alone
abbrev pub opened : List Piece → List Piece
opened pieces = pieces ++ space ∷ w.open_brace ∷ []

abbrev pub closed : List ℕ → List Piece
closed indent = line indent (w.close_brace ∷ [])

-- `WORD (HEAD) {`
abbrev pub headed : Piece → List Piece → List Piece
headed word head = opened (word ∷ space ∷ in_parentheses head)

-- `WORD NAME = VALUE;`
abbrev pub bound : Piece → List ℕ → Expr → List Piece
bound word name value = word ∷ space ∷ name_piece name ∷ space ∷ w.assign ∷ space ∷ expr_pieces value ++ w.semicolon ∷ []

-- an expression between two texts
abbrev pub between : List ℕ → Expr → List ℕ → List Piece
between front e back = Space front ∷ expr_pieces e ++ Space back ∷ []

-- `LEFT = RIGHT;`
abbrev pub assigned : Expr → Expr → List Piece
assigned left right = expr_pieces left ++ space ∷ w.assign ∷ space ∷ expr_pieces right ++ w.semicolon ∷ []

-- `for (NAME in LIST) {`
abbrev pub for_head : List ℕ → Expr → List Piece
for_head name list = headed w.for_word (name_piece name ∷ space ∷ w.in_word ∷ space ∷ expr_pieces list)

-- `batch (INTERFACE ROOT) {`
abbrev pub batch_head : List ℕ → List ℕ → List Piece
batch_head interface root = headed w.batch_word (name_piece interface ∷ space ∷ name_piece root ∷ [])

-- the end of a block that another one follows: `} WORD .. {`
abbrev pub closed_by : List Piece → List Piece
closed_by pieces = w.close_brace ∷ space ∷ opened pieces

-- `} catch (NAME) {`
abbrev pub catch_head : List ℕ → List Piece
catch_head name = closed_by (w.catch_word ∷ space ∷ in_parentheses (name_piece name ∷ []))

-- the end of an `if`, given the lines of its second block; an empty one isn't printed
abbrev pub otherwise : List ℕ → Stmts → List Piece → List Piece
otherwise indent NoStmts lines = closed indent
otherwise indent (MoreStmts s ss) lines = line indent (closed_by (w.else_word ∷ [])) ++ lines ++ closed indent

abbrev mutual
  pub stmt_pieces : List ℕ → Stmt → List Piece
  stmt_pieces indent (Val at name e) = line indent (bound w.val_word name e)
  stmt_pieces indent (Var at name e) = line indent (bound w.var_word name e)
  stmt_pieces indent (Assign at a b) = line indent (assigned a b)
  stmt_pieces indent (Run at e) = line indent (expr_pieces e ++ w.semicolon ∷ [])
  stmt_pieces indent (Print at e) = line indent (w.print_word ∷ in_parentheses (expr_pieces e) ++ w.semicolon ∷ [])
  stmt_pieces indent (Throw at e) = line indent (w.throw_word ∷ space ∷ expr_pieces e ++ w.semicolon ∷ [])
  stmt_pieces indent (If at e a b) =
      line indent (headed w.if_word (expr_pieces e)) ++ stmts_pieces (deeper indent) a ++ otherwise indent b (stmts_pieces (deeper indent) b)
  stmt_pieces indent (While at e a) = line indent (headed w.while_word (expr_pieces e)) ++ stmts_pieces (deeper indent) a ++ closed indent
  stmt_pieces indent (For at name e a) = line indent (for_head name e) ++ stmts_pieces (deeper indent) a ++ closed indent
  stmt_pieces indent (Try at a name b) =
      line indent (opened (w.try_word ∷ [])) ++ stmts_pieces (deeper indent) a
      ++ line indent (catch_head name) ++ stmts_pieces (deeper indent) b ++ closed indent
  stmt_pieces indent (Batch at interface root a) = line indent (batch_head interface root) ++ stmts_pieces (deeper indent) a ++ closed indent

  pub stmts_pieces : List ℕ → Stmts → List Piece
  stmts_pieces indent NoStmts = []
  stmts_pieces indent (MoreStmts s ss) = stmt_pieces indent s ++ stmts_pieces indent ss

-- the statements of a block, on lines with two more spaces
abbrev pub block_pieces : List ℕ → Stmts → List Piece
block_pieces indent block = stmts_pieces (deeper indent) block

-- what stands behind the first block of an `if`
abbrev pub otherwise_pieces : List ℕ → Stmts → List Piece
otherwise_pieces indent block = otherwise indent block (block_pieces indent block)

-- what stands behind the block that is tried
abbrev pub handler_pieces : List ℕ → List ℕ → Stmts → List Piece
handler_pieces indent name block = line indent (catch_head name) ++ block_pieces indent block ++ closed indent

abbrev pub return_pieces : List ℕ → Option Expr → List Piece
return_pieces indent None = []
return_pieces indent (Some e) = line indent (w.return_word ∷ space ∷ expr_pieces e ++ w.semicolon ∷ [])

-- the lines of a body, between its braces
abbrev pub body_pieces : List ℕ → Body → List Piece
body_pieces indent body = stmts_pieces indent body.statements ++ return_pieces indent body.result

-- a body behind the line that opens it, up to the line that closes it
abbrev pub within_pieces : List ℕ → Body → List Piece
within_pieces indent body = body_pieces (deeper indent) body ++ closed indent
