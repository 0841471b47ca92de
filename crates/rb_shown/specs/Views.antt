-- The view of a batch's division: its inputs, the steps of its script, and the parts of its remainder, on lines of their own.
use Rattle.std.specs.Prelude.{ℕ, List, [], ◌∷◌, ◌++◌, Bool, true, false, codes}
use Rattle.std.specs.Fmt.{decimal}
use Rattle.rb_trees.specs.declared.code.UnOp.{UnOp}
use Rattle.rb_trees.specs.declared.code.UnOp.TheVariants as unary
use Rattle.rb_trees.specs.declared.code.BinOp.{BinOp}
use Rattle.rb_trees.specs.declared.code.BinOp.TheVariants as binary
use Rattle.rb_trees.specs.mirror.Code.{Expr}
use Rattle.rb_trees.specs.mirror.Scripts.{SExpr, Lit, Input, Var, Root, Unary, Binary, Call, SExprs, NoSExprs, MoreSExprs}
use Rattle.rb_trees.specs.mirror.Scripts.{Step, Do, Keep, Let, If, Each, Over, Steps, NoSteps, MoreSteps}
use Rattle.rb_trees.specs.mirror.Remainders as part
use Rattle.rb_trees.specs.mirror.Remainders.{Part, Plain, Pass, Bind, Both, Branch, Turns, Parts, NoParts, MoreParts}
use Rattle.rb_trees.specs.printing.Pieces.{spelled}
use Rattle.rb_trees.specs.printing.Exprs.{expr_pieces}
use Rattle.rb_trees.specs.printing.Stmts.{deeper, stmt_pieces}
use Rattle.rb_meaning.specs.Shown.{line, literal, line_and_column}
use Rattle.rb_meaning_split.specs.Division.{Division}

abbrev pub unary_name : UnOp → List ℕ
unary_name unary.Not = codes "not"
unary_name unary.Neg = codes "neg"
unary_name unary.Len = codes "len"
unary_name unary.Str = codes "str"

abbrev pub binary_name : BinOp → List ℕ
binary_name binary.Add = codes "add"
binary_name binary.Sub = codes "sub"
binary_name binary.Mul = codes "mul"
binary_name binary.Div = codes "div"
binary_name binary.Rem = codes "rem"
binary_name binary.Eq = codes "eq"
binary_name binary.Ne = codes "ne"
binary_name binary.Lt = codes "lt"
binary_name binary.Le = codes "le"
binary_name binary.Gt = codes "gt"
binary_name binary.Ge = codes "ge"
binary_name binary.And = codes "and"
binary_name binary.Or = codes "or"

-- a variable of a script
abbrev pub shown_variable : ℕ → List ℕ
shown_variable n = codes "v" ++ decimal n

-- an input of a script
abbrev pub shown_input : ℕ → List ℕ
shown_input n = codes "in" ++ decimal n

-- An operator stands by its name before its operands, a call behind its receiver.
abbrev mutual
  pub shown_sexpr : SExpr → List ℕ
  shown_sexpr (Lit value) = literal value
  shown_sexpr (Input n) = shown_input n
  shown_sexpr (Var n) = shown_variable n
  shown_sexpr Root = codes "root"
  shown_sexpr (Unary op at a) = unary_name op ++ codes "(" ++ shown_sexpr a ++ codes ")"
  shown_sexpr (Binary op at a b) = binary_name op ++ codes "(" ++ shown_sexpr a ++ codes ", " ++ shown_sexpr b ++ codes ")"
  shown_sexpr (Call at kind method target args) = shown_sexpr target ++ codes "." ++ method ++ codes "(" ++ shown_args args ++ codes ")"

  -- arguments, with a comma and a space between them
  pub shown_args : SExprs → List ℕ
  shown_args NoSExprs = []
  shown_args (MoreSExprs e es) = shown_sexpr e ++ more_shown_args es

  pub more_shown_args : SExprs → List ℕ
  more_shown_args NoSExprs = []
  more_shown_args (MoreSExprs e es) = codes ", " ++ shown_sexpr e ++ more_shown_args es

-- what stands behind the receiver of a call
abbrev pub shown_call : List ℕ → SExprs → List ℕ
shown_call method args = codes "." ++ method ++ codes "(" ++ shown_args args ++ codes ")"

abbrev pub shown_keep : Bool → List ℕ
shown_keep true = codes " keep"
shown_keep false = []

-- the front of a step's line: the spaces of its block, its number and a word
abbrev pub step_front : List ℕ → ℕ → List ℕ → List ℕ
step_front indent id word = indent ++ decimal id ++ codes " " ++ word

-- the line of a step that is a word and an expression
abbrev pub sent_line : List ℕ → ℕ → List ℕ → SExpr → List ℕ
sent_line indent id word e = line (step_front indent id word ++ shown_sexpr e)

-- the front of the line of a step that binds a variable
abbrev pub binding_front : List ℕ → ℕ → List ℕ → ℕ → Bool → List ℕ
binding_front indent id word var keep = step_front indent id word ++ shown_variable var ++ shown_keep keep

-- that line; a word stands before the variable, and one behind it
abbrev pub bound_line : List ℕ → ℕ → List ℕ → ℕ → Bool → List ℕ → SExpr → List ℕ
bound_line indent id word var keep behind e = binding_front indent id word var keep ++ behind ++ line (shown_sexpr e)

-- the line of an Over
abbrev pub over_line : List ℕ → ℕ → ℕ → ℕ → List ℕ
over_line indent id var input = line (step_front indent id (codes "over ") ++ shown_variable var ++ codes " in " ++ shown_input input)

-- the second block of an `if`, given its lines; an empty one isn't shown
abbrev pub else_lines : List ℕ → Steps → List ℕ → List ℕ
else_lines indent NoSteps lines = []
else_lines indent (MoreSteps s ss) lines = line (indent ++ codes "else") ++ lines

-- Each step stands on a line, with two more spaces in each block.
abbrev mutual
  pub shown_step : List ℕ → Step → List ℕ
  shown_step indent (Do id at e) = sent_line indent id (codes "do ") e
  shown_step indent (Keep id at e) = sent_line indent id (codes "keep ") e
  shown_step indent (Let id at var keep e) = bound_line indent id (codes "let ") var keep (codes " = ") e
  shown_step indent (If id at e a b) =
      sent_line indent id (codes "if ") e ++ shown_steps (deeper indent) a ++ else_lines indent b (shown_steps (deeper indent) b)
  shown_step indent (Each id at var keep e a) =
      bound_line indent id (codes "each ") var keep (codes " in ") e ++ shown_steps (deeper indent) a
  shown_step indent (Over id at var input a) = over_line indent id var input ++ shown_steps (deeper indent) a

  pub shown_steps : List ℕ → Steps → List ℕ
  shown_steps indent NoSteps = []
  shown_steps indent (MoreSteps s ss) = shown_step indent s ++ shown_steps indent ss

-- the steps of a block
abbrev pub block_lines : List ℕ → Steps → List ℕ
block_lines indent block = shown_steps (deeper indent) block

-- what stands behind the first block of an `if`
abbrev pub else_block_lines : List ℕ → Steps → List ℕ
else_block_lines indent block = else_lines indent block (block_lines indent block)

-- the value that a step kept, as statements show it too
abbrev pub shown_taken : ℕ → List ℕ
shown_taken step = codes "<" ++ decimal step ++ codes ">"

abbrev pub pass_line : List ℕ → ℕ → List ℕ
pass_line indent step = line (indent ++ codes "pass " ++ shown_taken step ++ codes ";")

abbrev pub bind_line : List ℕ → List ℕ → ℕ → List ℕ
bind_line indent name step = line (indent ++ codes "val " ++ name ++ codes " = " ++ shown_taken step ++ codes ";")

-- a value that both sides evaluate; the step stands behind it as a comment
abbrev pub both_line : List ℕ → List ℕ → Expr → ℕ → List ℕ
both_line indent name e step = line (indent ++ codes "val " ++ name ++ codes " = " ++ spelled (expr_pieces e) ++ codes "; // " ++ shown_taken step)

abbrev pub branch_line : List ℕ → ℕ → List ℕ
branch_line indent step = line (indent ++ codes "if " ++ shown_taken step ++ codes " {")

abbrev pub turns_line : List ℕ → List ℕ → ℕ → List ℕ
turns_line indent name step = line (indent ++ codes "for " ++ name ++ codes " in " ++ shown_taken step ++ codes " {")

-- the line that opens the turns over the items of a list
abbrev pub list_turns_line : List ℕ → (name list : List ℕ) → ℕ → List ℕ
list_turns_line indent name list step = line (indent ++ codes "for " ++ name ++ codes " in " ++ list ++ codes " " ++ shown_taken step ++ codes " {")

abbrev pub closing_line : List ℕ → List ℕ
closing_line indent = line (indent ++ codes "}")

-- the end of a branch, given the lines of its second block; an empty one isn't shown
abbrev pub ending_lines : List ℕ → Parts → List ℕ → List ℕ
ending_lines indent NoParts lines = closing_line indent
ending_lines indent (MoreParts p ps) lines = line (indent ++ codes "} else {") ++ lines ++ closing_line indent

-- A part is shown as the statement for which it stands.
abbrev mutual
  pub shown_part : List ℕ → Part → List ℕ
  shown_part indent (Plain stmt takes) = spelled (stmt_pieces indent stmt)
  shown_part indent (Pass step) = pass_line indent step
  shown_part indent (Bind step name kind) = bind_line indent name step
  shown_part indent (Both step at name e) = both_line indent name e step
  shown_part indent (Branch step a b) =
      branch_line indent step ++ shown_parts (deeper indent) a ++ ending_lines indent b (shown_parts (deeper indent) b)
  shown_part indent (Turns step name kind a) = turns_line indent name step ++ shown_parts (deeper indent) a ++ closing_line indent
  shown_part indent (part.Over step at name list input a) =
      list_turns_line indent name list step ++ shown_parts (deeper indent) a ++ closing_line indent

  pub shown_parts : List ℕ → Parts → List ℕ
  shown_parts indent NoParts = []
  shown_parts indent (MoreParts p ps) = shown_part indent p ++ shown_parts indent ps

-- the parts of a block
abbrev pub inner_lines : List ℕ → Parts → List ℕ
inner_lines indent block = shown_parts (deeper indent) block

-- what stands behind the first block of a branch
abbrev pub ending_block_lines : List ℕ → Parts → List ℕ
ending_block_lines indent block = ending_lines indent block (inner_lines indent block)

-- names, each behind a space
abbrev pub shown_names : List (List ℕ) → List ℕ
shown_names [] = []
shown_names (name ∷ names) = codes " " ++ name ++ shown_names names

-- the view of a division, with its place in the program's text
abbrev pub shown_division : List ℕ → Division → List ℕ
shown_division source d =
    line (codes "batch " ++ line_and_column source d.at)
    ++ line (codes "inputs" ++ shown_names d.inputs)
    ++ line (codes "script") ++ shown_steps (codes "  ") d.script.body
    ++ line (codes "remainder") ++ shown_parts (codes "  ") d.remainder

-- the views of divided batches, one after the other
abbrev pub shown_divisions : List ℕ → List Division → List ℕ
shown_divisions source [] = []
shown_divisions source (d ∷ ds) = shown_division source d ++ shown_divisions source ds
