-- Scripts in the mirror.
use Rattle.std.specs.Prelude.{ℕ, List}
use Rattle.rb_trees.specs.declared.code.BinOp.{BinOp}
use Rattle.rb_trees.specs.declared.scripts.Script as script
use Rattle.rb_trees.specs.declared.values.Value.{Value}
use Rattle.rb_trees.specs.declared.versions.Version.TheVariants.{Two}
use Rattle.rb_meaning_bytes.specs.formats.Messages.{Sent}
use Rattle.rb_trees.specs.declared.scripts.SExpr as tree
use Rattle.rb_trees.specs.declared.scripts.Invocation.{Invocation}
use Rattle.rb_trees.specs.declared.scripts.Operands.{Operands}
use Rattle.rb_trees.specs.mirror.Scripts.{SExpr, Binary, Call, mirror_sexpr, mirror_sexprs, mirror_script}
use Rattle.serde_json.specs.Data.{Data}
use Rattle.rb_json.specs.Writes.{expr_data}

-- both operands of an operator
abbrev pub both : Operands tree.SExpr → SExpr × SExpr
both operands = (mirror_sexpr operands.left, mirror_sexpr operands.right)

-- a script with the values of its inputs, as version 2 sends it
abbrev pub sent : script.Script → List Value → Sent
sent s values = record { version = Two; script = mirror_script s; values = values }

-- expressions of two forms as JSON values
abbrev pub binary_data : BinOp → ℕ → Operands tree.SExpr → Data
binary_data op at operands = expr_data (Binary op at (mirror_sexpr operands.left) (mirror_sexpr operands.right))

abbrev pub call_data : ℕ → ℕ → Invocation tree.SExpr → Data
call_data kind at call = expr_data (Call at kind call.method (mirror_sexpr call.target) (mirror_sexprs call.args))
