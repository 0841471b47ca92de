-- What needs no evaluation.
use Rattle.std.specs.Prelude.{Option, Some, None, slice_get}
use Rattle.rb_trees.specs.declared.values.Value.{Value}
use Rattle.rb_trees.specs.mirror.Scripts as script
use Rattle.rb_trees.specs.mirror.Scripts.{SExpr}
use Rattle.rb_meaning_code.specs.ScriptRun.{latest}
use Rattle.rb_exec.specs.declared.expressions.Scope.{Scope}

-- the value that an expression stands for already: a literal's, or that of an input or a variable that is there
abbrev pub lent_value : Scope → SExpr → Option Value
lent_value x (script.Lit v) = Some v
lent_value x (script.Input number) = slice_get x.site.stage.now.inputs.now number
lent_value x (script.Var number) = latest x.variables.now number
lent_value x _ = None
