-- What needs no evaluation.
use Rattle.std.specs.Prelude.{Option, Some, None}
use Rattle.rb_trees.specs.Named.{lookup}
use Rattle.rb_trees.specs.declared.values.Value.{Value}
use Rattle.rb_trees.specs.mirror.Code as code
use Rattle.rb_trees.specs.mirror.Code.{Expr}
use Rattle.rb_meaning_code.specs.State.{Names, this_name}

-- the value that an expression stands for already: a literal's, or that of a name in scope or of `this`
abbrev pub lent_value : Names → Expr → Option Value
lent_value names (code.Lit at v) = Some v
lent_value names (code.Name at name) = lookup names name
lent_value names (code.This at) = lookup names this_name
lent_value names _ = None
