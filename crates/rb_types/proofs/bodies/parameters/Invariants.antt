use Rattle.std.proofs.Common.{◌≡◌, map, take}
use Rattle.rb_trees.specs.mirror.Declarations.{mirror_param}
use Rattle.rb_meaning_types.specs.Scopes.{parameters}
use Rattle.rb_types.specs.Views.{scope_of}
use Rattle.rb_types.proofs.bodies.parameters.Given as goal

abbrev pub invariant-loop-param : goal.invariant-loop-param
invariant-loop-param l = scope_of l.scope ≡ parameters (map mirror_param (take l.param-index l.params))
