use Rattle.std.proofs.Common.{◌≡◌, [], map, drop}
use Rattle.rb_trees.specs.mirror.Declarations.{mirror_param}
use Rattle.rb_meaning_types.specs.Declarations.{check_params}
use Rattle.rb_types.specs.Views.{declarations_of}
use Rattle.rb_types.proofs.declarations.check_params.Given as goal

abbrev pub invariant-loop-param : goal.invariant-loop-param
invariant-loop-param l = check_params l.remote (declarations_of l.d) l.names (map mirror_param (drop l.param-index l.params))
    ≡ check_params l.remote (declarations_of l.d) [] (map mirror_param l.params)
