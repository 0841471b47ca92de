use Rattle.std.proofs.Common.{◌≡◌, [], map, drop}
use Rattle.rb_trees.specs.mirror.Declarations.{mirror_method}
use Rattle.rb_meaning_types.specs.Declarations.{check_methods}
use Rattle.rb_types.specs.Views.{declarations_of}
use Rattle.rb_types.proofs.declarations.check_methods.Given as goal

abbrev pub invariant-loop-m : goal.invariant-loop-m
invariant-loop-m l = check_methods (declarations_of l.d) l.names (map mirror_method (drop l.m-index l.methods))
    ≡ check_methods (declarations_of l.d) [] (map mirror_method l.methods)
