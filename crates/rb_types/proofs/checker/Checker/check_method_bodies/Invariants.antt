use Rattle.std.proofs.Common.{◌≡◌, map, drop}
use Rattle.rb_trees.specs.mirror.Declarations.{mirror_method}
use Rattle.rb_types.specs.Steps.{methods}
use Rattle.rb_types.specs.Views.{declarations_of, notes_of}
use Rattle.rb_types.proofs.checker.Checker.check_method_bodies.Given as goal

abbrev pub invariant-loop-m : goal.invariant-loop-m
invariant-loop-m l = methods (declarations_of l.d) l.class (map mirror_method (drop l.m-index l.methods)) (notes_of l.self.notes)
    ≡ methods (declarations_of l.d) l.class (map mirror_method l.methods) (notes_of l.fn.self.notes)
