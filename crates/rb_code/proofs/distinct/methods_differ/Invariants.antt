use Rattle.std.proofs.Common.{◌≡◌, map, take}
use Rattle.rb_trees.specs.mirror.Declarations.{mirror_method}
use Rattle.rb_code.specs.Differ.{MethodsDiffer}
use Rattle.rb_code.specs.Places.{names_of_methods}
use Rattle.rb_code.proofs.distinct.methods_differ.Given as goal

abbrev pub invariant-loop-method : goal.invariant-loop-method
invariant-loop-method l = (l.names ≡ names_of_methods (take l.method-index l.methods)) × MethodsDiffer (map mirror_method (take l.method-index l.methods))
