use Rattle.std.proofs.Common.{◌≡◌, ◌+◌, drop, map}
use Rattle.rb_trees.specs.mirror.Declarations.{mirror_method}
use Rattle.rb_meaning_types.specs.Batches.{method_batches}
use Rattle.rb_types.proofs.batches.count_methods.Given as goal

abbrev pub invariant-loop-m : goal.invariant-loop-m
invariant-loop-m l = l.sum + method_batches (map mirror_method (drop l.m-index l.methods)) ≡ l.fn.count + method_batches (map mirror_method l.methods)
