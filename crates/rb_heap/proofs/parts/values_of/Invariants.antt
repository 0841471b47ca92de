use Rattle.std.proofs.Common.{◌≡◌}
use Rattle.rb_heap.specs.Seen.{values_of}
use Rattle.rb_heap.proofs.parts.values_of.Given as goal

abbrev pub invariant-loop-name : goal.invariant-loop-name
invariant-loop-name l = l.values ≡ values_of l.yielded
