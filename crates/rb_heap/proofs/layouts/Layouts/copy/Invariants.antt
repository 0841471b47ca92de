use Rattle.std.proofs.Common.{◌≡◌, take}
use Rattle.rb_heap.proofs.layouts.Layouts.copy.Given as goal

abbrev pub invariant-loop-layout : goal.invariant-loop-layout
invariant-loop-layout l = l.copies ≡ take l.layout-index l.layout-items
