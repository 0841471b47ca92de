use Rattle.std.proofs.Common.{◌≡◌, take}
use Rattle.rb_heap.proofs.stored.copy_objects.Given as goal

abbrev pub invariant-loop-stored : goal.invariant-loop-stored
invariant-loop-stored l = l.copies ≡ take l.stored-index l.objects
