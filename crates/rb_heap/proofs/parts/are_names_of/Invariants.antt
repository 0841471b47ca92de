use Rattle.std.proofs.Common.{◌≡◌, take}
use Rattle.rb_heap.specs.Seen.{names_of}
use Rattle.rb_heap.proofs.parts.are_names_of.Given as goal

abbrev pub invariant-loop-place : goal.invariant-loop-place
invariant-loop-place l = take l.place l.names ≡ names_of (take l.place l.fields)
