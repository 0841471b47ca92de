use Rattle.std.proofs.Common.{◌≡◌, take}
use Rattle.rb_heap.specs.Seen.{names_of}
use Rattle.rb_heap.proofs.parts.copy_names_of.Given as goal

abbrev pub invariant-loop-field : goal.invariant-loop-field
invariant-loop-field l = l.names ≡ names_of (take l.field-index l.fields)
