use Rattle.std.proofs.Common.{◌≡◌, ◌-◌, length}
use Rattle.rb_dump.specs.Leads.{Leads}
use Rattle.rb_dump.specs.Streams.{Tells}
use Rattle.rb_dump.proofs.frames.show_frames.Given as goal

abbrev pub invariant-frames : goal.invariant-frames
invariant-frames l = record {
  bytes : l.walk.bytes ≡ l.initial.walk.bytes;
  found : Leads Tells l.initial.walk l.walk l.verdict;
}

abbrev pub decreases-frames : goal.decreases-frames
decreases-frames l = length l.walk.bytes - l.walk.at
