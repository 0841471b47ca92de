use Rattle.rb_meaning_frames.specs.Frames.{is_kind, IsRightBefore}
use Rattle.rb_dump.proofs.frames.wrong_at.Given as goal

abbrev pub invariant-loop-at : goal.invariant-loop-at
invariant-loop-at l = IsRightBefore is_kind l.at l.bytes
