use Rattle.rb_meaning_frames.specs.Frames.{IsRightBefore}
use Rattle.rb_session.specs.Fronts.{is_between}
use Rattle.rb_session.proofs.frames.wrong_at.Given as goal

abbrev pub invariant-loop-at : goal.invariant-loop-at
invariant-loop-at l = IsRightBefore (is_between l.least l.most) l.at l.bytes
