use Rattle.rb_meaning_frames.proofs.InOrder.{each_in_order}
use Rattle.rb_meaning_frames.proofs.laws.each_session_is_in_order.Goals as goal

pub returns : goal.returns
returns c = each_in_order c.streams_are_read.ensures.stay c.streams_are_read.ensures.streams
