-- One request more is gathered.
use Rattle.std.proofs.Common.{arith}
use Rattle.rb_session.proofs.Streamed.{none_gathered, one_more_gathered, sliced}
use Rattle.rb_session.proofs.requests.gather_whole.Goals as goal

pub whole-init : goal.whole-init
whole-init c = none_gathered c.args.bytes.now c.args.most c.args.whole.now

pub whole-preserved : goal.whole-preserved
whole-preserved c =
    one_more_gathered _ _ _ _ _ _ c.in-Whole.size _ _ _ _ c.whole.invariant c.if-requests-most.true (sliced c.whole.at c.args.bytes.now) (omega arith)
    c.in-Whole.ensures c.in_ok-payload-in-Whole.ensures c.in_ok-push-in-Whole.ensures.ok
