-- Each reply is written behind those before it.
use Rattle.std.proofs.lemmas.Result.{err_from_is_err_and}
use Rattle.rb_hub.proofs.Written.{none_written, one_written, write_failed, all_written, some_replies}
use Rattle.rb_hub.proofs.delivering.write_replies.Goals as goal

pub loop-out-init : goal.loop-out-init
loop-out-init g c = none_written _ _

pub loop-out-preserved : goal.loop-out-preserved
loop-out-preserved g c =
    one_written _ _ _ _ _ _ _ c.loop-out-test.true c.out-item.is c.loop-out.invariant c.in_ok-write_reply.ensures.writes

pub returns-in_err-write_reply-clause-writes : goal.returns-in_err-write_reply-clause-writes
returns-in_err-write_reply-clause-writes g c =
    let p = err_from_is_err_and c.from_residual.result c.from_residual.ensures.1 in
    rw p.1 (write_failed _ _ _ _ _ _ _ c.loop-out-test.true c.out-item.is c.loop-out.invariant c.in_err-write_reply.ensures.writes)

pub returns-in_err-write_reply-clause-some : goal.returns-in_err-write_reply-clause-some
returns-in_err-write_reply-clause-some g c =
    let p = err_from_is_err_and c.from_residual.result c.from_residual.ensures.1 in
    rw p.1 (some_replies _ _ _ _ c.loop-out-test.true c.out-item.is c.in_err-write_reply.ensures.some)

pub returns-clause-writes : goal.returns-clause-writes
returns-clause-writes g c = all_written _ _ _ _ c.loop-out-test.false c.loop-out.invariant
