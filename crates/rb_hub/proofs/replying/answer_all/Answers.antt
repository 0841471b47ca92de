-- Each request is answered behind those before it.
use Rattle.std.proofs.Common.{◌∙◌}
use Rattle.std.proofs.lemmas.Result.{err_from_is_err_and}
use Rattle.rb_hub.proofs.Replied.{none_so_far, one_more, left_by, left_memory, answered_all}
use Rattle.rb_hub.proofs.replying.answer_all.Goals as goal

pub loop-payload-init : goal.loop-payload-init
loop-payload-init g c = record { so_far = none_so_far g.A.Answers c.args.answers.now _ _ _; ready = c.requires.ready }

pub loop-payload-preserved : goal.loop-payload-preserved
loop-payload-preserved g c =
    let said = c.in_ok-frame.ensures in
    record {
      so_far = one_more g.A.Answers c.args.answers.now c.loop-payload.answers c.reply_frame.new.answers _ _ _ _ _ _ _ _ c.push.new.self c.histories_go_on.ensures.replies c.loop-payload-test.true
          (c.as_slice.ensures ∙ c.payload-item.is) c.loop-payload.invariant.so_far said.replies said.service c.in_ok-push.ensures.ok;
      ready = said.ready;
    }

pub returns-in_err-frame-clause-replies : goal.returns-in_err-frame-clause-replies
returns-in_err-frame-clause-replies g c =
    let p = err_from_is_err_and c.from_residual.result c.from_residual.ensures.1 in
    rw (p.1, p.2)
    (left_by g.A.Answers c.args.answers.now c.loop-payload.answers c.reply_frame.new.answers _ _ _ _ _ _ _ _ c.loop-payload-test.true (c.as_slice.ensures ∙ c.payload-item.is)
    c.loop-payload.invariant.so_far c.in_err-frame.ensures.replies)

pub returns-in_err-push-clause-replies : goal.returns-in_err-push-clause-replies
returns-in_err-push-clause-replies g c =
    let p = err_from_is_err_and c.from_residual-in_err-push.result c.from_residual-in_err-push.ensures.1 in
    rw (p.1, p.2)
    (left_memory g.A.Answers c.args.answers.now c.loop-payload.answers c.reply_frame.new.answers _ _ _ _ _ _ _ _ c.push.new.self c.loop-payload-test.true (c.as_slice.ensures ∙ c.payload-item.is)
    c.loop-payload.invariant.so_far c.in_ok-frame.ensures.replies c.in_err-push.ensures.err)

pub returns-clause-replies : goal.returns-clause-replies
returns-clause-replies g c = answered_all g.A.Answers c.args.answers.now c.loop-payload.answers _ _ _ _ _ c.loop-payload-test.false c.loop-payload.invariant.so_far
