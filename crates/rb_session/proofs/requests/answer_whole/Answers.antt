-- One request more is answered.
use Rattle.std.proofs.Common.{refl, ◌∙◌, arith}
use Rattle.rb_session.proofs.Streamed.{none_so_far, one_more_sliced, sliced}
use Rattle.rb_session.proofs.requests.answer_whole.Goals as goal

pub whole-init : goal.whole-init
whole-init c = record {
  so_far = none_so_far c.args.host.now c.args.bytes.now c.args.most c.args.out.now.items;
  typed = c.requires;
  service = refl;
}

pub whole-preserved : goal.whole-preserved
whole-preserved c =
    let said = c.in_ok-answer_frame-in-Whole.ensures in
    record {
      so_far = one_more_sliced _ _ _ _ _ _ _ _ c.in-Whole.size _ _ _ _ c.whole.invariant.service c.whole.invariant.so_far c.if-requests-most.true
          (sliced c.whole.at c.args.bytes.now) (omega arith) c.in-Whole.ensures said.gains;
      typed = said.typed;
      service = said.service ∙ c.whole.invariant.service;
    }
