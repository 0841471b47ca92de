-- By what scripts' payloads mean, and the one spelling of forests and refusals.
use Rattle.rb_session.proofs.Once.{answered_once}
use Rattle.rb_session.proofs.laws.each_payload_has_one_answer.Goals as goal

pub returns : goal.returns
returns c = answered_once _ _ c.script_payloads_mean_one_thing.ensures.alone (λ version. (c.each_forest_has_one_spelling.ensures version).alone) c.each_refusal_has_one_spelling.ensures.alone
