use mir.Facts.{Fits-lt-pow}
use Rattle.rb_meaning_bytes.specs.formats.Fields.{IsBytes}
use Rattle.rb_meaning_bytes.specs.formats.ScriptMessages.{script_message}
use Rattle.rb_meaning_bytes.proofs.formats.Exact.{all_spells, left_within}
use Rattle.rb_wire_script.specs.Stops.{refusal_of, seen}
use Rattle.rb_wire_script.proofs.Payloads.{accepted, denied, violated_at}
use Rattle.rb_wire_script.proofs.decoding.decoded.Goals as goal

pub overflow_sub-result : goal.overflow_sub-result
overflow_sub-result c =
    let b : IsBytes c.args.payload.now = λ i. Fits-lt-pow (c.type_inv.payload i) in
    rw c.in-Err-Refused.field-0-is (left_within script_message _ _ c.in-Err-Refused.violation.left b (rw c.in-Err-Refused.field-0-is at c.in-Err-Refused.ensures))

pub returns-in-Ok-judge : goal.returns-in-Ok-judge
returns-in-Ok-judge c = accepted _ (seen c.in-Ok.sent) (all_spells script_message _ _ (λ i. Fits-lt-pow (c.type_inv.payload i)) c.in-Ok.ensures) c.in-Ok-judge.ensures

pub returns-in-Err : goal.returns-in-Err
returns-in-Err c = denied _ (seen c.in-Ok.sent) (refusal_of c.in-Err.stop) (all_spells script_message _ _ (λ i. Fits-lt-pow (c.type_inv.payload i)) c.in-Ok.ensures) c.in-Err.ensures

pub returns-in-Err-Refused : goal.returns-in-Err-Refused
returns-in-Err-Refused c =
    let b : IsBytes c.args.payload.now = λ i. Fits-lt-pow (c.type_inv.payload i) in
    rw c.in-Err-Refused.field-0-is (violated_at _ _ _ c.in-Err-Refused.violation.left b c.version_of.ensures (rw c.in-Err-Refused.field-0-is at c.in-Err-Refused.ensures))
