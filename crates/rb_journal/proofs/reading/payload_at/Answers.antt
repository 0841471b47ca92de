use Rattle.std.proofs.Common.{◌≡◌, ◌+◌, ℕ, Bool, true, List, length, take, drop, get_or, arith, subst, sym, ◌∙◌, ap, rules}
use Rattle.std.specs.Prelude.{Some}
use Rattle.std.proofs.lemmas.List.{take_at, get_or_default}
use Rattle.rb_journal.specs.Form.{IsAccepted}
use Rattle.rb_journal.specs.Readings.{WhereTold, FindsPayload}
use Rattle.rb_journal.specs.Replays.{Tries}
use Rattle.rb_journal.proofs.Records.{payload_found}
use Rattle.rb_journal.proofs.reading.payload_at.Goals as goal

pub returns-clause-found : goal.returns-clause-found
returns-clause-found g c =
    let into = c.fill.new.into in
    let size = c.args.size in
    let len_is : length into ≡ c.in_ok-text.text.len = omega (arith, c.fill.auto.into, c.as_mut_slice.ensures.len) in
    let text_size : length into ≡ size + 1 = omega (arith, len_is, c.in_ok-text.ensures.len) in
    let payload_is : c.truncate.new.self.items ≡ take size into = c.truncate.ensures.items ∙ ap (λ (l : List ℕ). take size l) (take_at into _ c.in_ok-text.text.len len_is) in
    let gate_is : c.index-gate.result.now ≡ get_or into size 0 =
    c.index-gate.ensures ∙ ap (λ (l : List ℕ). get_or l size c.index-gate.result.now) (take_at into _ c.in_ok-text.text.len len_is) ∙ get_or_default into size c.index-gate.result.now 0 (omega (arith, text_size)) in
    let is_one : c.in_ok-replay.field-0 ≡ true = search rules in
    let tried = subst (λ (b : Bool). Tries b c.args.host.now c.as_slice.result.now c.replay.new.host) is_one c.in_ok-replay.ensures.tries in
    let accepted : IsAccepted (take size into) = subst IsAccepted (c.as_slice.ensures.value ∙ payload_is) (tried.0, tried.1) in
    subst (λ (p : List ℕ). WhereTold (g.D.Disk.told c.args.disk.now) (λ bytes. FindsPayload (drop c.args.at bytes) size (Some (p, c.index-gate.result.now)))) (sym (c.from_vec.ensures ∙ payload_is))
    (payload_found c.args.at size c.in_ok-count.count into text_size (omega arith) c.in_ok-count.ensures.within (g.D.Disk.told c.args.disk.now) c.index-gate.result.now c.in_ok-count.ensures.part gate_is accepted)
