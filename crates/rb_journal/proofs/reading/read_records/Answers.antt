use Rattle.std.proofs.Common.{◌≡◌, ◌+◌, ◌<◌, ◌∙◌, ℕ, List, Option, Some, None, Err, length, drop, arith, rules, sym, subst}
use Rattle.std.specs.Prelude.{IfSome}
use Rattle.std.proofs.lemmas.Result.{err_from_is_err_and}
use Rattle.rb_base.specs.Devices.{device}
use Rattle.rb_journal.specs.Form.{HasBadRecord}
use Rattle.rb_journal.specs.Readings.{WhereLong, FindsRecord}
use Rattle.rb_journal.specs.Replays.{Passes, Replays}
use Rattle.rb_journal.proofs.Looks.{glanced_twice, glances_then, long_before}
use Rattle.rb_journal.proofs.Records.{where_both, bad_record, passes_more}
use Rattle.rb_journal.proofs.reading.read_records.Goals as goal

pub returns-in_err-payload-clause-after : goal.returns-in_err-payload-clause-after
returns-in_err-payload-clause-after g c =
    let p = err_from_is_err_and c.from_residual-in_err-payload.result c.from_residual-in_err-payload.ensures.1 in
    let at = device g.D.Disk.told g.D.Disk.faults in
    rw (p.1, p.2) (glances_then {A = ℕ} (Err c.in_err-payload.field-0.0) (at c.args.disk.now) (at c.records.disk) (at c.record_at.new.disk) c.records.invariant.glanced c.in_err-payload.ensures.after)

pub returns-in_default-2-clause-read : goal.returns-in_default-2-clause-read
returns-in_default-2-clause-read g c =
    let at = device g.D.Disk.told g.D.Disk.faults in
    let t = g.D.Disk.told c.args.disk.now in
    let gate = c.records.at in
    let found = long_before (λ bytes. FindsRecord (drop (gate + 1) bytes) c.in_ok-payload.field-0) c.args.end (at c.args.disk.now) (at c.records.disk) c.records.invariant.glanced c.in_ok-payload.ensures.found in
    let none = subst (λ (o : Option (List ℕ × ℕ)). WhereLong t c.args.end (λ bytes. FindsRecord (drop (gate + 1) bytes) o)) c.in_default-2.is found in
    where_both (λ bytes. Passes bytes c.records.count c.records.gate gate c.args.host.now c.records.host) (λ bytes. FindsRecord (drop (gate + 1) bytes) None) (λ bytes. HasBadRecord bytes c.records.count) c.args.end t
    (λ bytes passes missing. bad_record bytes c.records.count c.records.gate gate c.args.host.now c.records.host c.records-test.true passes missing) c.records.invariant.passes none

pub returns-in_default-2-clause-after : goal.returns-in_default-2-clause-after
returns-in_default-2-clause-after g c =
    let at = device g.D.Disk.told g.D.Disk.faults in
    glanced_twice (at c.args.disk.now) (at c.records.disk) (at c.record_at.new.disk) c.records.invariant.glanced c.in_ok-payload.ensures.after

pub records-preserved : goal.records-preserved
records-preserved g c =
    let at = device g.D.Disk.told g.D.Disk.faults in
    let size : c.len.result ≡ length c.in-Some-2.payload = search rules in
    let t = g.D.Disk.told c.args.disk.now in
    let gate = c.records.at in
    let payload = c.in-Some-2.payload in
    let next = c.in-Some-2.next in
    let start = c.args.host.now in
    let host = c.records.host in
    let after = c.record_at.new.host in
    let room = subst (λ (o : Option (List ℕ × ℕ)). IfSome o (λ x. gate + 1 + 4 + length x.0 < c.args.end)) c.in-Some-2.is c.in_ok-payload.ensures.room in
    let found = long_before (λ bytes. FindsRecord (drop (gate + 1) bytes) c.in_ok-payload.field-0) c.args.end (at c.args.disk.now) (at c.records.disk) c.records.invariant.glanced c.in_ok-payload.ensures.found in
    let one = subst (λ (o : Option (List ℕ × ℕ)). WhereLong t c.args.end (λ bytes. FindsRecord (drop (gate + 1) bytes) o)) c.in-Some-2.is found in
    let performs : Replays host payload after =
    subst (λ (o : Option (List ℕ × ℕ)). IfSome o (λ x. Replays host x.0 after)) c.in-Some-2.is c.in_ok-payload.ensures.performs in
    record {
      room = omega (arith, room, size);
      few = omega (arith, c.records.invariant.few);
      passes = where_both (λ bytes. Passes bytes c.records.count c.records.gate gate start host) (λ bytes. FindsRecord (drop (gate + 1) bytes) (Some (payload, next)))
          (λ bytes. Passes bytes (c.records.count + 1) next (gate + (5 + c.len.result)) start after) c.args.end t
          (λ bytes passes here.
          subst (λ (n : ℕ). Passes bytes (c.records.count + 1) next (gate + (5 + n)) start after) (sym size)
          (passes_more bytes c.records.count c.records.gate gate start host after payload next c.records-test.true c.records.invariant.service performs passes here))
          c.records.invariant.passes one;
      glanced = glanced_twice (at c.args.disk.now) (at c.records.disk) (at c.record_at.new.disk) c.records.invariant.glanced c.in_ok-payload.ensures.after;
      typed = c.in_ok-payload.ensures.typed;
      service = c.in_ok-payload.ensures.service ∙ c.records.invariant.service;
    }
