use Rattle.std.proofs.Common.{◌+◌, ℕ, Option, drop, subst}
use Rattle.std.proofs.lemmas.Result.{IfOk-weaker}
use Rattle.rb_base.specs.Devices.{device}
use Rattle.rb_journal.specs.Readings.{WhereLong, FindsSize, FindsPayload}
use Rattle.rb_journal.proofs.Looks.{glances_then, where_before}
use Rattle.rb_journal.proofs.Records.{record_where}
use Rattle.rb_journal.proofs.reading.record_at.Goals as goal

pub returns-in-Some-clause-found : goal.returns-in-Some-clause-found
returns-in-Some-clause-found g c =
    let at = device g.D.Disk.told g.D.Disk.faults in
    let size = c.in-Some.size in
    let has_size = subst (λ (o : Option ℕ). WhereLong (g.D.Disk.told c.args.disk.now) c.args.end (λ bytes. FindsSize (drop c.args.at bytes) o)) c.in-Some.is c.in_ok-size_at.ensures.found in
    IfOk-weaker c.payload_at.result _ _
    (λ found h. record_where c.args.at c.args.end size found (g.D.Disk.told c.args.disk.now) has_size
    (where_before (λ bytes. FindsPayload (drop (c.args.at + 4) bytes) size found) (at c.args.disk.now) (at c.size_at.new.disk) c.in_ok-size_at.ensures.after h))
    c.payload_at.ensures.found

pub returns-in-Some-clause-after : goal.returns-in-Some-clause-after
returns-in-Some-clause-after g c =
    let at = device g.D.Disk.told g.D.Disk.faults in
    glances_then c.payload_at.result (at c.args.disk.now) (at c.size_at.new.disk) (at c.payload_at.new.disk) c.in_ok-size_at.ensures.after c.payload_at.ensures.after
