use Rattle.std.proofs.Common.{ℕ, ◌-◌, ◌+◌, length, arith, length-drop}
use Rattle.std.proofs.lemmas.Result.{err_from_is_err_and}
use Rattle.rb_base.specs.Devices.{device}
use Rattle.rb_journal.proofs.Looks.{glanced_call, glanced_fails, part_before, end_before, part_more, part_within}
use Rattle.rb_journal.proofs.reading.fill.Goals as goal

pub returns-in_err-count-clause-after : goal.returns-in_err-count-clause-after
returns-in_err-count-clause-after g c =
    let p = err_from_is_err_and c.from_residual.result c.from_residual.ensures.1 in
    let at = device g.D.Disk.told g.D.Disk.faults in
    rw p.1 (glanced_fails (at c.args.disk.now) (at c.reads.disk) (at c.read.new.self) c.reads.invariant.glanced c.in_err-count.ensures.after)

pub returns-then-count-eq0-clause-whole : goal.returns-then-count-eq0-clause-whole
returns-then-count-eq0-clause-whole g c = λ lt.
    let at = device g.D.Disk.told g.D.Disk.faults in
    let none = c.if-count-eq0.true in
    end_before (c.args.at + c.reads.done) (at c.args.disk.now) (at c.reads.disk) c.reads.invariant.glanced
    (c.in_ok-count.ensures.end (cc) (omega (arith, c.reads-test.true, length-drop {A = ℕ})))

pub returns-then-count-eq0-clause-after : goal.returns-then-count-eq0-clause-after
returns-then-count-eq0-clause-after g c =
    let at = device g.D.Disk.told g.D.Disk.faults in
    glanced_call (at c.args.disk.now) (at c.reads.disk) (at c.read.new.self) c.reads.invariant.glanced c.in_ok-count.ensures.after

pub reads-preserved : goal.reads-preserved
reads-preserved g c =
    let at = device g.D.Disk.told g.D.Disk.faults in
    let i = c.reads.invariant in
    let k = length c.reads.into - c.reads.done in
    record {
      within = part_within c.reads.done k c.in_ok-count.count c.reads.into c.read.new.into i.within c.in_ok-count.ensures.within;
      part = part_more c.args.at c.reads.done k c.in_ok-count.count c.reads.into c.read.new.into (g.D.Disk.told c.args.disk.now) i.within c.in_ok-count.ensures.within i.part
          (part_before (c.args.at + c.reads.done) c.in_ok-count.count c.read.new.into (at c.args.disk.now) (at c.reads.disk) i.glanced c.in_ok-count.ensures.part);
      glanced = glanced_call (at c.args.disk.now) (at c.reads.disk) (at c.read.new.self) i.glanced c.in_ok-count.ensures.after;
    }
