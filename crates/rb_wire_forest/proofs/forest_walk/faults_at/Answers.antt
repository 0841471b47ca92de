use Rattle.std.proofs.Common.{sym, ap, ◌∙◌}
use Rattle.rb_meaning_bytes.specs.Fits.{is_at}
use Rattle.rb_wire_forest.specs.Opened.{opened}
use Rattle.rb_wire_forest.proofs.ForestWalked.{fault_told, raised_before, fault_at}
use Rattle.rb_wire_forest.proofs.forest_walk.faults_at.Goals as goal

pub returns-then-from : goal.returns-then-from
returns-then-from c es f around h = raised_before c.args.from c.args.step es f c.if-from.true

pub returns-in-Some : goal.returns-in-Some
returns-in-Some c es f around h =
    sym (ap (λ o. is_at c.args.step o) c.in-Some.is) ∙ fault_at c.args.from c.args.step es f c.fault_step.result (opened c.args.cursor.now) c.if-from.false (fault_told _ es f around h) c.fault_step.ensures

pub returns-in-None : goal.returns-in-None
returns-in-None c es f around h =
    sym (ap (λ o. is_at c.args.step o) c.in-None.is) ∙ fault_at c.args.from c.args.step es f c.fault_step.result (opened c.args.cursor.now) c.if-from.false (fault_told _ es f around h) c.fault_step.ensures
