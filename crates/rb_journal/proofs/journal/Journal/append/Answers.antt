use Rattle.std.proofs.Common.{◌∙◌}
use Rattle.rb_journal.proofs.Appended.{stays, kept, moments, cut}
use Rattle.rb_journal.proofs.journal.Journal.append.Goals as goal

pub returns-then-size-saturating_sub-clause-any_moment :
    goal.returns-then-size-saturating_sub-clause-any_moment
returns-then-size-saturating_sub-clause-any_moment g c = λ payloads k. stays g.D.Disk.told g.D.Disk.faults c.args.self.now payloads c.args.payload.now k

pub returns-in_err-text-clause-any_moment : goal.returns-in_err-text-clause-any_moment
returns-in_err-text-clause-any_moment g c = λ payloads k. stays g.D.Disk.told g.D.Disk.faults c.args.self.now payloads c.args.payload.now k

pub returns-in-Ok-clause-kept : goal.returns-in-Ok-clause-kept
returns-in-Ok-clause-kept g c = λ payloads k.
    kept g.D.Disk.told g.D.Disk.faults c.self.inside.disk c.write_text.new.disk c.self.inside.gate c.self.inside.closed c.args.self.now c.as_slice.result.now c.args.payload.now payloads
    c.self.view_is c.if-self.false c.requires (c.as_slice.ensures ∙ c.in_ok-text.ensures) c.in-Ok.ensures k

pub returns-in-Ok-clause-any_moment : goal.returns-in-Ok-clause-any_moment
returns-in-Ok-clause-any_moment g c = λ payloads k.
    moments g.D.Disk.told g.D.Disk.faults c.self.inside.disk c.write_text.new.disk c.self.inside.gate c.self.inside.closed c.args.self.now c.as_slice.result.now c.args.payload.now payloads
    c.self.view_is c.requires (c.as_slice.ensures ∙ c.in_ok-text.ensures) c.in-Ok.ensures k

pub returns-clause-any_moment : goal.returns-clause-any_moment
returns-clause-any_moment g c = λ payloads k.
    cut g.D.Disk.told g.D.Disk.faults c.self.inside.disk c.write_text.new.disk c.self.inside.gate c.self.inside.closed c.args.self.now c.as_slice.result.now c.args.payload.now payloads
    c.self.view_is c.requires (c.as_slice.ensures ∙ c.in_ok-text.ensures) c.in-Err.ensures k
