use Rattle.std.proofs.Common.{sym, ap, ◌∙◌, arith}
use Rattle.rb_meaning_bytes.specs.Fits.{step_of}
use Rattle.rb_wire_forest.proofs.CursorShown.{step_at_end}
use Rattle.rb_wire_forest.proofs.CursorWalked.{no_fault_in_rows, no_fault_before_end}
use Rattle.rb_wire_forest.proofs.cursor.Cursor.fault_step.Goals as goal
use Rattle.rb_wire_forest.proofs.cursor.Cursor.fault_step.Goals.{then-is_some-via-then-is_some, then-is_some-via-else-is_some+then-top-gt0}

pub returns-then-is_some : goal.returns-then-is_some
returns-then-is_some c = elim c.then-is_some.branch [ then-is_some-via-then-is_some w ↦ sym (ap step_of (no_fault_in_rows c.args.self.now (cc))) | then-is_some-via-else-is_some+then-top-gt0 w ↦ sym (ap step_of (no_fault_before_end c.args.self.now (cc) (omega (arith, w.if-top-gt0)))) ]

pub returns : goal.returns
returns c = step_at_end c.args.self.now _ (sym c.is_some.ensures ∙ c.if-is_some.false) (omega (arith, c.if-top-gt0)) c.end_step.ensures
