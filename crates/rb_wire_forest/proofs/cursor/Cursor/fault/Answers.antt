use Rattle.std.proofs.Common.{sym, ◌∙◌, arith}
use Rattle.rb_wire_forest.proofs.CursorWalked.{no_fault_in_rows, no_fault_before_end, fault_is, has_ending, none_of}
use Rattle.rb_wire_forest.proofs.cursor.Cursor.fault.Goals as goal
use Rattle.rb_wire_forest.proofs.cursor.Cursor.fault.Goals.{then-is_some-via-then-is_some, then-is_some-via-else-is_some+then-top-gt0}

pub returns-then-is_some : goal.returns-then-is_some
returns-then-is_some c = elim c.then-is_some.branch [ then-is_some-via-then-is_some w ↦ sym (no_fault_in_rows c.args.self.now (cc)) | then-is_some-via-else-is_some+then-top-gt0 w ↦ sym (no_fault_before_end c.args.self.now (cc) (omega (arith, w.if-top-gt0))) ]

pub returns-in-Ok : goal.returns-in-Ok
returns-in-Ok c = fault_is c.args.self.now _ c.in-Ok.field-0-1.now (sym c.is_some.ensures ∙ c.if-is_some.false) (omega (arith, c.if-top-gt0)) c.in-Ok.ensures

pub returns-in-Err : goal.returns-in-Err
returns-in-Err c = absurd (has_ending c.args.self.now _ (none_of _ (sym c.is_some.ensures ∙ c.if-is_some.false)) (omega (arith, c.if-top-gt0)) c.in-Err.ensures)
