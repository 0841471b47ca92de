use Rattle.std.proofs.Common.{sym, ◌∙◌}
use Rattle.rb_wire_forest.proofs.CursorShown.{no_entry_in_rows, no_entry_at_end, entry_there}
use Rattle.rb_wire_forest.proofs.CursorWalked.{more_of}
use Rattle.rb_wire_forest.proofs.cursor.Cursor.has_entry.Goals as goal
use Rattle.rb_wire_forest.proofs.cursor.Cursor.has_entry.Goals.{then-is_some-via-then-is_some, then-is_some-via-else-is_some+then-top-eq0}

pub returns-then-is_some : goal.returns-then-is_some
returns-then-is_some c = elim c.then-is_some.branch [ then-is_some-via-then-is_some w ↦ sym (no_entry_in_rows c.args.self.now (cc)) | then-is_some-via-else-is_some+then-top-eq0 w ↦ sym (no_entry_at_end c.args.self.now (cc) (cc)) ]

pub returns : goal.returns
returns c = sym (entry_there c.args.self.now (sym c.is_some.ensures ∙ c.if-is_some.false) (more_of _ c.if-top-eq0.false))
