use Rattle.std.proofs.Common.{sym}
use Rattle.rb_wire_forest.proofs.CursorShown.{no_turn_open, last_turn_shown, turns_tell}
use Rattle.rb_wire_forest.proofs.cursor.Cursor.ends_early.Goals as goal

pub returns-in_default : goal.returns-in_default
returns-in_default c = sym (no_turn_open c.args.self.now c.in_default.is)

pub returns-in-Ok : goal.returns-in-Ok
returns-in-Ok c = last_turn_shown c.args.self.now c.in-Some.turns c.in-Ok.early _ c.in-Some.is c.in-Ok.ensures

pub returns-in-Err : goal.returns-in-Err
returns-in-Err c = absurd (turns_tell c.args.self.now c.in-Some.turns _ c.in-Some.is c.in-Err.ensures)
