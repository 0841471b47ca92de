use Rattle.std.proofs.Common.{◌-◌, refl, ◌∙◌}
use Rattle.rb_wire_forest.specs.Opened.{opened}
use Rattle.rb_wire_forest.proofs.InArray.{set_length}
use Rattle.rb_wire_forest.proofs.CursorWalked.{deeper}
use Rattle.rb_wire_forest.proofs.CursorClosed.{turns_pass, entries_pass, rows_passed, node_passed, root_kept}
use Rattle.rb_wire_forest.proofs.cursor.Cursor.close.Goals as goal

pub returns-in_default-skip_turns : goal.returns-in_default-skip_turns
returns-in_default-skip_turns c = absurd (turns_pass c.args.self.now c.in-Some.turns _ c.in-Some.is c.in_default-skip_turns.ensures)

pub invariant_of-self-clause-full : goal.invariant_of-self-clause-full
invariant_of-self-clause-full c = set_length c.args.self.now.frames (c.args.self.now.depth - 1) _ ∙ c.args.self.now.full

pub invariant_of-self-clause-whole : goal.invariant_of-self-clause-whole
invariant_of-self-clause-whole c = (rows_passed c.args.self.now c.in-Some.turns c.in-Ok.rest.now c.in-Some.is c.in-Ok.ensures).whole

pub returns-in-Some : goal.returns-in-Some
unfolding opened
returns-in-Some c = (rows_passed c.args.self.now c.in-Some.turns c.in-Ok.rest.now c.in-Some.is c.in-Ok.ensures).step

pub returns-then-self-eq1 : goal.returns-then-self-eq1
returns-then-self-eq1 c = (root_kept c.args.self.now c.in_default.is c.if-self-eq1.true, refl)

pub returns-in_default-skip_left : goal.returns-in_default-skip_left
returns-in_default-skip_left c = absurd (entries_pass c.args.self.now _ c.in_default.is c.in_default-skip_left.ensures)

pub invariant_of-self-2-clause-some : goal.invariant_of-self-2-clause-some
invariant_of-self-2-clause-some c = deeper c.args.self.now c.if-self-eq1.false

pub invariant_of-self-2-clause-whole : goal.invariant_of-self-2-clause-whole
invariant_of-self-2-clause-whole c = (node_passed c.args.self.now c.in-Ok-skip_left.rest.now c.in_default.is c.if-self-eq1.false c.in-Ok-skip_left.ensures).whole

pub returns : goal.returns
unfolding opened
returns c = (node_passed c.args.self.now c.in-Ok-skip_left.rest.now c.in_default.is c.if-self-eq1.false c.in-Ok-skip_left.ensures).step
