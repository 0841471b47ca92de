use Rattle.std.proofs.Common.{◌-◌, refl, ◌∙◌, arith}
use Rattle.rb_wire_forest.specs.Opened.{opened}
use Rattle.rb_wire_forest.proofs.InArray.{set_length}
use Rattle.rb_wire_forest.proofs.CursorWalked.{more_of, no_turn_in_node, no_turn_left, has_turn, turn_room, turn_taken}
use Rattle.rb_wire_forest.proofs.cursor.Cursor.turn.Goals as goal

pub returns-in_default : goal.returns-in_default
returns-in_default c = (no_turn_in_node c.args.self.now c.in_default.is, refl)

pub returns-then-turns-eq0 : goal.returns-then-turns-eq0
returns-then-turns-eq0 c = (no_turn_left c.args.self.now c.in-Some.turns c.in-Some.is c.if-turns-eq0.true, refl)

pub returns-in_default-number : goal.returns-in_default-number
returns-in_default-number c = absurd (has_turn c.args.self.now c.in-Some.turns _ c.in-Some.is (more_of _ c.if-turns-eq0.false) c.in_default-number.ensures)

pub bounds-self-self-3 : goal.bounds-self-self-3
bounds-self-self-3 c = turn_room c.args.self.now c.in-Some.turns c.in-Ok.count c.in-Ok.rest.now c.in-Some.is (more_of _ c.if-turns-eq0.false) c.in-Ok.ensures

pub invariant_of-self-clause-within : goal.invariant_of-self-clause-within
invariant_of-self-clause-within c =
    let room = turn_room c.args.self.now c.in-Some.turns c.in-Ok.count c.in-Ok.rest.now c.in-Some.is (more_of _ c.if-turns-eq0.false) c.in-Ok.ensures in
    omega arith

pub invariant_of-self-clause-full : goal.invariant_of-self-clause-full
invariant_of-self-clause-full c = set_length _ c.args.self.now.depth _ ∙ set_length c.args.self.now.frames (c.args.self.now.depth - 1) _ ∙ c.args.self.now.full

pub invariant_of-self-clause-whole : goal.invariant_of-self-clause-whole
invariant_of-self-clause-whole c = (turn_taken c.args.self.now c.in-Some.turns c.in-Ok.count c.in-Ok.rest.now c.in-Some.is (more_of _ c.if-turns-eq0.false) c.in-Ok.ensures).whole

pub returns : goal.returns
unfolding opened
returns c = (turn_taken c.args.self.now c.in-Some.turns c.in-Ok.count c.in-Ok.rest.now c.in-Some.is (more_of _ c.if-turns-eq0.false) c.in-Ok.ensures).step
