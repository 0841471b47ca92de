use Rattle.std.proofs.Common.{◌-◌, refl, ◌∙◌, arith}
use Rattle.rb_wire_forest.specs.Opened.{opened}
use Rattle.rb_wire_forest.proofs.InArray.{set_length}
use Rattle.rb_wire_forest.proofs.CursorWalked.{has_ending, rows_stay, entries_stay, root_stays, rows_closed, node_closed, deeper}
use Rattle.rb_wire_forest.proofs.cursor.Cursor.leave.Goals as goal
use Rattle.rb_wire_forest.proofs.cursor.Cursor.leave.Goals.{then-top-gt0-via-then-top-gt0, then-top-gt0-via-else-top-gt0+then-self-eq1}

pub returns-then-turns-gt0 : goal.returns-then-turns-gt0
returns-then-turns-gt0 c = (rows_stay c.args.self.now c.in-Some.turns c.in-Some.is (omega (arith, c.if-turns-gt0)), refl)

pub invariant_of-self-clause-full : goal.invariant_of-self-clause-full
invariant_of-self-clause-full c = set_length c.args.self.now.frames (c.args.self.now.depth - 1) _ ∙ c.args.self.now.full

pub invariant_of-self-clause-whole : goal.invariant_of-self-clause-whole
invariant_of-self-clause-whole c = (rows_closed c.args.self.now c.in-Some.turns c.in-Some.is (omega (arith, c.if-turns-gt0))).whole

pub returns-in-Some : goal.returns-in-Some
unfolding opened
returns-in-Some c = (rows_closed c.args.self.now c.in-Some.turns c.in-Some.is (omega (arith, c.if-turns-gt0))).step

pub returns-then-top-gt0 : goal.returns-then-top-gt0
returns-then-top-gt0 c = elim c.then-top-gt0.branch [
  | then-top-gt0-via-then-top-gt0 w ↦ (entries_stay c.args.self.now c.in_default.is (omega (arith, w.if-top-gt0)), refl)
  | then-top-gt0-via-else-top-gt0+then-self-eq1 w ↦ (root_stays c.args.self.now c.in_default.is (omega (arith, w.if-top-gt0)) (omega (arith, w.if-self-eq1)), refl)
]

pub returns-in_default-end : goal.returns-in_default-end
returns-in_default-end c = absurd (has_ending c.args.self.now _ c.in_default.is (omega (arith, c.if-top-gt0)) c.in_default-end.ensures)

pub invariant_of-self-2-clause-some : goal.invariant_of-self-2-clause-some
invariant_of-self-2-clause-some c = deeper c.args.self.now c.if-self-eq1.false

pub invariant_of-self-2-clause-whole : goal.invariant_of-self-2-clause-whole
invariant_of-self-2-clause-whole c = (node_closed c.args.self.now _ c.in-Ok.rest.now c.in_default.is (omega (arith, c.if-top-gt0)) c.if-self-eq1.false c.in-Ok.ensures).whole

pub returns : goal.returns
unfolding opened
returns c = (node_closed c.args.self.now _ c.in-Ok.rest.now c.in_default.is (omega (arith, c.if-top-gt0)) c.if-self-eq1.false c.in-Ok.ensures).step
