use Rattle.std.proofs.Common.{◌-◌, refl, sym, ◌∙◌}
use Rattle.rb_wire_forest.specs.Opened.{opened}
use Rattle.rb_wire_forest.specs.CursorSteps.{next_rows}
use Rattle.rb_wire_forest.proofs.InArray.{set_length}
use Rattle.rb_wire_forest.proofs.CursorWalked.{on_rows, blocked_rows, blocked_end, rows_taken, value_is_no_rows, branch_is_no_rows, has_front, more_of, head_value, head_branch, head_rows, head_none}
use Rattle.rb_wire_forest.proofs.cursor.Cursor.rows.Goals as goal
use Rattle.rb_wire_forest.proofs.cursor.Cursor.rows.Goals.{then-is_some-via-then-is_some, then-is_some-via-else-is_some+then-top-eq0}

pub returns-then-is_some : goal.returns-then-is_some
returns-then-is_some c = elim c.then-is_some.branch [ then-is_some-via-then-is_some w ↦ (blocked_rows next_rows c.args.self.now on_rows (cc), refl) | then-is_some-via-else-is_some+then-top-eq0 w ↦ (blocked_end next_rows c.args.self.now on_rows (cc) (cc), refl) ]

pub returns-in-None : goal.returns-in-None
returns-in-None c = absurd (has_front c.args.self.now (sym c.is_some.ensures ∙ c.if-is_some.false) (more_of _ c.if-top-eq0.false) (head_none c.args.self.now.version c.first_head.result _ c.first_head.ensures c.in-None.is))

pub invariant_of-self-clause-full : goal.invariant_of-self-clause-full
invariant_of-self-clause-full c = set_length c.args.self.now.frames (c.args.self.now.depth - 1) _ ∙ c.args.self.now.full

pub invariant_of-self-clause-whole : goal.invariant_of-self-clause-whole
invariant_of-self-clause-whole c = (rows_taken c.args.self.now c.in-Some-Rows-default.count c.in-Some-Rows-default.rest.now (sym c.is_some.ensures ∙ c.if-is_some.false) (more_of _ c.if-top-eq0.false)
    (head_rows c.args.self.now.version c.first_head.result _ c.in-Some-Rows-default.field-0-0 c.in-Some-Rows-default.rest c.in-Some-Rows-default.count c.first_head.ensures c.in-Some-Rows-default.is c.in-Some-Rows-default.field-0-0-is)).whole

pub returns-in-Some-Rows-default : goal.returns-in-Some-Rows-default
unfolding opened
returns-in-Some-Rows-default c = (rows_taken c.args.self.now c.in-Some-Rows-default.count c.in-Some-Rows-default.rest.now (sym c.is_some.ensures ∙ c.if-is_some.false) (more_of _ c.if-top-eq0.false)
    (head_rows c.args.self.now.version c.first_head.result _ c.in-Some-Rows-default.field-0-0 c.in-Some-Rows-default.rest c.in-Some-Rows-default.count c.first_head.ensures c.in-Some-Rows-default.is c.in-Some-Rows-default.field-0-0-is)).step

pub returns-in-Some-Value-default : goal.returns-in-Some-Value-default
returns-in-Some-Value-default c = (
  value_is_no_rows c.args.self.now _ c.in-Some-Value-default.field-0-1.now (sym c.is_some.ensures ∙ c.if-is_some.false) (more_of _ c.if-top-eq0.false)
      (head_value c.args.self.now.version c.first_head.result _ c.in-Some-Value-default.field-0-0 c.in-Some-Value-default.field-0-1 _ c.first_head.ensures c.in-Some-Value-default.is c.in-Some-Value-default.field-0-0-is),
  refl,
)

pub returns-in-Some-Branch-default : goal.returns-in-Some-Branch-default
returns-in-Some-Branch-default c = (
  branch_is_no_rows c.args.self.now c.in-Some-Branch-default.field-0-0-0 c.in-Some-Branch-default.field-0-0-1 c.in-Some-Branch-default.field-0-1.now (sym c.is_some.ensures ∙ c.if-is_some.false) (more_of _ c.if-top-eq0.false)
      (head_branch c.args.self.now.version c.first_head.result _ c.in-Some-Branch-default.field-0-0 c.in-Some-Branch-default.field-0-1 _ _ c.first_head.ensures c.in-Some-Branch-default.is c.in-Some-Branch-default.field-0-0-is),
  refl,
)
