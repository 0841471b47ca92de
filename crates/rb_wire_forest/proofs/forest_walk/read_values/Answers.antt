use Rattle.std.proofs.Common.{◌+◌, get_or, drop, arith, rules}
use Rattle.rb_meaning_bytes.specs.Fits.{value_read, values_read}
use Rattle.rb_wire_forest.specs.ForestWalks.{walk_of}
use Rattle.rb_wire_forest.specs.Opened.{opened}
use Rattle.rb_wire_forest.proofs.Walked.{values_stopped}
use Rattle.rb_wire_forest.proofs.ForestWalked.{ends, stops, values_next}
use Rattle.rb_wire_forest.proofs.forest_walk.read_values.Goals as goal

pub returns-then-progress : goal.returns-then-progress
returns-then-progress c =
    ends (values_read (drop c.loop-step.step-index c.args.takes.now)) (values_read c.args.takes.now) (opened c.args.cursor.now) (opened c.loop-step.cursor) c.args.from c.loop-step.progress
    (λ es f. values_stopped (drop c.loop-step.step-index c.args.takes.now) (walk_of c.loop-step.progress es f) c.if-progress.true) c.loop-step.invariant

pub returns-in_err-progress : goal.returns-in_err-progress
returns-in_err-progress c =
    let at = c.loop-step.step-index in
    let takes = c.args.takes.now in
    stops (values_read (drop at takes)) (value_read (get_or takes at (0, 0)).0 (get_or takes at (0, 0)).1) (values_read (drop (at + 1) takes)) (values_read takes) (opened c.args.cursor.now) (opened c.loop-step.cursor) (opened c.read_value.new.cursor)
    c.args.from c.loop-step.progress c.in_err-progress.field-0.0 c.from_residual.result (values_next takes at (0, 0) c.loop-step.progress (omega arith) c.if-progress.false) c.loop-step.invariant c.in_err-progress.ensures (search rules)
