use Rattle.std.proofs.Common.{◌+◌, drop}
use Rattle.std.proofs.lemmas.Result.{err_from_is_err_and}
use Rattle.rb_meaning.specs.Shown.{line}
use Rattle.rb_hub_lines.specs.Shown.{out_lines, shown_out}
use Rattle.rb_top.proofs.PlayedOn.{next_out, no_more_said, none_said}
use Rattle.rb_top.proofs.Printed.{all_written, line_stopped, line_written}
use Rattle.rb_top.proofs.hub_run.say_outs.Goals as goal

pub loop-one-init : goal.loop-one-init
loop-one-init g c = none_said c.args.given.now _

pub loop-one-preserved : goal.loop-one-preserved
loop-one-preserved g c =
    line_written _ _ _ (out_lines c.args.given.now) (out_lines (drop c.loop-one.one-index c.args.given.now)) (line (shown_out c.one-item.result)) (out_lines (drop (c.loop-one.one-index + 1) c.args.given.now)) c.loop-one.invariant
    (next_out c.args.given.now c.loop-one.one-index c.one-item.result c.loop-one-test.true c.one-item.is) c.in_ok-say_out.ensures

pub returns-in_err-say_out : goal.returns-in_err-say_out
returns-in_err-say_out g c =
    let p = err_from_is_err_and c.from_residual.result c.from_residual.ensures.1 in
    rw (p.1, p.2)
    (line_stopped c.in_err-say_out.field-0.0 _ _ _ (out_lines c.args.given.now) (out_lines (drop c.loop-one.one-index c.args.given.now)) (line (shown_out c.one-item.result)) (out_lines (drop (c.loop-one.one-index + 1) c.args.given.now)) c.loop-one.invariant
    (next_out c.args.given.now c.loop-one.one-index c.one-item.result c.loop-one-test.true c.one-item.is) c.in_err-say_out.ensures)

pub returns : goal.returns
returns g c = all_written _ _ (out_lines c.args.given.now) (out_lines (drop c.loop-one.one-index c.args.given.now)) c.loop-one.invariant (no_more_said c.args.given.now c.loop-one.one-index c.loop-one-test.false)
