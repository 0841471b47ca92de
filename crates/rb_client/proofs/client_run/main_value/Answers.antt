use Rattle.std.proofs.Common.{Ok, ap, ◌∙◌}
use Rattle.rb_engine.specs.Locals.{local}
use Rattle.rb_client.proofs.MainLed.{some_of, value_none, value_some}
use Rattle.rb_client.proofs.client_run.main_value.Goals as goal

pub returns-in_default : goal.returns-in_default
returns-in_default g c = λ gas le. value_none g.L.Link g.W.Sink c.args.code.now c.args.value.now gas (local c.args.frame.now c.args.state.now) c.args.world.now c.in_default.is

pub returns-in-Ok-Ok : goal.returns-in-Ok-Ok
returns-in-Ok-Ok g c = λ gas le.
    value_some g.L.Link g.W.Sink c.args.code.now c.args.value.now c.in-Some.expr gas (local c.args.frame.now c.args.state.now) _ c.args.world.now c.eval.new.world c.eval.result _ c.in-Some.is (c.eval.ensures.led gas le) (ap some_of (c.in-Ok-Ok.is ∙ ap Ok c.in-Ok-Ok.field-0-is))

pub returns-in-Ok-Err : goal.returns-in-Ok-Err
returns-in-Ok-Err g c = λ gas le.
    value_some g.L.Link g.W.Sink c.args.code.now c.args.value.now c.in-Some.expr gas (local c.args.frame.now c.args.state.now) _ c.args.world.now c.eval.new.world c.eval.result _ c.in-Some.is (c.eval.ensures.led gas le) (ap some_of (c.in-Ok-Err.is ∙ ap Ok c.in-Ok-Err.field-0-is))

pub returns-in-Err : goal.returns-in-Err
returns-in-Err g c = λ gas le.
    value_some g.L.Link g.W.Sink c.args.code.now c.args.value.now c.in-Some.expr gas (local c.args.frame.now c.args.state.now) _ c.args.world.now c.eval.new.world c.eval.result _ c.in-Some.is (c.eval.ensures.led gas le) (ap some_of c.in-Err.is)
