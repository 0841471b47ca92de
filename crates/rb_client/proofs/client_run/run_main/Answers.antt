use Rattle.std.proofs.Common.{[], Ok, arith, ap, ◌∙◌}
use Rattle.rb_engine.specs.Locals.{local}
use Rattle.rb_client.proofs.MainLed.{main_on, main_faulted, main_cut}
use Rattle.rb_client.proofs.client_run.run_main.Goals as goal

pub returns-in-Ok-Ok : goal.returns-in-Ok-Ok
returns-in-Ok-Ok g c =
    main_on g.L.Link g.W.Sink c.args.code.now c.args.body.now (local [] c.args.state.now) (local c.make-frame.result c.args.state.now) _ c.args.world.now c.exec.new.world c.main_value.new.world c.main_value.result c.exec.result (c.in-Ok-Ok.is ∙ ap Ok c.in-Ok-Ok.field-0-is)
    (ap (λ ns. local ns c.args.state.now) c.make-frame.ensures, c.exec.ensures.led c.args.state.now.fuel (omega arith)) (c.main_value.ensures c.args.state.now.fuel c.exec.ensures.fuel)

pub returns-in-Ok-Err : goal.returns-in-Ok-Err
returns-in-Ok-Err g c =
    main_faulted g.L.Link g.W.Sink c.args.code.now c.args.body.now (local [] c.args.state.now) (local c.make-frame.result c.args.state.now) _ c.args.world.now c.exec.new.world c.exec.result c.in-Ok-Err.raised (c.in-Ok-Err.is ∙ ap Ok c.in-Ok-Err.field-0-is)
    (ap (λ ns. local ns c.args.state.now) c.make-frame.ensures, c.exec.ensures.led c.args.state.now.fuel (omega arith))

pub returns : goal.returns
returns g c =
    main_cut g.L.Link g.W.Sink c.args.code.now c.args.body.now (local [] c.args.state.now) (local c.make-frame.result c.args.state.now) _ c.args.world.now c.exec.new.world c.exec.result c.in-Err.halt c.in-Err.is
    (ap (λ ns. local ns c.args.state.now) c.make-frame.ensures, c.exec.ensures.led c.args.state.now.fuel (omega arith))
