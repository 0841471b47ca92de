use Rattle.std.proofs.Common.{[], Ok, Err, ap, ◌∙◌}
use Rattle.rb_client.proofs.MainEnds.{ended_run, main_so}
use Rattle.rb_client.proofs.client_run.run_over.Goals as goal

pub returns-in-Ok-Ok : goal.returns-in-Ok-Ok
returns-in-Ok-Ok g c =
    main_so g.L.Link g.W.Sink g.met.L.Link.honest_tells c.args.fuel c.args.world.now c.run_main.new.world c.code-code.result.now c.program-program.result.now.body _ c.run_main.result _ c.requires c.code-code.ensures
    (ap (λ p. p.body) (c.program-program.ensures.same ∙ c.typed.ensures)) (ap (λ h. record { names = []; heap = h; fuel = c.args.fuel; depth = 0 }) c.make.ensures)
    (ap (ended_run c.run_main.new.world) (c.in-Ok-Ok.is ∙ ap Ok c.in-Ok-Ok.field-0-is)) c.run_main.ensures

pub returns-in-Ok-Err : goal.returns-in-Ok-Err
returns-in-Ok-Err g c =
    main_so g.L.Link g.W.Sink g.met.L.Link.honest_tells c.args.fuel c.args.world.now c.run_main.new.world c.code-code.result.now c.program-program.result.now.body _ c.run_main.result _ c.requires c.code-code.ensures
    (ap (λ p. p.body) (c.program-program.ensures.same ∙ c.typed.ensures)) (ap (λ h. record { names = []; heap = h; fuel = c.args.fuel; depth = 0 }) c.make.ensures)
    (ap (ended_run c.run_main.new.world) (c.in-Ok-Err.is ∙ ap Ok c.in-Ok-Err.field-0-is)) c.run_main.ensures

pub returns : goal.returns
returns g c =
    main_so g.L.Link g.W.Sink g.met.L.Link.honest_tells c.args.fuel c.args.world.now c.run_main.new.world c.code-code.result.now c.program-program.result.now.body _ c.run_main.result _ c.requires c.code-code.ensures
    (ap (λ p. p.body) (c.program-program.ensures.same ∙ c.typed.ensures)) (ap (λ h. record { names = []; heap = h; fuel = c.args.fuel; depth = 0 }) c.make.ensures)
    (ap (ended_run c.run_main.new.world) (c.in-Err-World.is ∙ ap Err c.in-Err-World.field-0-is)) c.run_main.ensures
