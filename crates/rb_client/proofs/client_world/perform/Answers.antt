use Rattle.std.proofs.Common.{sym, ap, ◌∙◌}
use Rattle.rb_engine.specs.Locals.{local}
use Rattle.rb_client.specs.Inputs.{exceed}
use Rattle.rb_client.proofs.Performing.{faults_so}
use Rattle.rb_client.proofs.client_world.perform.Goals as goal

pub returns-in-Ok-None-clause-performs : goal.returns-in-Ok-None-clause-performs
returns-in-Ok-None-clause-performs g c =
    faults_so g.L.Link g.W.Sink c.args.split.now c.args.world.now (local c.args.frame.now c.args.state.now) c.too_large.result
    (ap (λ xs. exceed xs c.args.frame.now) (sym c.as_slice.ensures) ∙ (rw c.in-Ok-None.field-0-is at c.in-Ok-None.ensures)) c.too_large.ensures
