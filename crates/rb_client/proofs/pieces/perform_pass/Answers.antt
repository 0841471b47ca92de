use Rattle.std.proofs.Common.{rules, refl}
use Rattle.rb_engine.specs.Locals.{local}
use Rattle.rb_meaning_split.specs.Replay.{far_fault}
use Rattle.rb_client.specs.Walks.{pass_meant}
use Rattle.rb_client.proofs.Parted.{fault_so, pass_so}
use Rattle.rb_client.proofs.pieces.perform_pass.Goals as goal

pub returns-in_ok-far_fault-in-Some : goal.returns-in_ok-far_fault-in-Some
returns-in_ok-far_fault-in-Some g c =
    fault_so g.W.Sink far_fault (pass_meant c.args.step) (λ gas l s go. go l s) (local c.args.frame.now c.args.state.now) c.args.world.now c.args.step c.fault_at.result c.in-Some.fault _ _
    (λ gas s go. refl) c.fault_at.ensures c.in-Some.is (search rules) refl

pub returns-in-None : goal.returns-in-None
returns-in-None g c = pass_so g.W.Sink (local c.args.frame.now c.args.state.now) c.args.world.now c.args.step c.fault_at.result c.fault_at.ensures c.in-None.is
