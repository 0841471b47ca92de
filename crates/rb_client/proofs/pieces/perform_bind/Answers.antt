use Rattle.std.proofs.Common.{rules, ap, ◌∙◌, [], ◌∷◌, ◌++◌}
use Rattle.rb_engine.specs.Locals.{local}
use Rattle.rb_client.proofs.Parted.{bind_so, bind_stops}
use Rattle.rb_client.proofs.pieces.perform_bind.Goals as goal

pub returns : goal.returns
returns g c =
    bind_so g.W.Sink (local c.args.frame.now c.args.state.now) (local c.bind.new.self c.args.state.now) c.args.world.now c.take.new.self c.args.step c.args.name.now c.take.result c.in_ok-value.value c.take.ensures c.in_ok-value.was
    (ap (λ ns. local ns c.args.state.now) (c.in_ok-bind.ensures.bound ∙ ap (λ y. c.args.frame.now ++ (y, c.in_ok-value.value) ∷ []) c.as_slice.ensures))

pub returns-in_err-value : goal.returns-in_err-value
returns-in_err-value g c =
    bind_stops g.W.Sink (local c.args.frame.now c.args.state.now) c.args.world.now c.take.new.self c.args.step c.args.name.now c.take.result _ c.from_residual.result c.take.ensures c.in_err-value.was (search rules)
