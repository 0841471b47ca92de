use Rattle.std.proofs.Common.{rules, refl, ap, ◌∙◌, [], ◌∷◌, ◌++◌}
use Rattle.rb_engine.specs.Locals.{local}
use Rattle.rb_client.proofs.Parted.{both_fault, both_so, both_stops}
use Rattle.rb_client.proofs.pieces.perform_both.Goals as goal

pub returns-in_err-value : goal.returns-in_err-value
returns-in_err-value g c =
    both_stops g.W.Sink c.args.code.now (local c.args.frame.now c.args.state.now) (local c.args.frame.now c.eval_early-evaluated.new.state) c.args.world.now c.eval_early-evaluated.new.world c.args.twin.now.step c.args.twin.now.name.now c.args.twin.now.value.now
    c.eval_early-evaluated.result c.early_of.result c.fault_at.result c.fault_at.ensures c.in_default.is c.eval_early-evaluated.ensures c.early_of.ensures _ c.from_residual-in_err-value.result c.in_err-value.was (search rules)

pub returns : goal.returns
returns g c =
    both_so g.W.Sink c.args.code.now (local c.args.frame.now c.args.state.now) (local c.args.frame.now c.eval_early-evaluated.new.state) c.args.world.now c.eval_early-evaluated.new.world c.args.twin.now.step c.args.twin.now.name.now c.args.twin.now.value.now
    c.eval_early-evaluated.result c.early_of.result c.fault_at.result c.fault_at.ensures c.in_default.is c.eval_early-evaluated.ensures c.early_of.ensures c.in_ok-value.value (local c.bind.new.self c.eval_early-evaluated.new.state) c.in_ok-value.was
    (ap (λ ns. local ns c.eval_early-evaluated.new.state) (c.in_ok-bind.ensures.bound ∙ ap (λ y. c.args.frame.now ++ (y, c.in_ok-value.value) ∷ []) c.as_slice.ensures))

pub returns-in-Some : goal.returns-in-Some
returns-in-Some g c =
    both_fault g.W.Sink c.args.code.now (local c.args.frame.now c.args.state.now) c.args.world.now c.args.twin.now.step c.args.twin.now.name.now c.args.twin.now.value.now c.fault_at.result c.in-Some.fault _ _
    c.fault_at.ensures c.in-Some.is (search rules) refl
