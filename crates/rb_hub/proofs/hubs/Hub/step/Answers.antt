-- What was done leads on from where the hub stood.
use Rattle.std.proofs.Common.{refl, sym, ◌∙◌, ap}
use Rattle.rb_hub.specs.Hubs.{HubSeen, hub_of, refusal_of}
use Rattle.rb_hub.specs.Serial.{as_event}
use Rattle.rb_hub.proofs.Somewhere.{stepped}
use Rattle.rb_hub.proofs.hubs.Hub.step.Goals as goal

pub invariant_of-self : goal.invariant_of-self
invariant_of-self g c fresh =
    let own = c.self.inside in
    let hub : HubSeen _ = record { answers = own.answers; opened = own.opened; seats = own.seats.items; over = own.over } in
    let made = c.perform-answer.new in
    let none = ap (λ h. refusal_of h (as_event c.args.event)) c.self.view_is ∙ sym c.in-Ok.ensures.refused in
    stepped g.A.Answers (as_event c.args.event) hub (hub_of made.answers made.opened made.seats.items) _ c.perform-answer.result c.each_step_goes_on.ensures none c.self.invariant refl
    c.perform-answer.ensures.performs.2 c.perform-answer.ensures.kept (sym c.is_err-self-inside.ensures.value ∙ fresh)
