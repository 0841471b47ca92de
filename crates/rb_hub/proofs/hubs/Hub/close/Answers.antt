-- A session that is closed leads on from where the hub stood.
use Rattle.std.proofs.Common.{◌∙◌, ap}
use Rattle.rb_meaning_frames.specs.Histories.{Close}
use Rattle.rb_hub.specs.Hubs.{HubSeen, refusal_of}
use Rattle.rb_hub.proofs.Somewhere.{closed}
use Rattle.rb_hub.proofs.hubs.Hub.close.Goals as goal

pub invariant_of-self : goal.invariant_of-self
invariant_of-self g c fresh =
    let own = c.self.inside in
    let hub : HubSeen _ = record { answers = own.answers; opened = own.opened; seats = own.seats.items; over = own.over } in
    let none = ap (λ h. refusal_of h (Close c.args.number)) c.self.view_is ∙ c.requires in
    closed g.A.Answers c.args.number hub c.shut_session.new.seats.items _ c.each_step_goes_on.ensures none c.self.invariant c.shut_session.ensures.closes c.shut_session.ensures.kept
