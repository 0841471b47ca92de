-- A hub that goes on stands somewhere.
use Rattle.std.proofs.Common.{◌≡◌, refl, ap, sym, ◌∙◌, ℕ, Bool, true, false, All, List, Option, Some, None, Result, Ok, Err}
use Rattle.std.specs.Prelude.{if◌then◌else◌, OnOk, is_err}
use Rattle.rb_meaning_frames.specs.Histories.{Event, Close, after}
use Rattle.rb_session.specs.declared.answerers.Answers as answerers
use Rattle.rb_hub.specs.Hubs.{HubSeen, MayGoOn, IsOpen, DoesClose, DoesBy, refusal_of, refusal_by, hub_of}
use Rattle.rb_hub.specs.Standing.{GoesOnSomewhere, EachGoesOn}
use Rattle.rb_hub.specs.declared.seats.Seat.{Seat}
use Rattle.rb_hub.specs.declared.events.Out.{Out}
use Rattle.rb_hub.specs.declared.events.HubRefusal.{HubRefusal}
use Rattle.rb_hub.specs.declared.events.HubRefusal.TheVariants.{Over}
use Rattle.rb_hub.specs.declared.events.HubStop.{HubStop}

going_by : (b : Bool) (o : Option HubRefusal) → (if b then Some Over else o) ≡ None → b ≡ false
going_by true o none = absurd (cc none)
going_by false o none = refl

-- A hub that refuses nothing isn't over.
pub going : {A : Type 0} (hub : HubSeen A) (event : Event) → refusal_of hub event ≡ None → hub.over ≡ false
going hub event none = going_by hub.over (refusal_by hub event) none

-- the hub as its fields have it
fields_so : {A : Type 0} (hub : HubSeen A) (event : Event) → refusal_of hub event ≡ None → refusal_of (hub_of hub.answers hub.opened hub.seats) event ≡ None
fields_so hub event none =
    sym (ap (λ b. if b then Some Over else refusal_by hub event) (going hub event none)) ∙ none

-- an event that was done
pub stepped : {A X : Type 0} (a : answerers.Ghosts A X) (event : Event) (hub now : HubSeen A) (given : List Out) (answer : Result Unit (HubStop X)) → EachGoesOn a → refusal_of hub event ≡ None
    → (hub.over ≡ false → GoesOnSomewhere a (hub_of hub.answers hub.opened hub.seats)) → now.over ≡ false → DoesBy a event (hub_of hub.answers hub.opened hub.seats) now given answer
    → OnOk answer (MayGoOn a now.answers now.seats) → is_err answer ≡ false → GoesOnSomewhere a now
stepped a event hub now given (Ok u) law none was over does may is =
    let before = hub_of hub.answers hub.opened hub.seats in
    let at = (was (going hub event none)).stands in
    record { may = may; stands = (after at.0 event, (law.done at.0 event before now given at.1 (fields_so hub event none) over does).stands) }
stepped a event hub now given (Err stop) law none was over does may is = absurd (cc is)

-- a session that was closed
pub closed : {A X : Type 0} (a : answerers.Ghosts A X) (number : ℕ) (hub : HubSeen A) (seats : List Seat) (given : List Out) → EachGoesOn a → refusal_of hub (Close number) ≡ None
    → (hub.over ≡ false → GoesOnSomewhere a (hub_of hub.answers hub.opened hub.seats)) → DoesClose number hub.seats seats given → All IsOpen seats
    → GoesOnSomewhere a (hub_of hub.answers hub.opened seats)
closed a number hub seats given law none was does open_all =
    let before = hub_of hub.answers hub.opened hub.seats in
    let now = hub_of hub.answers hub.opened seats in
    let go = was (going hub (Close number) none) in
    let at = go.stands in
    record {
      may = record { ready = go.may.ready; seats_open = open_all };
      stands = (after at.0 (Close number), (law.done at.0 (Close number) before now given at.1 (fields_so hub (Close number) none) refl (does, refl, refl)).stands);
    }
