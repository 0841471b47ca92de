-- When a hub stands where some events lead, by the whole streams of its sessions.
use Rattle.std.specs.Prelude.{◌≡◌, ◌⊎◌, ℕ, suc, ◌≤◌, true, false, All, List, [], ◌∷◌, ◌++◌, length, Option, None, Some, Result, Ok, Err}
use Rattle.rb_meaning_frames.specs.Streams.{IsRequest, request_frames, Waits, most_requests}
use Rattle.rb_meaning_frames.specs.Histories.{Event, Track, after, after_all, brought}
use Rattle.rb_session.specs.Answering.{InTurn}
use Rattle.rb_session.specs.Sessions.{SessionSeen, came}
use Rattle.rb_session.specs.declared.answerers.Answers as answerers
use Rattle.rb_hub.specs.Serial.{refusal_at, ComesOut, ComeOut, IsSerial}
use Rattle.rb_hub.specs.Hubs.{HubSeen, MayGoOn, payloads_of, GivesSome, StopsAt, Does, DoesPart, HaltsBy, refusal_of}
use Rattle.rb_hub.specs.declared.events.Out.{Out}
use Rattle.rb_hub.specs.declared.events.HubRefusal.{HubRefusal}
use Rattle.rb_hub.specs.declared.events.HubStop.{HubStop}
use Rattle.rb_hub.specs.declared.events.HubStop.TheVariants.{Refused, Memory, Answers}
use Rattle.rb_hub.specs.declared.seats.Seat.{Seat}

-- What a session has of its stream: the stream is the frames of the requests that were taken, and the rest that is kept.
pub record Follows (stream : List ℕ) (session : SessionSeen) : Type 0 where
  pub payloads : List (List ℕ)
  pub requests : All IsRequest payloads
  pub is : stream ≡ request_frames payloads ++ session.rest
  pub count : session.requests ≡ length payloads
  pub few : length payloads ≤ most_requests
  pub came_is : came session ≡ length stream
  pub waits : Waits session.rest
  pub fresh : session.stop ≡ None

-- The session with this number is the one at this place.
pub record IsSeated (number : ℕ) (t : Track) (seat : Seat) : Type 0 where
  pub is_open : t.is_open ≡ true
  pub number_is : seat.number ≡ number
  pub follows : Follows t.stream seat.session

-- The sessions with numbers from this one on: the open ones stand in these places, in order.
abbrev pub AreSeated : ℕ → List Track → List Seat → Type 0
AreSeated number [] seats = seats ≡ []
AreSeated number (t ∷ past) [] = (t.is_open ≡ false) × AreSeated (suc number) past []
AreSeated number (t ∷ past) (seat ∷ seats) =
    (IsSeated number t seat × AreSeated (suc number) past seats) ⊎ ((t.is_open ≡ false) × AreSeated (suc number) past (seat ∷ seats))

-- The hub stands where the sessions are these.
pub record Stands {A : Type 0} (past : List Track) (hub : HubSeen A) : Type 0 where
  pub opened : hub.opened ≡ length past
  pub seated : AreSeated 0 past hub.seats
  pub going : hub.over ≡ false

-- There are sessions where the hub stands.
abbrev pub StandsSomewhere : {A : Type 0} → HubSeen A → Type 0
StandsSomewhere hub = (past : List Track) × Stands past hub

-- Whoever answers may be asked, the sessions are open, and the hub stands somewhere.
pub record GoesOnSomewhere {A X : Type 0} (a : answerers.Ghosts A X) (hub : HubSeen A) : Type 0 where
  pub may : MayGoOn a hub.answers hub.seats
  pub stands : StandsSomewhere hub

-- ---- one event

-- What an event did, by whole streams: the hub stands where the event leads, and this came out by the requests whose last bytes
-- the event brings.
pub record GoesOn {A X : Type 0} (a : answerers.Ghosts A X) (past : List Track) (event : Event) (before now : HubSeen A) (given : List Out) : Type 0 where
  pub stands : Stands (after past event) now
  pub outs : ComesOut (a.service before.answers) (a.table before.answers) (a.table now.answers) past event given
  pub led : InTurn a.does before.answers (payloads_of (brought past event)) now.answers
  pub service : a.service now.answers ≡ a.service before.answers

-- A hub refuses an event as the sessions say. It goes on by one that isn't refused; and where one is, by doing nothing. Where memory
-- was wanting the first of the replies came out; and a stop is one that may come at the next request of the history, from whoever
-- answers as it then stood.
pub record EachGoesOn {A X : Type 0} (a : answerers.Ghosts A X) : Type 0 where
  pub refuses : (past : List Track) (event : Event) (hub : HubSeen A) → Stands past hub → refusal_of hub event ≡ refusal_at past event
  pub done : (past : List Track) (event : Event) (before now : HubSeen A) (given : List Out) → Stands past before
      → refusal_of before event ≡ None → now.over ≡ false → Does a event before now given → GoesOn a past event before now given
  pub refused : (past : List Track) (event : Event) (hub : HubSeen A) (refusal : HubRefusal) → Stands past hub
      → refusal_of hub event ≡ Some refusal → GoesOn a past event hub hub []
  pub wanted : (past : List Track) (event : Event) (before now : HubSeen A) (given : List Out) → Stands past before
      → DoesPart a event before now given → GivesSome a before.answers now.answers (brought past event) given
  pub stopped : (past : List Track) (event : Event) (before now : HubSeen A) (given : List Out) (stop : X) → Stands past before
      → HaltsBy a event before now given stop → StopsAt a before.answers now.answers (brought past event) given stop

-- What came of an event that wasn't done, or not whole.
abbrev pub StopsBy : {A X : Type 0} → answerers.Ghosts A X → List Track → Event → HubSeen A → HubSeen A → List Out → HubStop X → Type 0
StopsBy a past event before now given Memory = GivesSome a before.answers now.answers (brought past event) given
StopsBy a past event before now given (Answers stop) = StopsAt a before.answers now.answers (brought past event) given stop
StopsBy a past event before now given (Refused refusal) = ⊥

-- What came of an event that was played, by the answer: Ok says why it was refused, if it was.
abbrev pub GoesBy : {A X : Type 0} → answerers.Ghosts A X → List Track → Event → HubSeen A → HubSeen A → List Out → Result (Option HubRefusal) (HubStop X) → Type 0
GoesBy a past event before now given (Ok refusal) = GoesOn a past event before now given × (refusal ≡ refusal_at past event)
GoesBy a past event before now given (Err stop) = StopsBy a past event before now given stop

-- An event was played: wherever the hub stood, it goes on from there, and this came out.
pub record PlaysOne {A X : Type 0} (a : answerers.Ghosts A X) (event : Event) (before now : HubSeen A) (old new : List Out) (answer : Result (Option HubRefusal) (HubStop X)) : Type 0 where
  pub given : List Out
  pub gains : new ≡ old ++ given
  pub goes : (past : List Track) → Stands past before → GoesBy a past event before now given answer

-- ---- many events

-- What events did, by whole streams: the hub stands where they lead, and this came out.
pub record GoesThrough {A X : Type 0} (a : answerers.Ghosts A X) (past : List Track) (events : List Event) (before now : HubSeen A) (given : List Out) : Type 0 where
  pub stands : Stands (after_all past events) now
  pub outs : ComeOut (a.service before.answers) (a.table before.answers) past events given (a.table now.answers)
  pub service : a.service now.answers ≡ a.service before.answers

-- Of these events the first were done, and the next was not, or not whole, by this answer.
pub record StopsWithin {A X : Type 0} (a : answerers.Ghosts A X) (past : List Track) (events : List Event) (before now : HubSeen A) (given : List Out) (stop : HubStop X) : Type 0 where
  pub front : List Event
  pub next : Event
  pub rest : List Event
  pub parts : events ≡ front ++ next ∷ rest
  pub between : HubSeen A
  pub first : List Out
  pub last : List Out
  pub through : GoesThrough a past front before between first
  pub stops : StopsBy a (after_all past front) next between now last stop
  pub is : given ≡ first ++ last

-- What came of events that were played, by the answer.
abbrev pub GoesThroughBy : {A X : Type 0} → answerers.Ghosts A X → List Track → List Event → HubSeen A → HubSeen A → List Out → Result Unit (HubStop X) → Type 0
GoesThroughBy a past events before now given (Ok u) = GoesThrough a past events before now given
GoesThroughBy a past events before now given (Err stop) = StopsWithin a past events before now given stop

-- Events were played: wherever the hub stood, they lead on from there, and this came out.
pub record PlaysAll {A X : Type 0} (a : answerers.Ghosts A X) (events : List Event) (before now : HubSeen A) (old new : List Out) (answer : Result Unit (HubStop X)) : Type 0 where
  pub given : List Out
  pub gains : new ≡ old ++ given
  pub goes : (past : List Track) → Stands past before → GoesThroughBy a past events before now given answer

-- The same of a new hub, where all was done: the replies are those to the history.
pub record PlaysSerially {A X : Type 0} (a : answerers.Ghosts A X) (events : List Event) (before now : HubSeen A) (old new : List Out) : Type 0 where
  pub given : List Out
  pub gains : new ≡ old ++ given
  pub serial : IsSerial (a.service before.answers) (a.table before.answers) (a.table now.answers) events given
