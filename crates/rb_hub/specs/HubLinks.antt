-- Links to a host through a session of a hub, which others use too.
use Rattle.std.specs.Prelude.{◌≡◌, ◌==◌, ℕ, ◌+◌, All, List, [], ◌∷◌, ◌++◌, length, drop, map, Bool, true, false, if◌then◌else◌, nat_le, Some, Result, Ok, Err}
use Rattle.rb_trees.specs.declared.services.Object.{Object}
use Rattle.rb_trees.specs.mirror.Services.{Service, mirror_service}
use Rattle.rb_meaning.specs.Answers.{Answers}
use Rattle.rb_meaning.specs.Links.{Pair, Behind, Told, IsTyped}
use Rattle.rb_meaning_frames.specs.Frames.{frame_bytes, request_kind}
use Rattle.rb_meaning_frames.specs.Streams.{IsRequest, request_frames, most_requests}
use Rattle.rb_meaning_frames.specs.Histories.{Track, track_of, Event, Piece, after, after_all, history_from, Replied, RepliesInOrder}
use Rattle.rb_base.specs.declared.links.Reply.{Reply}
use Rattle.rb_base.specs.declared.links.LinkStop.{LinkStop}
use Rattle.rb_base.specs.declared.links.LinkStop.TheVariants.{Failed, Frame, Cut, Memory}
use Rattle.rb_base.specs.Counts.{risen}
use Rattle.rb_base.specs.Links.{pair_of}
use Rattle.rb_exec.specs.Hosted.{Hosted}
use Rattle.rb_session.specs.Answering.{IsTypedHost}
use Rattle.rb_session.specs.Sessions.{new_session}
use Rattle.rb_hub.specs.Serial.{as_event}
use Rattle.rb_hub.specs.Hubs.{HubSeen}
use Rattle.rb_hub.specs.Standing.{Stands}
use Rattle.rb_hub.specs.declared.events.Event as events
use Rattle.rb_hub.specs.declared.events.Event.TheVariants as come
use Rattle.rb_hub.specs.declared.events.Out.{Out}
use Rattle.rb_hub.specs.declared.events.Out.TheVariants as outs

-- such a link: its hub, and the number of its session there; what others do before each of the coming exchanges; the pairs so far,
-- and the tables that their requests found and left; the number of exchanges, and whether one was wanting memory
pub record HubLinkSeen : Type 0 where
  pub hub : HubSeen Hosted
  pub number : ℕ
  pub others : List (List events.Event)
  pub pairs : List Pair
  pub found : List (List Object)
  pub left : List (List Object)
  pub made : ℕ
  pub spent : Bool

-- a hub where one session more was opened
abbrev pub opened_in : HubSeen Hosted → HubSeen Hosted
opened_in hub = record hub { opened = hub.opened + 1; seats = hub.seats ++ record { number = hub.opened; session = new_session } ∷ [] }

-- nothing exchanged yet, in a hub where the link's session was opened last
abbrev pub new_hub_link : HubSeen Hosted → List (List events.Event) → HubLinkSeen
new_hub_link hub others =
    record { hub = opened_in hub; number = hub.opened; others = others; pairs = []; found = []; left = []; made = 0; spent = false }

-- what stands behind the link: no exchange fails
abbrev pub behind_hub : HubLinkSeen → Behind
behind_hub l = record {
  service = mirror_service l.hub.answers.service;
  table = l.hub.answers.table;
  found = l.found;
  left = l.left;
  made = l.made;
  failing = [];
}

abbrev pub told_of_hub : HubLinkSeen → Told
told_of_hub l = record { pairs = l.pairs; server = Some (behind_hub l) }

-- No more is exchanged: an exchange was wanting memory, or the session has had all requests that it may have.
abbrev pub is_spent : HubLinkSeen → Bool
is_spent l = if l.spent then true else nat_le most_requests (length l.pairs)

-- It is honest until an exchange was wanting memory.
pub record IsHonestHub (l : HubLinkSeen) : Type 0 where
  pub fresh : l.spent ≡ false
  pub typed : IsTypedHost l.hub.answers

-- ---- what others do

-- whether an event names this session
abbrev pub names : ℕ → events.Event → Bool
names number come.Open = false
names number (come.Piece other piece) = other == number
names number (come.Close other) = other == number

-- these events but for those that name this session
abbrev pub not_naming : ℕ → List events.Event → List events.Event
not_naming number [] = []
not_naming number (event ∷ events) = if names number event then not_naming number events else event ∷ not_naming number events

-- what others do next; where nothing is left, nothing
abbrev pub next_events : ℕ → List (List events.Event) → List events.Event
next_events number [] = []
next_events number (events ∷ others) = not_naming number events

-- the piece of the link's own session that an exchange is
abbrev pub own_piece : ℕ → List ℕ → Event
own_piece number request = Piece number (frame_bytes request_kind request)

-- ---- where events lead

-- The hub stands where these events lead, and the table is the one that the requests of their history leave.
pub record LedOn {A : Type 0} (service : Service) (table left : List Object) (past : List Track) (events : List Event) (now : HubSeen A) : Type 0 where
  pub stands : Stands (after_all past events) now
  pub replies : List Replied
  pub answered : RepliesInOrder service table (history_from past events) replies left

-- A session with this number is open, and its stream is the frames of these requests, which are fewer than may be.
pub record HasStream (number : ℕ) (payloads : List (List ℕ)) (past : List Track) : Type 0 where
  pub requests : All IsRequest payloads
  pub own : track_of number past ≡ Some record { stream = request_frames payloads; is_open = true }

-- so where the hub stands
abbrev pub Owns : {A : Type 0} → ℕ → List (List ℕ) → HubSeen A → Type 0
Owns number payloads hub = (past : List Track) × Stands past hub × HasStream number payloads past

-- A request was answered so: the reply, and the table after it.
abbrev pub Replies : Service → List Object → List ℕ → Reply → List Object → Type 0
Replies service table request reply left = Answers service table request reply.kind reply.payload.items left

-- What comes out first is the frame of a reply of this kind.
pub record ComesFirst (given : List Out) (kind : ℕ) (reply : List ℕ) : Type 0 where
  pub number : ℕ
  pub rest : List Out
  pub is : given ≡ outs.Reply number (frame_bytes kind reply) ∷ rest

-- ---- an exchange

-- the link after an exchange with this reply, whose request found this table, and left this hub
abbrev pub after_exchange : HubLinkSeen → List ℕ → Reply → List Object → HubSeen Hosted → HubLinkSeen
after_exchange l request reply found hub = record {
  hub = hub;
  number = l.number;
  others = drop 1 l.others;
  pairs = l.pairs ++ pair_of request reply ∷ [];
  found = l.found ++ found ∷ [];
  left = l.left ++ hub.answers.table ∷ [];
  made = risen l.made;
  spent = false;
}

-- Wherever the hub stood, it stands where the others' events and the link's own piece lead; and the table that the request found is
-- the one that the requests of the history of the others' events leave.
pub record LedBy (past : List Track) (events : List Event) (own : Event) (before after : HubSeen Hosted) (found : List Object) : Type 0 where
  pub stands : Stands (after_all past (events ++ own ∷ [])) after
  pub replies : List Replied
  pub answered : RepliesInOrder (mirror_service before.answers.service) before.answers.table (history_from past events) replies found

-- An exchange that is answered: others did next what they do, and the reply is the host's answer then.
pub record ExchangesIn (request : List ℕ) (before : HubLinkSeen) (reply : Reply) (after : HubLinkSeen) : Type 0 where
  pub fresh : is_spent before ≡ false
  pub found : List Object
  pub finds : IsTyped (mirror_service before.hub.answers.service) found
  pub answers : Replies (mirror_service before.hub.answers.service) found request reply after.hub.answers.table
  pub service : mirror_service after.hub.answers.service ≡ mirror_service before.hub.answers.service
  pub typed : IsTypedHost after.hub.answers
  pub is : after ≡ after_exchange before request reply found after.hub
  pub leads : (past : List Track) → Stands past before.hub
      → LedBy past (map as_event (next_events before.number before.others)) (own_piece before.number request) before.hub after.hub found

-- An exchange that was wanting memory: the link is spent from then on, and has the pairs that it had. A link that was spent before
-- doesn't change, and plays nothing.
pub record SpendsIn (before after : HubLinkSeen) : Type 0 where
  pub spent : is_spent after ≡ true
  pub pairs : after.pairs ≡ before.pairs
  pub unchanged : is_spent before ≡ true → after ≡ before

-- No other answer is given.
abbrev pub ExchangesInHub : List ℕ → HubLinkSeen → Result Reply LinkStop → HubLinkSeen → Type 0
ExchangesInHub request before (Ok reply) after = ExchangesIn request before reply after
ExchangesInHub request before (Err Memory) after = SpendsIn before after
ExchangesInHub request before (Err Failed) after = ⊥
ExchangesInHub request before (Err (Frame at bytes)) after = ⊥
ExchangesInHub request before (Err (Cut got bytes)) after = ⊥

-- ---- what the link keeps true

abbrev pub requests_in : List Pair → List (List ℕ)
requests_in pairs = map (λ p. p.request) pairs
