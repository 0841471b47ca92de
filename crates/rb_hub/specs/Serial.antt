-- What comes out of a hub, by the history of its requests. All of it is said of whole streams.
use Rattle.std.specs.Prelude.{◌≡◌, ℕ, ◌+◌, ◌-◌, if◌then◌else◌, nat_le, List, [], ◌∷◌, ◌++◌, length, map, Option, None, Some}
use Rattle.rb_trees.specs.declared.services.Object.{Object}
use Rattle.rb_trees.specs.mirror.Services.{Service}
use Rattle.rb_meaning_frames.specs.Reading.{Standing, Whole, Waiting, Breaking, standing, requests_of, rest_of}
use Rattle.rb_meaning_frames.specs.Histories.{Event, Open, Piece, Close, Track, track_of, most_open, most_sessions, open_count, may_open, after, brought, history, Replied, RepliesInOrder}
use Rattle.rb_hub.specs.declared.events.Event as events
use Rattle.rb_hub.specs.declared.events.Event.TheVariants as come
use Rattle.rb_hub.specs.declared.events.Out.{Out}
use Rattle.rb_hub.specs.declared.events.Out.TheVariants.{Opened, Reply, Ended}
use Rattle.rb_hub.specs.declared.events.End.{End}
use Rattle.rb_hub.specs.declared.events.End.TheVariants as ends
use Rattle.rb_hub.specs.declared.events.HubRefusal.{HubRefusal}
use Rattle.rb_hub.specs.declared.events.HubRefusal.TheVariants.{UnknownSession, Crowded, Numbers}

-- an event, as the history has it
abbrev pub as_event : events.Event → Event
as_event come.Open = Open
as_event (come.Piece number piece) = Piece number piece
as_event (come.Close number) = Close number

-- ---- refusals

abbrev pub unknown_in : Option Track → Option HubRefusal
unknown_in None = Some UnknownSession
unknown_in (Some t) = if t.is_open then None else Some UnknownSession

-- why an event is refused, if it is
abbrev pub refusal_at : List Track → Event → Option HubRefusal
refusal_at past Open =
    if nat_le most_sessions (length past) then Some Numbers else (if nat_le most_open (open_count past) then Some Crowded else None)
refusal_at past (Piece number piece) = unknown_in (track_of number past)
refusal_at past (Close number) = unknown_in (track_of number past)

-- ---- all that comes out

-- a reply that comes out
abbrev pub reply_out : Replied → Out
reply_out reply = Reply reply.session reply.frame

-- how a session ends by a piece, if it does
abbrev pub end_by : Standing → List ℕ → Option End
end_by Waiting stream = None
end_by (Breaking at) stream = Some (ends.BadFrame (length stream - length (rest_of stream) + at))
end_by (Whole size) stream = Some ends.Spent

-- how a session ends that is closed, by the rest of its stream
abbrev pub end_at : List ℕ → List ℕ → End
end_at [] stream = ends.Whole
end_at (byte ∷ rest) stream = ends.Cut (length stream)

-- that a session has ended, if it has, behind the requests of its stream
abbrev pub ended : ℕ → List ℕ → Option End → List Out
ended number stream None = []
ended number stream (Some end) = Ended number (length (requests_of stream)) end ∷ []

abbrev pub ended_by_piece : ℕ → List ℕ → Option Track → List Out
ended_by_piece number piece None = []
ended_by_piece number piece (Some t) =
    let stream = t.stream ++ piece in if t.is_open then ended number stream (end_by (standing (rest_of stream)) stream) else []

abbrev pub ended_by_close : ℕ → Option Track → List Out
ended_by_close number None = []
ended_by_close number (Some t) = if t.is_open then ended number t.stream (Some (end_at (rest_of t.stream) t.stream)) else []

-- what comes out last at an event: that a session was opened, or that it has ended
abbrev pub last_out : List Track → Event → List Out
last_out past Open = if may_open past then Opened (length past) ∷ [] else []
last_out past (Piece number piece) = ended_by_piece number piece (track_of number past)
last_out past (Close number) = ended_by_close number (track_of number past)

-- What comes out at an event: the replies to the requests whose last bytes it brings, and then what comes last. The table is
-- the one that these requests leave.
pub record ComesOut (service : Service) (table left : List Object) (past : List Track) (event : Event) (given : List Out) : Type 0 where
  pub replies : List Replied
  pub answered : RepliesInOrder service table (brought past event) replies left
  pub is : given ≡ map reply_out replies ++ last_out past event

-- what comes out at events, one after the other
pub data ComeOut (service : Service) : List Object → List Track → List Event → List Out → List Object → Type 0 where
  no_event : (table : List Object) (past : List Track) → ComeOut service table past [] [] table
  one_event : (table between left : List Object) (past : List Track) (event : Event) (events : List Event) (given more : List Out)
      → ComesOut service table between past event given → ComeOut service between (after past event) events more left
      → ComeOut service table past (event ∷ events) (given ++ more) left

-- ---- the theorem

-- the replies among what came out
abbrev pub replies_in : List Out → List Replied
replies_in [] = []
replies_in (Opened number ∷ outs) = replies_in outs
replies_in (Reply number frame ∷ outs) = record { session = number; frame = frame } ∷ replies_in outs
replies_in (Ended number requests end ∷ outs) = replies_in outs

-- These events, from a new hub: what came out, and the table in the end. The replies are those to the history, one at a time
-- and in its order, each under its own session; the table is theirs.
pub record IsSerial (service : Service) (table left : List Object) (events : List Event) (outs : List Out) : Type 0 where
  pub replies : RepliesInOrder service table (history events) (replies_in outs) left
  pub all : ComeOut service table [] events outs left
