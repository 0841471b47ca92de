-- The open sessions of a hub.
use Rattle.std.specs.Prelude.{◌≡◌, ◌==◌, ◌<◌, ◌+◌, ℕ, if◌then◌else◌, List, [], ◌∷◌, ◌++◌, Option, None, Some, Result, length, take, drop, slice_set, slice_index_or}
use Rattle.rb_meaning_frames.specs.Histories.{Event, Open, Piece, Close}
use Rattle.rb_session.specs.declared.sessions.SessionStop.{SessionStop}
use Rattle.rb_session.specs.Sessions.{SessionSeen, Gathers, IsBounded}
use Rattle.rb_hub.specs.declared.seats.Seat.{Seat}

-- the session with this number
abbrev pub session_of : ℕ → List Seat → Option SessionSeen
session_of number [] = None
session_of number (seat ∷ seats) = if seat.number == number then Some seat.session else session_of number seats

-- the sessions where the one with this number has changed
abbrev pub with_session : ℕ → SessionSeen → List Seat → List Seat
with_session number now [] = []
with_session number now (seat ∷ seats) = if seat.number == number then record seat { session = now } ∷ seats else seat ∷ with_session number now seats

-- the sessions without the one with this number
abbrev pub without : ℕ → List Seat → List Seat
without number [] = []
without number (seat ∷ seats) = if seat.number == number then seats else seat ∷ without number seats

-- The session with this number stands at this place.
pub record IsPlace (number : ℕ) (seats : List Seat) (place : ℕ) : Type 0 where
  pub within : place < length seats
  pub is : (d : Seat) → session_of number seats ≡ Some (slice_index_or seats place d).session
  pub changed : (d : Seat) (now : SessionSeen) → with_session number now seats ≡ slice_set seats place record (slice_index_or seats place d) { session = now }
  pub rest : without number seats ≡ take place seats ++ drop (place + 1) seats

-- It stands at the place, or there is none.
abbrev pub StandsAt : ℕ → List Seat → Option ℕ → Type 0
StandsAt number seats (Some place) = IsPlace number seats place
StandsAt number seats None = session_of number seats ≡ None

-- The session that an event names, where it names one, stands at this place.
abbrev pub SitsAt : Event → List Seat → ℕ → Type 0
SitsAt Open seats place = Unit {0}
SitsAt (Piece number piece) seats place = IsPlace number seats place
SitsAt (Close number) seats place = IsPlace number seats place

-- The session at this place took a piece.
pub record GathersAt (seats after : List Seat) (place : ℕ) (piece : List ℕ) (old new : List (List ℕ)) (answer : Result Unit SessionStop) : Type 0 where
  pub before : Seat
  pub was : (d : Seat) → slice_index_or seats place d ≡ before
  pub now : SessionSeen
  pub is : after ≡ slice_set seats place record before { session = now }
  pub gathers : Gathers before.session now piece old new answer before.session.stop
  pub bounded : IsBounded now.offset now.requests
