-- Many sessions at once: the stream of each, the history of their requests, and the replies to these. All of it is said of whole
-- streams, and none of it of what a server keeps.
use Rattle.std.specs.Prelude.{◌≡◌, ◌==◌, ℕ, zero, suc, ◌^◌, Bool, true, false, ◌&&◌, nat_lt, if◌then◌else◌, List, [], ◌∷◌, ◌++◌, length, drop, map, Option, None, Some}
use Rattle.rb_trees.specs.declared.services.Object.{Object}
use Rattle.rb_trees.specs.mirror.Services.{Service}
use Rattle.rb_meaning.specs.Answers.{Answers}
use Rattle.rb_meaning_frames.specs.Frames.{frame_bytes}
use Rattle.rb_meaning_frames.specs.Reading.{Standing, Whole, Waiting, Breaking, standing, requests_of, rest_of}

-- ---- what comes

-- what comes: a session is wanted, a piece of a session's stream comes, or a session's stream has ended
pub data Event : Type 0 where
  Open : Event
  Piece : ℕ → List ℕ → Event
  Close : ℕ → Event

-- how many sessions may be open at once
abbrev pub most_open : ℕ
most_open = 64

-- how many sessions may be opened
abbrev pub most_sessions : ℕ
most_sessions = 2 ^ 32

-- a session: the pieces of its stream that came while it was open, one behind the other, and whether it is open
pub record Track : Type 0 where
  pub stream : List ℕ
  pub is_open : Bool

-- nothing came yet
abbrev pub new_track : Track
new_track = record { stream = []; is_open = true }

abbrev pub is_waiting : Standing → Bool
is_waiting Waiting = true
is_waiting (Whole size) = false
is_waiting (Breaking at) = false

-- whether a session goes on: its stream breaks nothing, and no request more is whole than a session may have
abbrev pub goes_on : List ℕ → Bool
goes_on stream = is_waiting (standing (rest_of stream))

-- a piece comes to a session; one that isn't open takes none
abbrev pub heard : List ℕ → Track → Track
heard piece t = if t.is_open then record { stream = t.stream ++ piece; is_open = goes_on (t.stream ++ piece) } else t

abbrev pub closed : Track → Track
closed t = record t { is_open = false }

-- the session with this number, which is its place among all that were opened
abbrev pub track_of : ℕ → List Track → Option Track
track_of number [] = None
track_of zero (t ∷ past) = Some t
track_of (suc number) (t ∷ past) = track_of number past

-- the sessions where that with this number has changed
abbrev pub changed : ℕ → (Track → Track) → List Track → List Track
changed number change [] = []
changed zero change (t ∷ past) = change t ∷ past
changed (suc number) change (t ∷ past) = t ∷ changed number change past

abbrev pub open_count : List Track → ℕ
open_count [] = 0
open_count (t ∷ past) = if t.is_open then suc (open_count past) else open_count past

-- whether one session more may be opened
abbrev pub may_open : List Track → Bool
may_open past = nat_lt (length past) most_sessions && nat_lt (open_count past) most_open

-- the sessions after an event, those that were opened first before the others
abbrev pub after : List Track → Event → List Track
after past Open = if may_open past then past ++ new_track ∷ [] else past
after past (Piece number piece) = changed number (heard piece) past
after past (Close number) = changed number closed past

abbrev pub after_all : List Track → List Event → List Track
after_all past [] = past
after_all past (event ∷ events) = after_all (after past event) events

-- ---- the history

-- a request of the history: its payload, and the session that it came in
pub record Asked : Type 0 where
  pub session : ℕ
  pub payload : List ℕ

abbrev pub asked_by : ℕ → List (List ℕ) → List Asked
asked_by session payloads = map (λ payload. record { session = session; payload = payload }) payloads

-- the requests of a stream whose last bytes a piece brings: those of the longer stream but for those that it had before
abbrev pub new_requests : List ℕ → List ℕ → List (List ℕ)
new_requests stream piece = drop (length (requests_of stream)) (requests_of (stream ++ piece))

abbrev pub brought_to : Option Track → List ℕ → List (List ℕ)
brought_to None piece = []
brought_to (Some t) piece = if t.is_open then new_requests t.stream piece else []

-- the requests whose last bytes an event brings, by their place in the stream
abbrev pub brought : List Track → Event → List Asked
brought past Open = []
brought past (Piece number piece) = asked_by number (brought_to (track_of number past) piece)
brought past (Close number) = []

-- the requests of these events, ordered by the event that brought the last byte, and then by the place in the stream
abbrev pub history_from : List Track → List Event → List Asked
history_from past [] = []
history_from past (event ∷ events) = brought past event ++ history_from (after past event) events

abbrev pub history : List Event → List Asked
history events = history_from [] events

-- ---- the replies

-- the frame of a reply, and the session whose request it answers
pub record Replied : Type 0 where
  pub session : ℕ
  pub frame : List ℕ

-- The replies to these requests, one at a time and in their order: each is answered on the table that the one before it left,
-- and its frame goes to its own session.
pub data RepliesInOrder (service : Service) : List Object → List Asked → List Replied → List Object → Type 0 where
  none_asked : (table : List Object) → RepliesInOrder service table [] [] table
  one_asked : (table between after : List Object) (asked : Asked) (reply : List ℕ) (kind : ℕ) (more : List Asked) (replies : List Replied)
      → Answers service table asked.payload kind reply between → RepliesInOrder service between more replies after
      → RepliesInOrder service table (asked ∷ more) (record { session = asked.session; frame = frame_bytes kind reply } ∷ replies) after

-- ---- laws

-- the payloads of a session's requests among others
abbrev pub of_session : ℕ → List Asked → List (List ℕ)
of_session number [] = []
of_session number (asked ∷ more) = if asked.session == number then asked.payload ∷ of_session number more else of_session number more

abbrev pub stream_in : Option Track → List ℕ
stream_in None = []
stream_in (Some t) = t.stream

-- a session's stream after these events
abbrev pub stream_of : ℕ → List Event → List ℕ
stream_of number events = stream_in (track_of number (after_all [] events))

-- In the history each session has the requests of its stream, in their order.
abbrev pub EachIsInOrder : Type 0
EachIsInOrder = (events : List Event) (number : ℕ) → of_session number (history events) ≡ requests_of (stream_of number events)

-- More events lead on from where those before them led.
abbrev pub EventsLeadOn : Type 0
EventsLeadOn = (past : List Track) (events more : List Event) → after_all past (events ++ more) ≡ after_all (after_all past events) more

-- Their requests stand behind those of the events before them.
abbrev pub HistoriesGoOn : Type 0
HistoriesGoOn = (past : List Track) (events more : List Event) → history_from past (events ++ more) ≡ history_from past events ++ history_from (after_all past events) more

-- Requests more are answered on the table that those before them left.
abbrev pub RepliesGoOn : Type 0
RepliesGoOn = (service : Service) (table between after : List Object) (asked more : List Asked) (replies others : List Replied)
    → RepliesInOrder service table asked replies between → RepliesInOrder service between more others after → RepliesInOrder service table (asked ++ more) (replies ++ others) after
