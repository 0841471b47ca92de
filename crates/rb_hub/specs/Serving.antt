-- A session of a hub over a source and a sink.
use Rattle.std.specs.Prelude.{◌≡◌, ℕ, ◌+◌, ◌<◌, ◌≤◌, Bool, true, false, if◌then◌else◌, All, List, [], ◌∷◌, ◌++◌, length, take, Option, Result, Ok, Err}
use Rattle.rb_trees.specs.declared.services.Object.{Object}
use Rattle.rb_base.specs.Devices.{Device}
use Rattle.rb_base.specs.Sinks.{told_more, with_bytes}
use Rattle.rb_base.specs.Sources.{told_before, before_giving}
use Rattle.rb_meaning_frames.specs.Reading.{requests_of}
use Rattle.rb_meaning_frames.specs.Served.{RepliesTo}
use Rattle.rb_meaning_frames.specs.Histories.{Event, Open, Piece, Close, Track, goes_on, after_all, new_requests, history_from, Replied, RepliesInOrder}
use Rattle.rb_session.specs.Answering.{InTurn}
use Rattle.rb_session.specs.declared.answerers.Answers as answerers
use Rattle.rb_session.specs.declared.serving.Served.{Served}
use Rattle.rb_session.specs.declared.serving.ServeCause.{ServeCause}
use Rattle.rb_session.specs.declared.serving.ServeCause.TheVariants as causes
use Rattle.rb_session.specs.Serving.{Ends, ends, NoneFailed, Serves}
use Rattle.rb_hub.specs.Hubs.{HubSeen}
use Rattle.rb_hub.specs.Standing.{Stands}
use Rattle.rb_hub.specs.declared.serving.HubServeStop.{HubServeStop}
use Rattle.rb_hub.specs.declared.serving.HubServeStop.TheVariants.{Serve, Answers}

-- the two ends of a session, and the service and the table of whoever answers in the hub
abbrev pub hub_ends : {A X : Type 0} → answerers.Ghosts A X → HubSeen A → Device (List ℕ) → Device (List ℕ) → Ends
hub_ends a hub source sink = ends (a.service hub.answers) (a.table hub.answers) source sink

-- ---- what is said by the answer

-- Where no request stopped whoever answers, the session was served as `Serves` says of any.
abbrev pub ServesUnlessStopped : {X : Type 0} → Ends → Ends → Result Served (HubServeStop X) → Type 0
ServesUnlessStopped before after (Ok served) = Serves before after (Ok served)
ServesUnlessStopped before after (Err (Serve stop)) = Serves before after (Err stop)
ServesUnlessStopped before after (Err (Answers stop)) = Unit {0}

-- This is to be said where a request stopped whoever answers.
abbrev pub IfStopped : {X : Type 0} → Result Served (HubServeStop X) → (X → Type 0) → Type 0
IfStopped (Err (Answers stop)) Says = Says stop
IfStopped answer Says = Unit {0}

-- memory wasn't wanting
abbrev pub is_no_want : ServeCause → Bool
is_no_want causes.Memory = false
is_no_want cause = true

-- The session was served to its end or to a fault: neither was memory wanting, nor did a request stop whoever answers.
abbrev pub is_done : {X : Type 0} → Result Served (HubServeStop X) → Bool
is_done (Ok served) = true
is_done (Err (Serve stop)) = is_no_want stop.cause
is_done (Err (Answers stop)) = false

-- This is to be said where it was so served.
abbrev pub WhereDone : Bool → Type 0 → Type 0
WhereDone true Holds = Holds
WhereDone false Holds = Unit {0}

abbrev pub IfDone : {X : Type 0} → Result Served (HubServeStop X) → Type 0 → Type 0
IfDone answer Holds = WhereDone (is_done answer) Holds

-- ---- whom the requests led to

-- The number of requests is the one that was answered, unless memory was wanting, or a request stopped whoever answers.
abbrev pub CountsRequests : {X : Type 0} → Result Served (HubServeStop X) → ℕ → Type 0
CountsRequests (Ok served) count = served.requests ≡ count
CountsRequests (Err (Serve stop)) count = WhereDone (is_no_want stop.cause) (stop.requests ≡ count)
CountsRequests (Err (Answers stop)) count = Unit {0}

-- Whoever answers is as the requests left it; or the next one was met by a stop, as may be.
abbrev pub StopsNext : {A X : Type 0} → (A → List ℕ → X → A → Type 0) → Result Served (HubServeStop X) → A → List (List ℕ) → A → Type 0
StopsNext MayStop (Err (Answers stop)) between [] after = ⊥
StopsNext MayStop (Err (Answers stop)) between (next ∷ rest) after = MayStop between next stop after
StopsNext MayStop answer between rest after = after ≡ between

-- So many of these bytes were written, and no others.
abbrev pub WroteFront : Device (List ℕ) → Device (List ℕ) → List ℕ → Type 0
WroteFront first last replies = (count : ℕ) × (last.told ≡ told_more first.told (take count replies))

-- The source gave this stream. The first of its requests were answered in turn, and of the replies to the first of these the
-- bytes were written, or a front of them.
pub record AnswersStream {A X : Type 0} (Answered : A → List ℕ → A → Type 0) (MayStop : A → List ℕ → X → A → Type 0) (before after : A) (first last : Ends) (answer : Result Served (HubServeStop X)) : Type 0 where
  pub stream : List ℕ
  pub gave : first.source.told ≡ told_before stream last.source.told
  pub replied : List (List ℕ)
  pub unreplied : List (List ℕ)
  pub rest : List (List ℕ)
  pub parts : requests_of stream ≡ (replied ++ unreplied) ++ rest
  pub between : A
  pub led : InTurn Answered before (replied ++ unreplied) between
  pub stops : StopsNext MayStop answer between rest after
  pub counts : CountsRequests answer (length (replied ++ unreplied))
  pub replies : List ℕ
  pub table : List Object
  pub answered : RepliesTo first.service first.table replied replies table
  pub wrote : WroteFront first.sink last.sink replies

-- ---- what is left of the hub

-- A session more was opened, and none more is open; else the hub is over.
abbrev pub LeavesBy : {A : Type 0} → Bool → HubSeen A → HubSeen A → Type 0
LeavesBy true before now = now ≡ record before { answers = now.answers; opened = before.opened + 1 }
LeavesBy false before now = now.over ≡ true

abbrev pub LeavesHub : {A X : Type 0} → HubSeen A → HubSeen A → Result Served (HubServeStop X) → Type 0
LeavesHub before now answer = LeavesBy (is_done answer) before now

-- ---- the events of a session

-- these pieces, one behind the other
abbrev pub joined : List (List ℕ) → List ℕ
joined [] = []
joined (piece ∷ pieces) = piece ++ joined pieces

-- how many bytes are read at most at once
abbrev pub most_read : ℕ
most_read = 65536

-- a read gave these bytes
pub record IsRead (piece : List ℕ) : Type 0 where
  pub some : 0 < length piece
  pub few : length piece ≤ most_read

-- the events that give a session these pieces
abbrev pub pieces_of : ℕ → List (List ℕ) → List Event
pieces_of number [] = []
pieces_of number (piece ∷ pieces) = Piece number piece ∷ pieces_of number pieces

-- A session that goes on is closed in the end.
abbrev pub closing : ℕ → List ℕ → List Event
closing number stream = if goes_on stream then Close number ∷ [] else []

-- all events of a session that these pieces come to
abbrev pub session_events : ℕ → List (List ℕ) → List Event
session_events number pieces = Open ∷ pieces_of number pieces ++ closing number (joined pieces)

-- The source gave these pieces, one a read. The hub stands where the events of the session lead from these sessions, and the table
-- is the one that the requests of their history leave.
pub record HasHistory {A X : Type 0} (a : answerers.Ghosts A X) (past : List Track) (before now : HubSeen A) (left left' : Option (List ℕ)) : Type 0 where
  pub pieces : List (List ℕ)
  pub reads : All IsRead pieces
  pub gave : left ≡ told_before (joined pieces) left'
  pub stands : Stands (after_all past (session_events before.opened pieces)) now
  pub replies : List Replied
  pub answered : RepliesInOrder (a.service before.answers) (a.table before.answers) (history_from past (session_events before.opened pieces)) replies (a.table now.answers)

-- ---- a request that stopped whoever answers

-- No call of either end failed. The replies were written to the requests that are whole before the last piece that was read. Of
-- the requests that this piece makes whole the first were answered, and no reply to them was written. The next one stopped whoever
-- answers, as may be.
pub record StopsServing {A X : Type 0} (a : answerers.Ghosts A X) (after : A) (first last : Ends) (stop : X) : Type 0 where
  pub stream : List ℕ
  pub piece : List ℕ
  pub read : IsRead piece
  pub gave : first.source ≡ before_giving (stream ++ piece) last.source
  pub replies : List ℕ
  pub table : List Object
  pub answered : RepliesTo first.service first.table (requests_of stream) replies table
  pub wrote : last.sink ≡ with_bytes first.sink replies
  pub front : List (List ℕ)
  pub next : List ℕ
  pub rest : List (List ℕ)
  pub parts : new_requests stream piece ≡ front ++ next ∷ rest
  pub unwritten : List ℕ
  pub between : A
  pub more : RepliesTo first.service table front unwritten (a.table between)
  pub service : a.service between ≡ first.service
  pub stops : a.stops between next stop after
  pub none_failed : NoneFailed first last
