-- Sessions: what one has, and what it does with a piece of its stream.
use Rattle.std.specs.Prelude.{◌≡◌, ℕ, ◌+◌, ◌*◌, ◌≤◌, List, [], ◌++◌, length, Option, None, Some, Result, Ok, Err}
use Rattle.rb_meaning_frames.specs.Streams.{most_requests, BreaksRequest, Waits, BeginsWhole}
use Rattle.rb_exec.specs.Hosted.{Hosted}
use Rattle.rb_session.specs.declared.sessions.SessionStop.{SessionStop}
use Rattle.rb_session.specs.declared.sessions.SessionStop.TheVariants.{BadFrame, SessionSpent, Memory}
use Rattle.rb_trees.specs.declared.want.Memory as wants
use Rattle.rb_session.specs.Taking.{longest_frame, Cuts, RepliesOn}
use Rattle.rb_session.specs.declared.frames.Front.{Front}
use Rattle.rb_session.specs.declared.frames.Front.TheVariants.{Whole, Partial, Broken}
use Rattle.rb_session.specs.declared.requests.Taken.{Taken}

-- a session: the bytes after the last whole frame, their offset in its stream, how many requests were taken, and why it
-- stopped, if it did
pub record SessionSeen : Type 0 where
  pub rest : List ℕ
  pub offset : ℕ
  pub requests : ℕ
  pub stop : Option SessionStop

-- nothing came yet
abbrev pub new_session : SessionSeen
new_session = record { rest = []; offset = 0; requests = 0; stop = None }

-- how many bytes of the stream came
abbrev pub came : SessionSeen → ℕ
came s = s.offset + length s.rest

-- The offset is no more than so many requests may have, which are no more than are taken.
pub record IsBounded (offset requests : ℕ) : Type 0 where
  pub offset_is : offset ≤ requests * longest_frame
  pub requests_are : requests ≤ most_requests

-- why a session is stopped after this answer
abbrev pub stop_of : Result Unit SessionStop → Option SessionStop
stop_of (Ok u) = None
stop_of (Err stop) = Some stop

-- What breaks the form is a part of a header.
abbrev pub IsNear : Front → Type 0
IsNear (Broken at) = at ≤ 3
IsNear front = Unit {0}

-- the answer by what stands behind the requests that were taken, at an offset of the stream
abbrev pub answer_by : Front → ℕ → Result Unit SessionStop
answer_by (Whole size) offset = Err SessionSpent
answer_by Partial offset = Ok tt
answer_by (Broken at) offset = Err (BadFrame (offset + at))

-- the session behind what was taken from the front of its rest
abbrev pub behind : SessionSeen → Taken → SessionSeen
behind s taken = record s {
  offset = s.offset + taken.bytes;
  requests = s.requests + taken.requests;
  stop = stop_of (answer_by taken.front (s.offset + taken.bytes));
}

-- Behind what was taken the session is bounded still, and what breaks the form is near.
pub record MayMoveOn (s : SessionSeen) (taken : Taken) : Type 0 where
  pub bounded : IsBounded (s.offset + taken.bytes) (s.requests + taken.requests)
  pub near : IsNear taken.front

-- A session moves on behind what was taken, and its answer says what stands there; or memory was wanting.
abbrev pub MovesOn : SessionSeen → SessionSeen → Result Taken wants.Memory → Result Unit SessionStop → Type 0
MovesOn before now (Ok taken) answer = (answer ≡ answer_by taken.front (before.offset + taken.bytes)) × (now ≡ behind before taken)
MovesOn before now (Err want) answer = (answer ≡ Err Memory) × (now ≡ record before { stop = Some Memory })

-- What stands of the stream after an answer that isn't want of memory. The rest waits for more; or it breaks the form, at an
-- offset of the stream; or so many requests were taken that a further whole one isn't.
abbrev pub Leaves : Result Unit SessionStop → SessionSeen → Type 0
Leaves (Ok u) s = Waits s.rest
Leaves (Err (BadFrame at)) s = (offset : ℕ) × (at ≡ s.offset + offset) × BreaksRequest offset s.rest
Leaves (Err SessionSpent) s = (s.requests ≡ most_requests) × BeginsWhole s.rest
Leaves (Err Memory) s = Unit {0}

-- A piece came: the requests with these payloads became whole by it.
pub record CutsPiece (before now : SessionSeen) (piece : List ℕ) (payloads : List (List ℕ)) : Type 0 where
  pub cuts : Cuts (before.rest ++ piece) now.rest payloads
  pub requests : now.requests ≡ before.requests + length payloads
  pub few : now.requests ≤ most_requests
  pub came_is : came now ≡ came before + length piece

-- A piece came: the requests that it made whole were answered in order, and these frames are their replies.
pub record Goes (host after : Hosted) (before now : SessionSeen) (piece replies : List ℕ) : Type 0 where
  pub payloads : List (List ℕ)
  pub cuts : CutsPiece before now piece payloads
  pub answers : RepliesOn host after payloads replies

-- Feeding a piece and then another is feeding both as one.
abbrev pub IsFedAnywhere : Type 0
IsFedAnywhere = (host between after : Hosted) (before mid now : SessionSeen) (piece next replies more : List ℕ) → between.service ≡ host.service
    → Goes host between before mid piece replies → Goes between after mid now next more → Goes host after before now (piece ++ next) (replies ++ more)

-- A piece came, was answered so, and the buffer has gained the replies.
pub record Answered (host after : Hosted) (before now : SessionSeen) (piece old new : List ℕ) (answer : Result Unit SessionStop) : Type 0 where
  pub replies : List ℕ
  pub goes : Goes host after before now piece replies
  pub gains : new ≡ old ++ replies
  pub leaves : Leaves answer now

-- the same, unless memory was wanting
abbrev pub AnsweredUnlessMemory : (host after : Hosted) (before now : SessionSeen) (piece old new : List ℕ) → Result Unit SessionStop → Type 0
AnsweredUnlessMemory host after before now piece old new (Err Memory) = Unit {0}
AnsweredUnlessMemory host after before now piece old new answer = Answered host after before now piece old new answer

-- A session that stopped answers the same stop, and nothing changes.
pub record StaysStopped (host after : Hosted) (before now : SessionSeen) (old new : List ℕ) (answer : Result Unit SessionStop) (stop : SessionStop) : Type 0 where
  pub same : answer ≡ Err stop
  pub session : now ≡ before
  pub host_is : after ≡ host
  pub buffer : new ≡ old

-- What a session does with a piece, by whether it stopped before.
abbrev pub Feeds : (host after : Hosted) (before now : SessionSeen) (piece old new : List ℕ) → Result Unit SessionStop → Option SessionStop → Type 0
Feeds host after before now piece old new answer None =
    (now.stop ≡ stop_of answer) × AnsweredUnlessMemory host after before now piece old new answer
Feeds host after before now piece old new answer (Some stop) = StaysStopped host after before now old new answer stop

-- A piece came, was answered so, and the list has gained the payloads of the requests that it made whole.
pub record Gathered (before now : SessionSeen) (piece : List ℕ) (old new : List (List ℕ)) (answer : Result Unit SessionStop) : Type 0 where
  pub payloads : List (List ℕ)
  pub cuts : CutsPiece before now piece payloads
  pub gains : new ≡ old ++ payloads
  pub leaves : Leaves answer now

-- the same, unless memory was wanting
abbrev pub GatheredUnlessMemory : (before now : SessionSeen) (piece : List ℕ) (old new : List (List ℕ)) → Result Unit SessionStop → Type 0
GatheredUnlessMemory before now piece old new (Err Memory) = Unit {0}
GatheredUnlessMemory before now piece old new answer = Gathered before now piece old new answer

-- A session that stopped answers the same stop, and nothing changes.
pub record GathersNone (before now : SessionSeen) (old new : List (List ℕ)) (answer : Result Unit SessionStop) (stop : SessionStop) : Type 0 where
  pub same : answer ≡ Err stop
  pub session : now ≡ before
  pub list : new ≡ old

-- What a session gathers from a piece, by whether it stopped before.
abbrev pub Gathers : (before now : SessionSeen) (piece : List ℕ) (old new : List (List ℕ)) → Result Unit SessionStop → Option SessionStop → Type 0
Gathers before now piece old new answer None = (now.stop ≡ stop_of answer) × GatheredUnlessMemory before now piece old new answer
Gathers before now piece old new answer (Some stop) = GathersNone before now old new answer stop

-- The fact holds, unless memory was wanting.
abbrev pub UnlessSpentMemory : Result Unit SessionStop → Type 0 → Type 0
UnlessSpentMemory (Err Memory) Holds = Unit {0}
UnlessSpentMemory answer Holds = Holds
