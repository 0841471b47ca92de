-- The pieces of a source are given to the last session of a hub, and its replies are written.
use Rattle.std.specs.Prelude.{◌≡◌, ℕ, ◌+◌, ◌≤◌, Bool, true, false, All, List, [], ◌∷◌, ◌++◌, length, Option, None, Some, Result, Ok, Err}
use Rattle.rb_base.specs.Devices.{Device, failed}
use Rattle.rb_base.specs.Sinks.{with_bytes, WrotePrefix}
use Rattle.rb_base.specs.Sources.{told_before}
use Rattle.rb_meaning_frames.specs.Streams.{most_requests}
use Rattle.rb_meaning_frames.specs.Reading.{standing, requests_of, rest_of}
use Rattle.rb_meaning_frames.specs.Histories.{Track, goes_on, after_all, asked_by, new_requests, history_from, Replied, RepliesInOrder}
use Rattle.rb_session.specs.Answering.{InTurn, SomeInTurn}
use Rattle.rb_session.specs.declared.answerers.Answers as answerers
use Rattle.rb_session.specs.declared.serving.Served.{Served}
use Rattle.rb_session.specs.declared.serving.ServeCause.{ServeCause}
use Rattle.rb_session.specs.declared.serving.ServeCause.TheVariants as causes
use Rattle.rb_session.specs.Serving.{Ends}
use Rattle.rb_hub.specs.Serial.{replies_in, end_by}
use Rattle.rb_hub.specs.Hubs.{HubSeen, StopsAt}
use Rattle.rb_hub.specs.Standing.{Stands}
use Rattle.rb_hub.specs.Delivering.{end_in, bytes_in, frames_of}
use Rattle.rb_hub.specs.Serving.{ServesUnlessStopped, IfStopped, IfDone, is_done, StopsServing, AnswersStream, joined, IsRead, pieces_of, closing}
use Rattle.rb_hub.specs.declared.events.End.{End}
use Rattle.rb_hub.specs.declared.events.End.TheVariants as ends
use Rattle.rb_hub.specs.declared.events.Out.{Out}
use Rattle.rb_hub.specs.declared.passing.Passed.{Passed}
use Rattle.rb_hub.specs.declared.passing.PassStop.{PassStop}
use Rattle.rb_hub.specs.declared.passing.PassStop.TheVariants.{WriteFault, Memory, Answers}
use Rattle.rb_hub.specs.declared.serving.HubServeStop.{HubServeStop}
use Rattle.rb_hub.specs.declared.serving.HubServeStop.TheVariants as stops

-- a session whose stream came so far, and whether it is open
abbrev pub track : List ℕ → Bool → Track
track stream is_open = record { stream = stream; is_open = is_open }

-- The hub stands where these sessions are, and behind them this one, which was opened last.
abbrev pub StandsWith : {A : Type 0} → List Track → Track → HubSeen A → Type 0
StandsWith past t hub = Stands (past ++ t ∷ []) hub

-- Of the last session, which has this number, this is so.
abbrev pub IsLast : {A : Type 0} → ℕ → Bool → HubSeen A → Type 0
IsLast number is_open hub = (past : List Track) × (stream : List ℕ) × (number ≡ length past) × StandsWith past (track stream is_open) hub

-- The last session, which has this number, is new.
abbrev pub IsNew : {A : Type 0} → ℕ → HubSeen A → Type 0
IsNew number hub = (past : List Track) × (number ≡ length past) × StandsWith past (track [] true) hub

-- ---- one piece

-- This is told of what came out of a piece.
pub record Tells (outs : List Out) (passed : Passed) : Type 0 where
  pub count : passed.replies ≡ length (replies_in outs)
  pub end_is : passed.end ≡ end_in outs

-- The replies among what came out were written, or a front of them.
abbrev pub Delivers : {X : Type 0} → List Out → Device (List ℕ) → Device (List ℕ) → Result Passed (PassStop X) → Type 0
Delivers outs old new (Ok passed) = Tells outs passed × (new ≡ with_bytes old (bytes_in outs))
Delivers outs old new (Err (WriteFault passed)) = Tells outs passed × WrotePrefix (failed old) new (bytes_in outs) × (1 ≤ passed.replies)
Delivers outs old new (Err Memory) = ⊥
Delivers outs old new (Err (Answers stop)) = ⊥

-- A piece was played, by whole streams: the requests that it makes whole were answered, and these are the frames of the replies.
pub record Passes {A X : Type 0} (a : answerers.Ghosts A X) (past : List Track) (stream piece : List ℕ) (before now : HubSeen A) (passed : Passed) (frames : List ℕ) : Type 0 where
  pub stands : StandsWith past (track (stream ++ piece) (goes_on (stream ++ piece))) now
  pub replies : List Replied
  pub answered : RepliesInOrder (a.service before.answers) (a.table before.answers) (asked_by (length past) (new_requests stream piece)) replies (a.table now.answers)
  pub led : InTurn a.does before.answers (new_requests stream piece) now.answers
  pub frames_are : frames ≡ frames_of replies
  pub count : passed.replies ≡ length (new_requests stream piece)
  pub end_is : passed.end ≡ end_by (standing (rest_of (stream ++ piece))) (stream ++ piece)

-- The replies were written, or a front of them; or not all was answered, and none was written.
abbrev pub PassesOn : {A X : Type 0} → answerers.Ghosts A X → List Track → List ℕ → List ℕ → HubSeen A → HubSeen A → Device (List ℕ) → Device (List ℕ) → Result Passed (PassStop X) → Type 0
PassesOn a past stream piece before now old new (Ok passed) =
    (frames : List ℕ) × Passes a past stream piece before now passed frames × (new ≡ with_bytes old frames)
PassesOn a past stream piece before now old new (Err (WriteFault passed)) =
    (frames : List ℕ) × Passes a past stream piece before now passed frames × WrotePrefix (failed old) new frames × (1 ≤ passed.replies)
PassesOn a past stream piece before now old new (Err Memory) =
    (new ≡ old) × (now.over ≡ true) × SomeInTurn a.does before.answers (new_requests stream piece) now.answers
PassesOn a past stream piece before now old new (Err (Answers stop)) =
    (new ≡ old) × (now.over ≡ true) × (given : List Out) × StopsAt a before.answers now.answers (asked_by (length past) (new_requests stream piece)) given stop

-- ---- the session is opened and closed

-- A session was opened behind these.
pub record Opens {A : Type 0} (past : List Track) (before now : HubSeen A) : Type 0 where
  pub stands : StandsWith past (track [] true) now
  pub same : now.answers ≡ before.answers

-- The last session isn't open any more.
pub record Shuts {A : Type 0} (past : List Track) (stream : List ℕ) (before now : HubSeen A) : Type 0 where
  pub stands : StandsWith past (track stream false) now
  pub same : now.answers ≡ before.answers

-- whether no end is said
abbrev pub says_none : Option End → Bool
says_none None = true
says_none (Some end) = false

-- what is answered of a session that was served to a stop
abbrev pub stopped_at : {X : Type 0} → ℕ → ServeCause → Result Served (HubServeStop X)
stopped_at requests cause = Err (stops.Serve (record { requests = requests; cause = cause }))

-- what is answered of a session that ended so
abbrev pub answer_of : {X : Type 0} → ℕ → End → Result Served (HubServeStop X)
answer_of requests ends.Whole = Ok (record { requests = requests })
answer_of requests (ends.Cut at) = stopped_at requests (causes.Cut at)
answer_of requests (ends.BadFrame at) = stopped_at requests (causes.BadFrame at)
answer_of requests ends.Spent = stopped_at requests causes.SessionSpent

-- what is answered where a piece wasn't passed on whole
abbrev pub answer_by : {X : Type 0} → ℕ → PassStop X → Result Served (HubServeStop X)
answer_by requests (WriteFault passed) = stopped_at (requests + passed.replies) causes.WriteFault
answer_by requests Memory = stopped_at requests causes.Memory
answer_by requests (Answers stop) = Err (stops.Answers stop)

-- how the last session stands where a piece wasn't passed on whole; and that so many requests can be counted
abbrev pub MayLeave : {A X : Type 0} → ℕ → ℕ → HubSeen A → PassStop X → Type 0
MayLeave number requests hub (WriteFault passed) = IsLast number (says_none passed.end) hub × (requests + passed.replies ≤ most_requests)
MayLeave number requests hub Memory = Unit {0}
MayLeave number requests hub (Answers stop) = Unit {0}

-- The last session was closed if need be, where a write failed.
abbrev pub LeavesLast : {A X : Type 0} → ℕ → HubSeen A → HubSeen A → PassStop X → Type 0
LeavesLast number before now (WriteFault passed) =
    (past : List Track) (stream : List ℕ) → number ≡ length past → StandsWith past (track stream (says_none passed.end)) before → Shuts past stream before now
LeavesLast number before now Memory = now ≡ before
LeavesLast number before now (Answers stop) = now ≡ before

-- ---- all pieces

-- From a new session the source gave this stream in these pieces. The hub stands where they lead, and the replies to the requests of
-- the stream leave the table.
pub record Leads {A : Type 0} (past : List Track) (now : HubSeen A) (first last : Ends) : Type 0 where
  pub pieces : List (List ℕ)
  pub stream : List ℕ
  pub joined_is : joined pieces ≡ stream
  pub reads : All IsRead pieces
  pub gave : first.source.told ≡ told_before stream last.source.told
  pub stands : StandsWith past (track stream false) now
  pub leads : after_all (past ++ track [] true ∷ []) (pieces_of (length past) pieces ++ closing (length past) stream) ≡ past ++ track stream false ∷ []
  pub asked : history_from (past ++ track [] true ∷ []) (pieces_of (length past) pieces ++ closing (length past) stream) ≡ asked_by (length past) (requests_of stream)
  pub replies : List Replied
  pub answered : RepliesInOrder first.service first.table (asked_by (length past) (requests_of stream)) replies last.table

-- A new session was served to its end, or to a stop.
pub record ServesNew {A X : Type 0} (a : answerers.Ghosts A X) (past : List Track) (before now : HubSeen A) (first last : Ends) (answer : Result Served (HubServeStop X)) : Type 0 where
  pub serves : ServesUnlessStopped first last answer
  pub stops : IfStopped answer (StopsServing a now.answers first last)
  pub answers : AnswersStream a.does a.stops before.answers now.answers first last answer
  pub leads : IfDone answer (Leads past now first last)
  pub over : is_done answer ≡ false → now.over ≡ true
