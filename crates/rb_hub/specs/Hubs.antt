-- A hub, and what an event does to it.
use Rattle.std.specs.Prelude.{◌≡◌, ◌⊎◌, ℕ, ◌+◌, ◌<◌, Bool, true, false, if◌then◌else◌, nat_le, All, List, [], ◌∷◌, ◌++◌, length, map, take, drop, Option, None, Some, Result, Ok, Err}
use Rattle.rb_meaning.specs.Answers as meaning
use Rattle.rb_meaning_frames.specs.Frames.{frame_bytes}
use Rattle.rb_meaning_frames.specs.Histories.{Event, Open, Piece, Close, most_open, most_sessions, Asked, asked_by, Replied, RepliesInOrder}
use Rattle.rb_session.specs.Answering.{InTurn}
use Rattle.rb_session.specs.Taking.{longest_frame}
use Rattle.rb_session.specs.Sessions.{SessionSeen, new_session, came, stop_of, CutsPiece, Leaves}
use Rattle.rb_session.specs.declared.answerers.Answers as answerers
use Rattle.rb_session.specs.declared.sessions.SessionStop.{SessionStop}
use Rattle.rb_session.specs.declared.sessions.SessionStop.TheVariants as stops
use Rattle.rb_hub.specs.Seats.{session_of, with_session, without}
use Rattle.rb_hub.specs.Serial.{reply_out}
use Rattle.rb_hub.specs.declared.seats.Seat.{Seat}
use Rattle.rb_hub.specs.declared.events.Out.{Out}
use Rattle.rb_hub.specs.declared.events.Out.TheVariants.{Opened, Ended}
use Rattle.rb_hub.specs.declared.events.End.{End}
use Rattle.rb_hub.specs.declared.events.End.TheVariants as ends
use Rattle.rb_hub.specs.declared.events.HubRefusal.{HubRefusal}
use Rattle.rb_hub.specs.declared.events.HubRefusal.TheVariants.{UnknownSession, Crowded, Numbers, Over}
use Rattle.rb_hub.specs.declared.events.HubStop.{HubStop}
use Rattle.rb_hub.specs.declared.events.HubStop.TheVariants.{Refused, Memory, Answers}

-- a hub: whoever answers, how many sessions were opened, the open ones in order of their numbers, and whether it is over
pub record HubSeen (A : Type 0) : Type 0 where
  pub answers : A
  pub opened : ℕ
  pub seats : List Seat
  pub over : Bool

-- no session was opened yet
abbrev pub new_hub : {A : Type 0} → A → HubSeen A
new_hub answers = record { answers = answers; opened = 0; seats = []; over = false }

-- ---- refusals

abbrev pub unknown : Option SessionSeen → Option HubRefusal
unknown None = Some UnknownSession
unknown (Some session) = None

-- the refusal of an event whose place was looked for
abbrev pub refusal_in : Result ℕ HubRefusal → Option HubRefusal
refusal_in (Ok place) = None
refusal_in (Err refusal) = Some refusal

abbrev pub refusal_by : {A : Type 0} → HubSeen A → Event → Option HubRefusal
refusal_by hub Open = if nat_le most_sessions hub.opened then Some Numbers else (if nat_le most_open (length hub.seats) then Some Crowded else None)
refusal_by hub (Piece number piece) = unknown (session_of number hub.seats)
refusal_by hub (Close number) = unknown (session_of number hub.seats)

-- why a hub refuses an event, if it does
abbrev pub refusal_of : {A : Type 0} → HubSeen A → Event → Option HubRefusal
refusal_of hub event = if hub.over then Some Over else refusal_by hub event

-- the refusal that an answer says
abbrev pub refused_by : {X : Type 0} → Result Unit (HubStop X) → Option HubRefusal
refused_by (Ok u) = None
refused_by (Err (Refused refusal)) = Some refusal
refused_by (Err Memory) = None
refused_by (Err (Answers stop)) = None

-- It is why a hub is over: no refusal.
abbrev pub IsStop : {X : Type 0} → HubStop X → Type 0
IsStop (Refused refusal) = ⊥
IsStop stop = Unit {0}

-- ---- what a hub keeps true

-- An open session hasn't stopped, and what it keeps is less than a frame.
pub record IsOpen (seat : Seat) : Type 0 where
  pub fresh : seat.session.stop ≡ None
  pub short : length seat.session.rest < longest_frame

-- Whoever answers may be asked, and the sessions are open.
pub record MayGoOn {A X : Type 0} (a : answerers.Ghosts A X) (answers : A) (seats : List Seat) : Type 0 where
  pub ready : a.ready answers
  pub seats_open : All IsOpen seats

-- ---- requests are answered

-- what was asked, without by whom
abbrev pub payloads_of : List Asked → List (List ℕ)
payloads_of asked = map (λ (x : Asked). x.payload) asked

-- These requests were answered in order, and the replies came out.
pub record GivesReplies {A X : Type 0} (a : answerers.Ghosts A X) (before after : A) (asked : List Asked) (given : List Out) : Type 0 where
  pub replies : List Replied
  pub answered : RepliesInOrder (a.service before) (a.table before) asked replies (a.table after)
  pub led : InTurn a.does before (payloads_of asked) after
  pub service : a.service after ≡ a.service before
  pub is : given ≡ map reply_out replies

-- No more was done; or the next of these requests was answered, and its reply is lost.
abbrev pub LeavesAt : {A X : Type 0} → answerers.Ghosts A X → A → List Asked → A → Type 0
LeavesAt a between [] after = after ≡ between
LeavesAt a between (next ∷ rest) after = (after ≡ between) ⊎ a.does between next.payload after

-- The first of these requests were answered so, and memory was wanting then; whoever answers stood between at that time.
pub record GivesSome {A X : Type 0} (a : answerers.Ghosts A X) (before after : A) (asked : List Asked) (given : List Out) : Type 0 where
  pub front : List Asked
  pub rest : List Asked
  pub parts : asked ≡ front ++ rest
  pub between : A
  pub gives : GivesReplies a before between front given
  pub left : LeavesAt a between rest after

-- The first of these requests were answered so, and the next stopped whoever answers, as may be.
pub record StopsAt {A X : Type 0} (a : answerers.Ghosts A X) (before after : A) (asked : List Asked) (given : List Out) (stop : X) : Type 0 where
  pub front : List Asked
  pub next : Asked
  pub rest : List Asked
  pub parts : asked ≡ front ++ next ∷ rest
  pub between : A
  pub gives : GivesReplies a before between front given
  pub stops : a.stops between next.payload stop after

-- ---- what an event does

-- how a session ends that took a piece with this answer
abbrev pub end_of : Result Unit SessionStop → Option End
end_of (Ok u) = None
end_of (Err (stops.BadFrame at)) = Some (ends.BadFrame at)
end_of (Err stops.SessionSpent) = Some ends.Spent
end_of (Err stops.Memory) = None

-- how a session ends that is closed
abbrev pub close_of : SessionSeen → List ℕ → End
close_of session [] = ends.Whole
close_of session (byte ∷ rest) = ends.Cut (came session)

abbrev pub said : ℕ → SessionSeen → Option End → List Out
said number session None = []
said number session (Some end) = Ended number session.requests end ∷ []

-- the open sessions after one took a piece: it ended or stays
abbrev pub seats_after : ℕ → SessionSeen → Option End → List Seat → List Seat
seats_after number now None seats = with_session number now seats
seats_after number now (Some end) seats = without number seats

-- memory wasn't wanting
abbrev pub IsNoWant : Result Unit SessionStop → Type 0
IsNoWant (Err stops.Memory) = ⊥
IsNoWant answer = Unit {0}

-- The session with this number took a piece, and the requests with these payloads became whole by it.
pub record Hears (number : ℕ) (piece : List ℕ) (seats : List Seat) (payloads : List (List ℕ)) (answer : Result Unit SessionStop) (now : SessionSeen) : Type 0 where
  pub session : SessionSeen
  pub found : session_of number seats ≡ Some session
  pub cuts : CutsPiece session now piece payloads
  pub stop : now.stop ≡ stop_of answer
  pub leaves : Leaves answer now
  pub no_want : IsNoWant answer

-- A piece was taken, and this is to be said of the requests that became whole by it.
pub record HearsThat (number : ℕ) (piece : List ℕ) (seats : List Seat) (Says : List Asked → Type 0) : Type 0 where
  pub payloads : List (List ℕ)
  pub answer : Result Unit SessionStop
  pub now : SessionSeen
  pub hears : Hears number piece seats payloads answer now
  pub says : Says (asked_by number payloads)

-- A piece was taken, the requests that became whole were answered in order, and the session ended or stays.
pub record DoesPiece {A X : Type 0} (a : answerers.Ghosts A X) (number : ℕ) (piece : List ℕ) (before after : A) (seats seats' : List Seat) (given : List Out) : Type 0 where
  pub payloads : List (List ℕ)
  pub answer : Result Unit SessionStop
  pub now : SessionSeen
  pub hears : Hears number piece seats payloads answer now
  pub replies : List Out
  pub gives : GivesReplies a before after (asked_by number payloads) replies
  pub is : given ≡ replies ++ said number now (end_of answer)
  pub seats_are : seats' ≡ seats_after number now (end_of answer) seats

-- A session was closed.
pub record DoesClose (number : ℕ) (seats seats' : List Seat) (given : List Out) : Type 0 where
  pub session : SessionSeen
  pub found : session_of number seats ≡ Some session
  pub is : given ≡ said number session (Some (close_of session session.rest))
  pub seats_are : seats' ≡ without number seats

-- A session was opened.
pub record DoesOpen (opened opened' : ℕ) (seats seats' : List Seat) (given : List Out) : Type 0 where
  pub is : given ≡ Opened opened ∷ []
  pub opened_is : opened' ≡ opened + 1
  pub seats_are : seats' ≡ seats ++ record { number = opened; session = new_session } ∷ []

-- What an event does, and what it leaves as it was.
abbrev pub Does : {A X : Type 0} → answerers.Ghosts A X → Event → HubSeen A → HubSeen A → List Out → Type 0
Does a Open before after given = DoesOpen before.opened after.opened before.seats after.seats given × (after.answers ≡ before.answers)
Does a (Piece number piece) before after given =
    DoesPiece a number piece before.answers after.answers before.seats after.seats given × (after.opened ≡ before.opened)
Does a (Close number) before after given =
    DoesClose number before.seats after.seats given × (after.answers ≡ before.answers) × (after.opened ≡ before.opened)

-- Nothing came out, and no request was answered.
abbrev pub DoesNone : {A : Type 0} → A → A → List Out → Type 0
DoesNone before after given = (given ≡ []) × (after ≡ before)

-- Memory was wanting: nothing came out, or the first of the replies.
abbrev pub DoesPart : {A X : Type 0} → answerers.Ghosts A X → Event → HubSeen A → HubSeen A → List Out → Type 0
DoesPart a Open before after given = DoesNone before.answers after.answers given
DoesPart a (Piece number piece) before after given =
    DoesNone before.answers after.answers given ⊎ HearsThat number piece before.seats (λ asked. GivesSome a before.answers after.answers asked given)
DoesPart a (Close number) before after given = DoesNone before.answers after.answers given

-- Only a piece's request stops whoever answers.
abbrev pub HaltsBy : {A X : Type 0} → answerers.Ghosts A X → Event → HubSeen A → HubSeen A → List Out → X → Type 0
HaltsBy a Open before after given stop = ⊥
HaltsBy a (Piece number piece) before after given stop =
    HearsThat number piece before.seats (λ asked. StopsAt a before.answers after.answers asked given stop)
HaltsBy a (Close number) before after given stop = ⊥

-- What an event did that wasn't refused, by its answer.
abbrev pub DoesBy : {A X : Type 0} → answerers.Ghosts A X → Event → HubSeen A → HubSeen A → List Out → Result Unit (HubStop X) → Type 0
DoesBy a event before after given (Ok u) = Does a event before after given
DoesBy a event before after given (Err Memory) = DoesPart a event before after given
DoesBy a event before after given (Err (Answers stop)) = HaltsBy a event before after given stop
DoesBy a event before after given (Err (Refused refusal)) = ⊥

-- what came out, and what was done
abbrev pub Performs : {A X : Type 0} → answerers.Ghosts A X → Event → HubSeen A → HubSeen A → List Out → List Out → Result Unit (HubStop X) → Type 0
Performs a event before after old new answer = (given : List Out) × (new ≡ old ++ given) × DoesBy a event before after given answer

-- whether the hub is over after an answer
abbrev pub is_over : {X : Type 0} → Result Unit (HubStop X) → Bool
is_over (Ok u) = false
is_over (Err stop) = true

-- What a step did: nothing where it was refused.
abbrev pub Steps : {A X : Type 0} → answerers.Ghosts A X → Event → HubSeen A → HubSeen A → List Out → List Out → Result Unit (HubStop X) → Type 0
Steps a event before after old new (Err (Refused refusal)) = (after ≡ before) × (new ≡ old)
Steps a event before after old new answer = (after.over ≡ is_over answer) × Performs a event before after old new answer

-- ---- the functions below a step

-- A request was answered, and this is the frame of the reply.
pub record FramesReply {A X : Type 0} (a : answerers.Ghosts A X) (before after : A) (payload frame : List ℕ) : Type 0 where
  pub kind : ℕ
  pub reply : List ℕ
  pub answers : meaning.Answers (a.service before) (a.table before) payload kind reply (a.table after)
  pub does : a.does before payload after
  pub is : frame ≡ frame_bytes kind reply

-- a request was answered so, or not
abbrev pub RepliesOne : {A X : Type 0} → answerers.Ghosts A X → List ℕ → A → A → Result (List ℕ) (HubStop X) → Type 0
RepliesOne a payload before after (Ok frame) = FramesReply a before after payload frame
RepliesOne a payload before after (Err Memory) = (after ≡ before) ⊎ a.does before payload after
RepliesOne a payload before after (Err (Answers stop)) = a.stops before payload stop after
RepliesOne a payload before after (Err (Refused refusal)) = ⊥

-- requests were answered so, or not all
abbrev pub RepliesAll : {A X : Type 0} → answerers.Ghosts A X → List Asked → A → A → List Out → Result Unit (HubStop X) → Type 0
RepliesAll a asked before after given (Ok u) = GivesReplies a before after asked given
RepliesAll a asked before after given (Err Memory) = GivesSome a before after asked given
RepliesAll a asked before after given (Err (Answers stop)) = StopsAt a before after asked given stop
RepliesAll a asked before after given (Err (Refused refusal)) = ⊥

-- the fields of a hub that isn't over
abbrev pub hub_of : {A : Type 0} → A → ℕ → List Seat → HubSeen A
hub_of answers opened seats = record { answers = answers; opened = opened; seats = seats; over = false }

-- A session took a piece: what came out, and what was done, by the answer.
abbrev pub HearsBy : {A X : Type 0} → answerers.Ghosts A X → ℕ → List ℕ → A → A → List Seat → List Seat → List Out → Result Unit (HubStop X) → Type 0
HearsBy a number piece before after seats seats' given (Ok u) = DoesPiece a number piece before after seats seats' given
HearsBy a number piece before after seats seats' given (Err Memory) =
    DoesNone before after given ⊎ HearsThat number piece seats (λ asked. GivesSome a before after asked given)
HearsBy a number piece before after seats seats' given (Err (Answers stop)) = HearsThat number piece seats (λ asked. StopsAt a before after asked given stop)
HearsBy a number piece before after seats seats' given (Err (Refused refusal)) = ⊥

-- how a session ends by its answer, unless memory was wanting
abbrev pub EndsBy : {E : Type 0} → Result Unit SessionStop → Result (Option End) E → Type 0
EndsBy answer (Ok end) = (end ≡ end_of answer) × IsNoWant answer
EndsBy answer (Err e) = answer ≡ Err stops.Memory

-- A session took a piece and the requests that became whole were answered, and how it ends by that.
pub record AnswersSo {A X : Type 0} (a : answerers.Ghosts A X) (number : ℕ) (piece : List ℕ) (before after : A) (seats seats' : List Seat) (given : List Out) (end : Option End) : Type 0 where
  pub payloads : List (List ℕ)
  pub answer : Result Unit SessionStop
  pub now : SessionSeen
  pub hears : Hears number piece seats payloads answer now
  pub gives : GivesReplies a before after (asked_by number payloads) given
  pub seats_are : seats' ≡ with_session number now seats
  pub end_is : end ≡ end_of answer

-- the same, or not all was done
abbrev pub AnswersPiece : {A X : Type 0} → answerers.Ghosts A X → ℕ → List ℕ → A → A → List Seat → List Seat → List Out → Result (Option End) (HubStop X) → Type 0
AnswersPiece a number piece before after seats seats' given (Ok end) = AnswersSo a number piece before after seats seats' given end
AnswersPiece a number piece before after seats seats' given (Err stop) = HearsBy a number piece before after seats seats' given (Err stop)

-- the sessions but for the one at a place, if it ends
abbrev pub kept_by : ℕ → Option End → List Seat → List Seat
kept_by place None seats = seats
kept_by place (Some end) seats = take place seats ++ drop (place + 1) seats
