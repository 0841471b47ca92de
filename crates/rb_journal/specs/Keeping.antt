-- Requests that are kept on a disk before they are performed.
use Rattle.std.specs.Prelude.{◌≡◌, ◌⊎◌, ◌≤◌, ℕ, ◌+◌, List, [], ◌∷◌, ◌++◌, take, Option, Result, Ok, Err}
use Rattle.rb_disk.specs.Images.{DiskRecord}
use Rattle.rb_meaning_bytes.specs.formats.Messages.{Refused}
use Rattle.rb_meaning_bytes.specs.formats.ScriptPayloads.{Means}
use Rattle.rb_exec.specs.Hosted.{Hosted}
use Rattle.rb_session.specs.Answering.{InTurn}
use Rattle.rb_journal.specs.declared.stops.JournalStop.{JournalStop}
use Rattle.rb_journal.specs.declared.stops.JournalStop.TheVariants.{DiskFault, Closed, Full, NotAJournal, BadRecord, Memory}
use Rattle.rb_journal.specs.Form.{IsAccepted, StandsFor}
use Rattle.rb_journal.specs.Journals.{SeenJournal, Keeps, KeepsMore, LeavesBeforeOrAfter, CrashesOnly}
use Rattle.rb_journal.specs.Answers.{AnswersAppend}
use Rattle.rb_journal.specs.Replays.{Replays, ReplaysAll}

-- Whoever keeps requests: a journal, and the host that performs them.
pub record SeenKept (D : Type 0) : Type 0 where
  pub journal : SeenJournal D
  pub host : Hosted

-- The payload spells no valid script.
abbrev pub IsRefused : List ℕ → Type 0
IsRefused payload = (wrong : Refused) × Means payload (Err wrong)

-- An accepted request was kept first, and then performed.
pub record KeepsAndPerforms {D : Type 0} (told : D → Option DiskRecord) (faults : D → ℕ) (before : SeenKept D) (request : List ℕ) (after : SeenKept D) : Type 0 where
  pub accepted : IsAccepted request
  pub appended : AnswersAppend faults request (Ok tt) before.journal after.journal
  pub keeps : KeepsMore told before.journal (request ∷ []) after.journal
  pub any_moment : LeavesBeforeOrAfter told before.journal request after.journal
  pub performed : Replays before.host request after.host
  pub service : after.host.service ≡ before.host.service

-- A request was answered: an accepted one was kept first, and then performed; a refused one changed nothing.
abbrev pub AnswersKept : {D : Type 0} → (D → Option DiskRecord) → (D → ℕ) → SeenKept D → List ℕ → SeenKept D → Type 0
AnswersKept told faults before request after = KeepsAndPerforms told faults before request after ⊎ (IsRefused request × (after ≡ before))

-- An accepted request wasn't kept, for this reason, and the host is as it was.
pub record FailsToKeep {D : Type 0} (told : D → Option DiskRecord) (faults : D → ℕ) (before : SeenKept D) (request : List ℕ) (stop : JournalStop) (after : SeenKept D) : Type 0 where
  pub accepted : IsAccepted request
  pub appended : AnswersAppend faults request (Err stop) before.journal after.journal
  pub any_moment : LeavesBeforeOrAfter told before.journal request after.journal
  pub host : after.host ≡ before.host

-- An accepted request was kept, and memory was wanting to perform it: of the host's table nothing is said.
pub record KeepsAlone {D : Type 0} (told : D → Option DiskRecord) (faults : D → ℕ) (before : SeenKept D) (request : List ℕ) (after : SeenKept D) : Type 0 where
  pub accepted : IsAccepted request
  pub appended : AnswersAppend faults request (Ok tt) before.journal after.journal
  pub keeps : KeepsMore told before.journal (request ∷ []) after.journal
  pub any_moment : LeavesBeforeOrAfter told before.journal request after.journal
  pub service : after.host.service ≡ before.host.service

-- Each stop that a request may be met by, and what had happened then.
abbrev pub StopsKept : {D : Type 0} → (D → Option DiskRecord) → (D → ℕ) → SeenKept D → List ℕ → JournalStop → SeenKept D → Type 0
StopsKept told faults before request DiskFault after = FailsToKeep told faults before request DiskFault after
StopsKept told faults before request Closed after = FailsToKeep told faults before request Closed after
StopsKept told faults before request Full after = FailsToKeep told faults before request Full after
StopsKept told faults before request Memory after = (after ≡ before) ⊎ KeepsAlone told faults before request after
StopsKept told faults before request NotAJournal after = ⊥
StopsKept told faults before request (BadRecord number) after = ⊥

-- These are the accepted ones among the requests, in order; each other one is refused.
pub data AcceptedAmong : List (List ℕ) → List (List ℕ) → Type 0 where
  none : AcceptedAmong [] []
  accepts : (request : List ℕ) (requests accepted : List (List ℕ)) → IsAccepted request → AcceptedAmong requests accepted
      → AcceptedAmong (request ∷ requests) (request ∷ accepted)
  refuses : (request : List ℕ) (requests accepted : List (List ℕ)) → IsRefused request → AcceptedAmong requests accepted
      → AcceptedAmong (request ∷ requests) accepted

-- The requests were answered one after the other, each from what the one before it left.
abbrev pub AnswersAll : {D : Type 0} → (D → Option DiskRecord) → (D → ℕ) → SeenKept D → List (List ℕ) → SeenKept D → Type 0
AnswersAll told faults = InTurn (AnswersKept told faults)

-- So many requests were answered one after the other, and the next one was met by a stop.
pub record StopsAfter {D : Type 0} (told : D → Option DiskRecord) (faults : D → ℕ) (before : SeenKept D) (requests : List (List ℕ)) (answered : ℕ) (stop : JournalStop) (after : SeenKept D) : Type 0 where
  pub between : SeenKept D
  pub answers : AnswersAll told faults before (take answered requests) between
  pub request : List ℕ
  pub is_next : take (answered + 1) requests ≡ take answered requests ++ request ∷ []
  pub stops : StopsKept told faults between request stop after

-- What answered requests come to: the accepted ones among them are kept behind the payloads that were kept before, and the host
-- performed them in order.
pub record KeepsAccepted {D : Type 0} (told : D → Option DiskRecord) (before : SeenKept D) (requests : List (List ℕ)) (after : SeenKept D) : Type 0 where
  pub accepted : List (List ℕ)
  pub among : AcceptedAmong requests accepted
  pub keeps : KeepsMore told before.journal accepted after.journal
  pub performed : ReplaysAll before.host accepted after.host
  pub service : after.host.service ≡ before.host.service

-- The bytes stand for the payloads and the accepted ones of a front of the requests, which has the first so many of them.
abbrev pub HoldsFirst : List (List ℕ) → List (List ℕ) → ℕ → List ℕ → Type 0
HoldsFirst payloads requests least bytes =
    (count : ℕ) × (least ≤ count) × (accepted : List (List ℕ)) × AcceptedAmong (take count requests) accepted × StandsFor bytes (payloads ++ accepted)

-- The first so many requests were answered, and a crash at any moment since then leaves the payloads that were kept before
-- and the accepted ones of a front of the requests, which has all of those.
pub record LeavesAnswered {D : Type 0} (told : D → Option DiskRecord) (faults : D → ℕ) (before : SeenKept D) (payloads requests : List (List ℕ)) (answered : ℕ) (after : SeenKept D) : Type 0 where
  pub between : SeenKept D
  pub answers : AnswersAll told faults before (take answered requests) between
  pub any_moment : CrashesOnly (told between.journal.disk) (told after.journal.disk) (HoldsFirst payloads requests answered)

-- So it is for each number of requests that were answered, whatever payloads were kept before.
abbrev pub LeavesEach : {D : Type 0} → (D → Option DiskRecord) → (D → ℕ) → SeenKept D → List (List ℕ) → ℕ → SeenKept D → Type 0
LeavesEach told faults before requests most after =
    (payloads : List (List ℕ)) → Keeps told before.journal payloads → (answered : ℕ) → answered ≤ most → LeavesAnswered told faults before payloads requests answered after
