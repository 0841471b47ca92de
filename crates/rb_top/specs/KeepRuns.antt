-- A server whose accepted requests are kept in a journal: what is kept, and what is said.
use Rattle.std.specs.Prelude.{◌≡◌, ◌⊎◌, ◌+◌, ℕ, List, [], ◌++◌, if◌then◌else◌, true, false, length, take, Option, None, Some, Result, Ok, Err, codes}
use Rattle.rb_trees.specs.declared.services.Object.{Object}
use Rattle.rb_trees.specs.declared.services.Service as service
use Rattle.rb_trees.specs.mirror.Services.{mirror_service}
use Rattle.rb_meaning.specs.Shown.{line, shown_table}
use Rattle.rb_meaning_frames.specs.Reading.{requests_of}
use Rattle.rb_base.specs.Devices.{Device, device}
use Rattle.rb_base.specs.Directories.{Finds, read_once}
use Rattle.rb_base.specs.Listening.{Back}
use Rattle.rb_disk.specs.Images.{DiskRecord, MayLeave, shown}
use Rattle.rb_disk.specs.Storing.{StoreSeen, OpensNext, after_back, after_open}
use Rattle.rb_disk.specs.declared.disk.Disk as disks
use Rattle.rb_exec.specs.Hosted.{Hosted}
use Rattle.rb_session.specs.Serving.{Ends, ends}
use Rattle.rb_session.specs.declared.serving.Served.{Served}
use Rattle.rb_hub.specs.Serving.{AnswersStream, ServesUnlessStopped, is_no_want}
use Rattle.rb_hub.specs.declared.serving.HubServeStop.{HubServeStop}
use Rattle.rb_hub.specs.declared.serving.HubServeStop.TheVariants as served
use Rattle.rb_journal.specs.Form.{StandsFor}
use Rattle.rb_journal.specs.Journals.{Keeps}
use Rattle.rb_journal.specs.Keeping.{AnswersKept, HoldsFirst, SeenKept, StopsKept}
use Rattle.rb_journal.specs.Readings.{IsOpeningStop, StopsAs}
use Rattle.rb_journal.specs.Replays.{ReplaysAll}
use Rattle.rb_journal.specs.declared.stops.JournalStop.{JournalStop}
use Rattle.rb_journal.specs.declared.stops.JournalStop.TheVariants as stops
use Rattle.rb_top.specs.Ends as prints
use Rattle.rb_top.specs.Manners.{shown_hub_answer}
use Rattle.rb_top.specs.Scene.{Scene}
use Rattle.rb_top.specs.Servers.{host_on}
use Rattle.rb_top.specs.Sessions.{Listener, Manner, ServesSessions, Starts, listen_line}
use Rattle.rb_top.specs.Texts.{IsService}
use Rattle.rb_top.specs.Unusable.{TellsNoService}
use Rattle.rb_top.specs.Words.{Keeping}
use Rattle.rb_top.specs.declared.sessions.SessionsStop.{SessionsStop}
use Rattle.rb_top.specs.declared.sessions.SessionsStop.TheVariants.{Said, Answers}
use Rattle.rb_top.specs.declared.status.Status.{Status}
use Rattle.rb_top.specs.declared.status.Status.TheVariants.{DiskFault, Done, JournalRefused, ListenFault, Memory}

-- ---- sessions over whoever keeps requests

-- Whoever keeps requests; the requests of the sessions so far, in order; and how many of them, from the first on, a byte of a reply
-- may have been written to.
pub record Counting (D : Type 0) : Type 0 where
  pub kept : SeenKept D
  pub requests : List (List ℕ)
  pub replied : ℕ

-- no session so far
abbrev pub uncounted : {D : Type 0} → SeenKept D → Counting D
uncounted kept = record { kept = kept; requests = []; replied = 0 }

-- the requests of a session that count: so many as its line says; or all, where it has no line
abbrev pub counted : Result Served (HubServeStop JournalStop) → List (List ℕ) → List (List ℕ)
counted (Ok session) requests = take session.requests requests
counted (Err (served.Serve stop)) requests = if is_no_want stop.cause then take stop.requests requests else requests
counted (Err (served.Answers stop)) requests = requests

-- whoever keeps requests, and the two ends of a session
abbrev pub kept_at : {D : Type 0} → SeenKept D → Back → Ends
kept_at kept b = ends (mirror_service kept.host.service) kept.host.table b.source b.sink

-- A session was served as its stream says, or until a request stopped whoever keeps. Its requests were answered in turn: an accepted
-- one was kept, and then performed. They count behind those of the sessions before.
pub record ServesKept {D : Type 0} (told : D → Option DiskRecord) (faults : D → ℕ) (before after : Counting D) (first last : Back) (answer : Result Served (HubServeStop JournalStop)) : Type 0 where
  pub serves : ServesUnlessStopped (kept_at before.kept first) (kept_at after.kept last) answer
  pub answers : AnswersStream (AnswersKept told faults) (StopsKept told faults) before.kept after.kept (kept_at before.kept first) (kept_at after.kept last) answer
  pub requests : after.requests ≡ before.requests ++ counted answer (requests_of answers.stream)
  pub replied : after.replied ≡ length before.requests + length answers.replied

abbrev pub kept_manner : {D : Type 0} → (D → Option DiskRecord) → (D → ℕ) → Manner (Counting D) (Result Served (HubServeStop JournalStop)) JournalStop
kept_manner told faults = record {
  serves = λ before after first last answer. ServesKept told faults before after first last answer;
  shown = λ number answer. shown_hub_answer number answer;
}

-- ---- a journal that stopped

-- the line of a disk that failed
abbrev pub disk_line : List ℕ → List ℕ
disk_line name = line (codes "disk fault " ++ name)

-- A journal on the disk of this name stopped, and that was said. None that serves is closed.
abbrev pub SaysStop : List ℕ → JournalStop → Status → Device (List ℕ) → Device (List ℕ) → Type 0
SaysStop name stops.DiskFault result before after = prints.Ends (DiskFault name) (disk_line name) result before after
SaysStop name stops.Closed result before after = ⊥
SaysStop name stops.Full result before after = prints.Ends (JournalRefused 3) (line (codes "journal 3 Full")) result before after
SaysStop name stops.NotAJournal result before after = prints.Ends (JournalRefused 4) (line (codes "journal 4 NotAJournal")) result before after
SaysStop name (stops.BadRecord number) result before after = prints.Ends (JournalRefused 5) (line (codes "journal 5 BadRecord")) result before after
SaysStop name stops.Memory result before after = (result ≡ Memory) × (after ≡ before)

-- how many calls of a disk failed, by the stop
abbrev pub faults_by : JournalStop → ℕ
faults_by stops.DiskFault = 1
faults_by stop = 0

-- ---- a server over whoever keeps requests

-- how many calls of the disk failed, by how serving ended
abbrev pub faults_in : {A : Type 0} → Result A (SessionsStop JournalStop) → ℕ
faults_in (Ok done) = 0
faults_in (Err (Said status)) = 0
faults_in (Err (Answers stop)) = faults_by stop

-- What may stop whoever keeps requests while serving: its journal isn't closed, and was opened before.
abbrev pub IsServingStop : {A : Type 0} → Result A (SessionsStop JournalStop) → Type 0
IsServingStop (Err (Answers stops.Closed)) = ⊥
IsServingStop (Err (Answers stops.NotAJournal)) = ⊥
IsServingStop (Err (Answers (stops.BadRecord number))) = ⊥
IsServingStop answer = Unit {0}

-- Serving ended so, of which this table is left, and what was to be said was said.
abbrev pub EndsServing : List ℕ → List Object → Result (Unit {0}) (SessionsStop JournalStop) → Status → Device (List ℕ) → Device (List ℕ) → Type 0
EndsServing name table (Ok done) result said after = prints.Ends Done (shown_table 0 table) result said after
EndsServing name table (Err (Said status)) result said after = (result ≡ status) × (after ≡ said)
EndsServing name table (Err (Answers stop)) result said after = SaysStop name stop result said after

-- how many of the requests count as answered for: all of sessions that have lines, else those that a reply may have been written to
abbrev pub answered_for : {D : Type 0} → Result (Unit {0}) (SessionsStop JournalStop) → Counting D → ℕ
answered_for (Ok done) left = length left.requests
answered_for (Err stop) left = left.replied

-- Each image of the disk stands for these payloads and the accepted ones of a front of the requests, which has so many of them.
abbrev pub EachImageHolds : {D : Type 0} → (D → Option DiskRecord) → D → List (List ℕ) → List (List ℕ) → ℕ → Type 0
EachImageHolds told disk payloads requests least =
    (d : DiskRecord) (image : List ℕ) → told disk ≡ Some d → MayLeave d image → HoldsFirst payloads requests least image

-- Whoever keeps requests served so many sessions at most, and the disk is left. Whatever payloads the journal kept before: each image
-- of the disk stands for them and the accepted ones of a front of the requests of the sessions, which has all that were answered for.
pub record KeepsSessions {D : Type 0} (told : D → Option DiskRecord) (faults : D → ℕ) (name : List ℕ) (kept : SeenKept D) (count : ℕ) (result : Status) (listen after_it : Listener) (disk : D) (before after : Device (List ℕ)) : Type 0 where
  pub left : Counting D
  pub said : Device (List ℕ)
  pub answer : Result (Unit {0}) (SessionsStop JournalStop)
  pub sessions : ServesSessions (kept_manner told faults) (uncounted kept) left count listen after_it before said answer
  pub stops : IsServingStop answer
  pub ends : EndsServing name left.kept.host.table answer result said after
  pub disk_is : disk ≡ left.kept.journal.disk
  pub faults_are : faults disk ≡ faults_in answer
  pub keeps : (payloads : List (List ℕ)) → Keeps told kept.journal payloads → EachImageHolds told disk payloads left.requests (answered_for answer left)

-- It listens at an address first; or it can't, and that was said.
pub data ListensKept {D : Type 0} (told : D → Option DiskRecord) (faults : D → ℕ) (k : Keeping) (kept : SeenKept D) (result : Status) (listen after_it : Listener) (disk : D) (before after : Device (List ℕ)) : Type 0 where
  listens_there : (begun : Listener) → Starts k.serving.address true listen begun
      → KeepsSessions told faults k.journal kept k.serving.count result begun after_it disk before after → ListensKept told faults k kept result listen after_it disk before after
  not_there : Starts k.serving.address false listen after_it → disk ≡ kept.journal.disk → prints.Ends ListenFault listen_line result before after
      → ListensKept told faults k kept result listen after_it disk before after

-- ---- a journal is begun or opened

-- The bytes stand for the payloads; or there is no byte, and no payload.
abbrev pub IsJournalOf : List ℕ → List (List ℕ) → Type 0
IsJournalOf bytes payloads = ((bytes ≡ []) × (payloads ≡ [])) ⊎ StandsFor bytes payloads

-- The journal keeps the payloads that the bytes stand for, and the host performed them in order.
pub record Resumes {D : Type 0} (told : D → Option DiskRecord) (bytes : List ℕ) (host : Hosted) (kept : SeenKept D) : Type 0 where
  pub payloads : List (List ℕ)
  pub are : IsJournalOf bytes payloads
  pub keeps : Keeps told kept.journal payloads
  pub performed : ReplaysAll host payloads kept.host

-- A journal was begun on an empty disk, or the one that stood there was opened.
pub record BeginsKeeping {D : Type 0} (told : D → Option DiskRecord) (faults : D → ℕ) (disk : D) (host : Hosted) (kept : SeenKept D) : Type 0 where
  pub resumes : (d : DiskRecord) → told disk ≡ Some d → Resumes told (shown d) host kept
  pub service : kept.host.service ≡ host.service
  pub is_open : kept.journal.is_closed ≡ false
  pub no_fault : faults kept.journal.disk ≡ 0

-- No journal was begun or opened, for this reason, which an empty disk has only in its own faults.
pub record FailsToBegin {D : Type 0} (told : D → Option DiskRecord) (faults : D → ℕ) (disk : D) (stop : JournalStop) (left : D) : Type 0 where
  pub cause : (d : DiskRecord) → told disk ≡ Some d → StopsAs (shown d) stop
  pub on_empty : (d : DiskRecord) → told disk ≡ Some d → shown d ≡ [] → stop ≡ stops.DiskFault
  pub is_opening : IsOpeningStop stop
  pub faults_are : faults left ≡ faults_by stop

-- ---- the command

abbrev pub handed_out : Result (Unit {0}) (Unit {0})
handed_out = Ok tt

abbrev pub not_handed_out : Result (Unit {0}) (Unit {0})
not_handed_out = Err tt

-- The disk of the name was handed out, and no call of it has failed.
pub record HandsOut {D : Type 0} (d : disks.Ghosts D) (name : List ℕ) (disk : D) (stores : StoreSeen) : Type 0 where
  pub opens : OpensNext name (Some (device d.told d.faults disk)) stores.told
  pub fresh : d.faults disk ≡ 0

-- the stores after the disk of a name was handed out, and came back so
abbrev pub came_back : {D : Type 0} → disks.Ghosts D → List ℕ → D → StoreSeen → StoreSeen
came_back d name disk stores = after_back (device d.told d.faults disk) (after_open name handed_out stores)

-- The disk was handed out, a journal was begun or opened on it, a server listens that keeps requests by it, and the disk came back.
pub record KeepsOver {D : Type 0} (d : disks.Ghosts D) (k : Keeping) (host : Hosted) (result : Status) (listen after_it : Listener) (stores stores' : StoreSeen) (before after : Device (List ℕ)) : Type 0 where
  pub disk : D
  pub hands : HandsOut d k.journal disk stores
  pub kept : SeenKept D
  pub begins : BeginsKeeping d.told d.faults disk host kept
  pub left : D
  pub back : stores' ≡ came_back d k.journal left stores
  pub listens : ListensKept d.told d.faults k kept result listen after_it left before after

-- The requests to a host are kept; or it was said why they aren't, before anything was listened for.
pub data KeepsOn {D : Type 0} (d : disks.Ghosts D) (k : Keeping) (host : Hosted) (result : Status) (listen after_it : Listener) (stores stores' : StoreSeen) (before after : Device (List ℕ)) : Type 0 where
  starved_for_host : result ≡ Memory → after_it ≡ listen → stores' ≡ stores → after ≡ before → KeepsOn d k host result listen after_it stores stores' before after
  no_disk : OpensNext k.journal None stores.told → after_it ≡ listen → stores' ≡ after_open k.journal not_handed_out stores
      → prints.Ends (DiskFault k.journal) (disk_line k.journal) result before after → KeepsOn d k host result listen after_it stores stores' before after
  no_journal : (disk left : D) (stop : JournalStop) → HandsOut d k.journal disk stores → FailsToBegin d.told d.faults disk stop left → after_it ≡ listen
      → stores' ≡ came_back d k.journal left stores → SaysStop k.journal stop result before after → KeepsOn d k host result listen after_it stores stores' before after
  keeps_over : KeepsOver d k host result listen after_it stores stores' before after → KeepsOn d k host result listen after_it stores stores' before after

-- The service in the file was read, and the requests to its server are kept; or it was said why there is no service.
pub data KeepsAs {D : Type 0} (d : disks.Ghosts D) (k : Keeping) (result : Status) (listen after_it : Listener) (stores stores' : StoreSeen) (before after : Scene) : Type 0 where
  no_service_to_keep : TellsNoService k.serving.service result before after → after_it ≡ listen → stores' ≡ stores → KeepsAs d k result listen after_it stores stores' before after
  keeps_them : (text : List ℕ) (s : service.Service) (table : List Object) → Finds before.files.told k.serving.service text → IsService text (mirror_service s, table)
      → KeepsOn d k (host_on s table) result listen after_it stores stores' before.out after.out → after.files ≡ read_once before.files
      → KeepsAs d k result listen after_it stores stores' before after
