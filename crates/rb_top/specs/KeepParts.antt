-- What the parts of a server do that keeps its requests.
use Rattle.std.specs.Prelude.{◌≡◌, ℕ, List, false, Option, Result}
use Rattle.rb_base.specs.Devices.{Device, device}
use Rattle.rb_disk.specs.Images.{DiskRecord}
use Rattle.rb_disk.specs.Storing.{StoreSeen, after_back}
use Rattle.rb_disk.specs.declared.disk.Disk as disks
use Rattle.rb_exec.specs.Hosted.{Hosted}
use Rattle.rb_session.specs.Answering.{IsTypedHost}
use Rattle.rb_journal.specs.Journals.{Keeps, SeenJournal}
use Rattle.rb_journal.specs.Keeping.{SeenKept}
use Rattle.rb_journal.specs.declared.stops.JournalStop.{JournalStop}
use Rattle.rb_top.specs.KeepRuns.{BeginsKeeping, Counting, EachImageHolds, IsServingStop, KeepsSessions, ListensKept, answered_for, faults_in, kept_manner, uncounted}
use Rattle.rb_top.specs.Sessions.{Listener, ServesSessions}
use Rattle.rb_top.specs.Words.{Keeping}
use Rattle.rb_top.specs.declared.sessions.SessionsStop.{SessionsStop}
use Rattle.rb_top.specs.declared.status.Status.{Status}

-- Whoever keeps requests may serve: the host is typed, and the journal is open on a disk of which no call failed.
pub record IsReady {D : Type 0} (faults : D → ℕ) (kept : SeenKept D) : Type 0 where
  pub typed : IsTypedHost kept.host
  pub is_open : kept.journal.is_closed ≡ false
  pub no_fault : faults kept.journal.disk ≡ 0

-- A journal was begun or opened, and the host is left so.
abbrev pub BeginsBy : {D : Type 0} → (D → Option DiskRecord) → (D → ℕ) → D → Hosted → SeenJournal D → Hosted → Type 0
BeginsBy told faults disk host journal left = BeginsKeeping told faults disk host (record { journal = journal; host = left })

-- Whoever keeps requests served so many sessions at most, and is left so.
pub record ServesKeptTo {D : Type 0} (told : D → Option DiskRecord) (faults : D → ℕ) (kept last : SeenKept D) (count : ℕ) (answer : Result (Unit {0}) (SessionsStop JournalStop)) (listen after_it : Listener) (before after : Device (List ℕ)) : Type 0 where
  pub left : Counting D
  pub is : left.kept ≡ last
  pub sessions : ServesSessions (kept_manner told faults) (uncounted kept) left count listen after_it before after answer
  pub faults_are : faults last.journal.disk ≡ faults_in answer
  pub stops : IsServingStop answer
  pub keeps : (payloads : List (List ℕ)) → Keeps told kept.journal payloads → EachImageHolds told last.journal.disk payloads left.requests (answered_for answer left)

-- It served, and its disk came back.
pub record KeepsToBack {D : Type 0} (d : disks.Ghosts D) (k : Keeping) (kept : SeenKept D) (result : Status) (listen after_it : Listener) (stores stores' : StoreSeen) (before after : Device (List ℕ)) : Type 0 where
  pub disk : D
  pub back : stores' ≡ after_back (device d.told d.faults disk) stores
  pub serves : KeepsSessions d.told d.faults k.journal kept k.serving.count result listen after_it disk before after

-- It listened, and its disk came back.
pub record ListensToBack {D : Type 0} (d : disks.Ghosts D) (k : Keeping) (kept : SeenKept D) (result : Status) (listen after_it : Listener) (stores stores' : StoreSeen) (before after : Device (List ℕ)) : Type 0 where
  pub disk : D
  pub back : stores' ≡ after_back (device d.told d.faults disk) stores
  pub listens : ListensKept d.told d.faults k kept result listen after_it disk before after
