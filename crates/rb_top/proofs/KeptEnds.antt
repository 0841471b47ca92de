-- What is left of the outside where requests are kept.
use Rattle.std.proofs.Common.{◌≡◌, refl, ap, sym, ◌∙◌, subst, ℕ, true, List, Option, None, Some, Result, Ok}
use Rattle.std.specs.Prelude.{option_map}
use Rattle.rb_base.specs.Devices.{Device, device}
use Rattle.rb_disk.specs.Storing.{StoreSeen, Storing, OpensNext, after_back, after_open, told_after_open}
use Rattle.rb_disk.specs.declared.disk.Disk as disks
use Rattle.rb_exec.specs.Hosted.{Hosted}
use Rattle.rb_journal.specs.Keeping.{SeenKept}
use Rattle.rb_journal.specs.declared.stops.JournalStop.{JournalStop}
use Rattle.rb_top.specs.KeepParts.{KeepsToBack, ListensToBack, ServesKeptTo}
use Rattle.rb_top.specs.KeepRuns.{BeginsKeeping, EndsServing, FailsToBegin, KeepsOn, SaysStop, came_back, handed_out, keeps_over, listens_there, no_journal}
use Rattle.rb_top.specs.Sessions.{Listener, Starts}
use Rattle.rb_top.specs.Words.{Keeping}
use Rattle.rb_top.specs.declared.sessions.SessionsStop.{SessionsStop}
use Rattle.rb_top.specs.declared.status.Status.{Status}

-- a disk was handed out, whatever it is
opened_so : {D : Type 0} (E : Type 0) (name : List ℕ) (disk : D) (stores : StoreSeen) → after_open {E = E} name (Ok disk) stores ≡ after_open name handed_out stores
opened_so {D} E name disk stores = ap (λ t. record stores { told = t }) (by_told stores.told)
  where
    by_told : (told : Option Storing) → option_map (told_after_open {E = E} name (Ok disk)) told ≡ option_map (told_after_open name handed_out) told
    by_told None = refl
    by_told (Some s) = refl

module _ {D : Type 0} (d : disks.Ghosts D) where
  -- and came back
  came_back_so : (E : Type 0) (name : List ℕ) (disk left : D) (stores between stores' : StoreSeen) → between ≡ after_open {E = E} name (Ok disk) stores → stores' ≡ after_back (device d.told d.faults left) between
      → stores' ≡ came_back d name left stores
  came_back_so E name disk left stores between stores' opened back = back ∙ ap (after_back (device d.told d.faults left)) (opened ∙ opened_so E name disk stores)

  pub kept_back : (k : Keeping) (kept last : SeenKept D) (answer : Result (Unit {0}) (SessionsStop JournalStop)) (result : Status) (listen after_it : Listener) (stores stores' : StoreSeen) (before said after : Device (List ℕ))
      → ServesKeptTo d.told d.faults kept last k.serving.count answer listen after_it before said → stores' ≡ after_back (device d.told d.faults last.journal.disk) stores → EndsServing k.journal last.host.table answer result said after
      → KeepsToBack d k kept result listen after_it stores stores' before after
  kept_back k kept last answer result listen after_it stores stores' before said after s back ends = record {
    disk = last.journal.disk;
    back = back;
    serves = record {
      left = s.left;
      said = said;
      answer = answer;
      sessions = s.sessions;
      stops = s.stops;
      ends = subst (λ x. EndsServing k.journal x.host.table answer result said after) (sym s.is) ends;
      disk_is = ap (λ (x : SeenKept D). x.journal.disk) (sym s.is);
      faults_are = s.faults_are;
      keeps = s.keeps;
    };
  }

  pub listened : (k : Keeping) (kept : SeenKept D) (result : Status) (listen begun after_it : Listener) (stores stores' : StoreSeen) (before after : Device (List ℕ)) → Starts k.serving.address true listen begun
      → KeepsToBack d k kept result begun after_it stores stores' before after → ListensToBack d k kept result listen after_it stores stores' before after
  listened k kept result listen begun after_it stores stores' before after starts s = record { disk = s.disk; back = s.back; listens = listens_there begun starts s.serves }

  pub kept_over : (E : Type 0) (k : Keeping) (host : Hosted) (disk : D) (kept made : SeenKept D) (result : Status) (listen after_it : Listener) (stores between stores' : StoreSeen) (before after : Device (List ℕ))
      → OpensNext k.journal (Some (device d.told d.faults disk)) stores.told → d.faults disk ≡ 0 → between ≡ after_open {E = E} k.journal (Ok disk) stores → BeginsKeeping d.told d.faults disk host kept → made ≡ kept
      → ListensToBack d k made result listen after_it between stores' before after → KeepsOn d k host result listen after_it stores stores' before after
  kept_over E k host disk kept made result listen after_it stores between stores' before after opens fresh opened begins same l = keeps_over (record {
    disk = disk;
    hands = record { opens = opens; fresh = fresh };
    kept = made;
    begins = subst (BeginsKeeping d.told d.faults disk host) (sym same) begins;
    left = l.disk;
    back = came_back_so E k.journal disk l.disk stores between stores' opened l.back;
    listens = l.listens;
  })

  pub not_begun : (E : Type 0) (k : Keeping) (host : Hosted) (disk left : D) (stop : JournalStop) (result : Status) (listen : Listener) (stores between stores' : StoreSeen) (before after : Device (List ℕ))
      → OpensNext k.journal (Some (device d.told d.faults disk)) stores.told → d.faults disk ≡ 0 → between ≡ after_open {E = E} k.journal (Ok disk) stores → FailsToBegin d.told d.faults disk stop left
      → stores' ≡ after_back (device d.told d.faults left) between → SaysStop k.journal stop result before after → KeepsOn d k host result listen listen stores stores' before after
  not_begun E k host disk left stop result listen stores between stores' before after opens fresh opened fails back says =
      no_journal disk left stop (record { opens = opens; fresh = fresh }) fails refl (came_back_so E k.journal disk left stores between stores' opened back) says

  pub kept_moved : (k : Keeping) (host made : Hosted) (result : Status) (listen after_it : Listener) (stores stores' : StoreSeen) (before between after : Device (List ℕ)) → made ≡ host → between ≡ before
      → KeepsOn d k made result listen after_it stores stores' between after → KeepsOn d k host result listen after_it stores stores' before after
  kept_moved k host made result listen after_it stores stores' before between after same out on =
      subst (λ h. KeepsOn d k h result listen after_it stores stores' before after) same (subst (λ b. KeepsOn d k made result listen after_it stores stores' b after) out on)
