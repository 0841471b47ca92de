-- What a server answers that keeps its requests, where its service, its sessions and its journal are told.
use Rattle.std.proofs.Common.{◌≡◌, ◌⊎◌, refl, ap, sym, ◌∙◌, subst, ℕ, List, Option, Some, None, Result, Ok, Err, inl, inr}
use Rattle.std.specs.Prelude.{option_map}
use Rattle.rb_base.specs.Counts.{risen}
use Rattle.rb_base.specs.Devices.{Device, device}
use Rattle.rb_base.specs.declared.links.Link as links
use Rattle.rb_disk.specs.Images.{shown}
use Rattle.rb_disk.specs.Storing.{OpensNext, StoreSeen, broken_after, next_disk, reopened}
use Rattle.rb_disk.specs.declared.disk.Disk as disks
use Rattle.rb_exec.specs.Hosted.{Hosted}
use Rattle.rb_journal.specs.Form.{HasBadRecord, IsNoJournal, StandsFor}
use Rattle.rb_journal.specs.Keeping.{SeenKept}
use Rattle.rb_journal.specs.declared.stops.JournalStop.{JournalStop}
use Rattle.rb_journal.specs.declared.stops.JournalStop.TheVariants as stops
use Rattle.rb_top.specs.Answers.{Says}
use Rattle.rb_top.specs.Completeness.{IsDone, IsUnbroken, KeepsTold, ListensWhole, ToldJournal, ToldService}
use Rattle.rb_top.specs.Ends as prints
use Rattle.rb_top.specs.KeepRuns as keeping
use Rattle.rb_top.specs.KeepRuns.{EndsServing, FailsToBegin, HandsOut, IsServingStop, KeepsAs, KeepsOn, KeepsSessions, ListensKept, SaysStop, came_back, faults_by, faults_in, kept_manner, uncounted}
use Rattle.rb_top.specs.Runs.{Served}
use Rattle.rb_top.specs.Scene.{Scene, Outside}
use Rattle.rb_top.specs.Sessions.{Listener}
use Rattle.rb_top.specs.Unusable.{NoService}
use Rattle.rb_top.specs.Words.{Keeping, Wanted}
use Rattle.rb_top.specs.declared.sessions.SessionsStop.{SessionsStop}
use Rattle.rb_top.specs.declared.sessions.SessionsStop.TheVariants.{Said, Answers}
use Rattle.rb_top.specs.declared.status.Status.{Status}
use Rattle.rb_top.specs.declared.status.Status.TheVariants.{JournalRefused}
use Rattle.rb_top.proofs.Complete.{only_starved}
use Rattle.rb_top.proofs.ServedTold.{begun_goes, ends_done, never_unstarted, sessions_done}
use Rattle.rb_top.proofs.Usable.{OneService, service_is_usable}

-- Bytes that stand for payloads are a journal, and whole.
pub record JournalsRead : Type 0 where
  pub is_journal : (bytes : List ℕ) (payloads : List (List ℕ)) → StandsFor bytes payloads → IsNoJournal bytes → ⊥
  pub is_whole : (bytes : List ℕ) (payloads : List (List ℕ)) (number : ℕ) → StandsFor bytes payloads → HasBadRecord bytes number → ⊥

-- the answer is Done, or the journal is full
abbrev IsDoneOrFull : Status → Type 0
IsDoneOrFull result = IsDone result ⊎ (result ≡ JournalRefused 3)

ends_full : (text : List ℕ) (result : Status) (before after : Device (List ℕ)) → prints.Ends (JournalRefused 3) text result before after → IsDoneOrFull result
ends_full text result before after (prints.whole r w) = inr r
ends_full text result before after (prints.cut r w) = inl (inr (inl r))
ends_full text result before after (prints.starved r w) = inl (inr (inr r))

module _ {D : Type 0} (d : disks.Ghosts D) where
  -- a disk that came back broken is counted
  never_broken : (stores stores' : StoreSeen) (name : List ℕ) (left : D) → IsUnbroken stores stores' → stores' ≡ came_back d name left stores → d.faults left ≡ 1 → ⊥
  never_broken stores stores' name left u back one =
      let rose : stores'.broken ≡ risen stores.broken = ap (λ s. s.broken) back ∙ ap (λ n. broken_after n stores.broken) one in
      u.1 (sym rose ∙ u.0)

  -- the disk that was handed out is the one that is told
  is_told : (name : List ℕ) (disk : D) (stores : StoreSeen) (t : ToldJournal name stores.told) → HandsOut d name disk stores → d.told disk ≡ Some t.reads
  is_told name disk stores t hands =
      let opens : Some (device d.told d.faults disk) ≡ option_map reopened (next_disk t.storing name) = subst (OpensNext name (Some (device d.told d.faults disk))) t.tells hands.opens in
      let both : Some (device d.told d.faults disk) ≡ Some (reopened t.disk) = opens ∙ ap (option_map reopened) t.is_next in
      let same : device d.told d.faults disk ≡ reopened t.disk = cc both in
      ap (λ x. x.told) same ∙ t.records

  never_missing : (name : List ℕ) (stores : StoreSeen) → ToldJournal name stores.told → OpensNext name None stores.told → ⊥
  never_missing name stores t opens =
      let none : None ≡ option_map reopened (next_disk t.storing name) = subst (OpensNext name None) t.tells opens in
      absurd (cc (none ∙ ap (option_map reopened) t.is_next))

  -- a journal wasn't opened
  not_opened : JournalsRead → (name : List ℕ) (disk left : D) (stop : JournalStop) (stores stores' : StoreSeen) (result : Status) (before after : Device (List ℕ)) (t : ToldJournal name stores.told) → IsUnbroken stores stores' → HandsOut d name disk stores
      → FailsToBegin d.told d.faults disk stop left → stores' ≡ came_back d name left stores → SaysStop name stop result before after → IsDoneOrFull result
  not_opened laws name disk left stops.DiskFault stores stores' result before after t u hands fails back says = absurd (never_broken stores stores' name left u back fails.faults_are)
  not_opened laws name disk left stops.Closed stores stores' result before after t u hands fails back says = absurd says
  not_opened laws name disk left stops.Full stores stores' result before after t u hands fails back says = absurd fails.is_opening
  not_opened laws name disk left stops.Memory stores stores' result before after t u hands fails back says = inl (inr (inr says.0))
  not_opened laws name disk left stops.NotAJournal stores stores' result before after t u hands fails back says =
      let tells = is_told name disk stores t hands in
      absurd (elim t.are [ inl empty ↦ cc (fails.on_empty t.reads tells empty.0) | inr stands ↦ laws.is_journal (shown t.reads) t.payloads stands (fails.cause t.reads tells) ])
  not_opened laws name disk left (stops.BadRecord number) stores stores' result before after t u hands fails back says =
      let tells = is_told name disk stores t hands in
      absurd (elim t.are [ inl empty ↦ cc (fails.on_empty t.reads tells empty.0) | inr stands ↦ laws.is_whole (shown t.reads) t.payloads number stands (fails.cause t.reads tells) ])

  -- serving ended
  serving_ended : (name : List ℕ) (kept : SeenKept D) (answer : Result (Unit {0}) (SessionsStop JournalStop)) (left : D) (stores stores' : StoreSeen) (result : Status) (said after : Device (List ℕ)) → IsUnbroken stores stores' → stores' ≡ came_back d name left stores
      → IsServingStop answer → d.faults left ≡ faults_in answer → ((status : Status) → answer ≡ Err (Said status) → IsDone status) → EndsServing name kept.host.table answer result said after → IsDoneOrFull result
  serving_ended name kept (Ok tt) left stores stores' result said after u back fine faults statuses e = inl (ends_done _ result said after e)
  serving_ended name kept (Err (Said status)) left stores stores' result said after u back fine faults statuses e = inl (subst IsDone (sym e.0) (statuses status refl))
  serving_ended name kept (Err (Answers stops.DiskFault)) left stores stores' result said after u back fine faults statuses e = absurd (never_broken stores stores' name left u back faults)
  serving_ended name kept (Err (Answers stops.Closed)) left stores stores' result said after u back fine faults statuses e = absurd fine
  serving_ended name kept (Err (Answers stops.Full)) left stores stores' result said after u back fine faults statuses e = ends_full _ result said after e
  serving_ended name kept (Err (Answers stops.NotAJournal)) left stores stores' result said after u back fine faults statuses e = absurd fine
  serving_ended name kept (Err (Answers (stops.BadRecord number))) left stores stores' result said after u back fine faults statuses e = absurd fine
  serving_ended name kept (Err (Answers stops.Memory)) left stores stores' result said after u back fine faults statuses e = inl (inr (inr e.0))

  listens_kept : (k : Keeping) (kept : SeenKept D) (result : Status) (listen last : Listener) (left : D) (stores stores' : StoreSeen) (before after : Device (List ℕ)) → ListensWhole k.serving.address k.serving.count listen.told → IsUnbroken stores stores'
      → stores' ≡ came_back d k.journal left stores → ListensKept d.told d.faults k kept result listen last left before after → IsDoneOrFull result
  listens_kept k kept result listen last left stores stores' before after w u back (keeping.not_there starts same e) = absurd (never_unstarted k.serving.address k.serving.count listen last w starts)
  listens_kept k kept result listen last left stores stores' before after w u back (keeping.listens_there begun starts s) =
      serving_ended k.journal s.left.kept s.answer left stores stores' result s.said after u back s.stops s.faults_are
      (λ status e. subst StopsDoneIn e (sessions_done (kept_manner d.told d.faults) k.serving.address listen.told (uncounted kept) s.left k.serving.count w begun last before s.said s.answer (begun_goes k.serving.address k.serving.count listen begun w starts) s.sessions))
      s.ends
    where
      StopsDoneIn : Result (Unit {0}) (SessionsStop JournalStop) → Type 0
      StopsDoneIn (Err (Said status)) = IsDone status
      StopsDoneIn answer = Unit {0}

  on_done : JournalsRead → (k : Keeping) (host : Hosted) (result : Status) (listen last : Listener) (stores stores' : StoreSeen) (before after : Device (List ℕ)) → ListensWhole k.serving.address k.serving.count listen.told → ToldJournal k.journal stores.told
      → IsUnbroken stores stores' → KeepsOn d k host result listen last stores stores' before after → IsDoneOrFull result
  on_done laws k host result listen last stores stores' before after w t u (keeping.starved_for_host r l s o) = inl (inr (inr r))
  on_done laws k host result listen last stores stores' before after w t u (keeping.no_disk opens l s e) = absurd (never_missing k.journal stores t opens)
  on_done laws k host result listen last stores stores' before after w t u (keeping.no_journal disk left stop hands fails l back says) = not_opened laws k.journal disk left stop stores stores' result before after t u hands fails back says
  on_done laws k host result listen last stores stores' before after w t u (keeping.keeps_over o) = listens_kept k o.kept result listen last o.left stores stores' before after w u o.back o.listens

  keeping_done : OneService → JournalsRead → (k : Keeping) (text : List ℕ) (served : Served) (result : Status) (listen last : Listener) (stores stores' : StoreSeen) (before after : Scene) → ToldService before.files.told k.serving.service text served
      → ListensWhole k.serving.address k.serving.count listen.told → ToldJournal k.journal stores.told → IsUnbroken stores stores' → KeepsAs d k result listen last stores stores' before after → IsDoneOrFull result
  keeping_done one laws k text served result listen last stores stores' before after s w t u (keeping.no_service_to_keep tells l same) =
      inl (inr (inr (only_starved (NoService before.files k.serving.service) result before after (service_is_usable one before.files k.serving.service text served s) tells).0))
  keeping_done one laws k text served result listen last stores stores' before after s w t u (keeping.keeps_them found service table f is on files) =
      on_done laws k _ result listen last stores stores' before.out after.out w t u on

module _ {L D : Type 0} (g : links.Ghosts L) (d : disks.Ghosts D) where
  pub keeps_told : OneService → JournalsRead → (wanted : Option Wanted) (result : Status) (before after : Outside L) → Says g d wanted result before after → KeepsTold wanted result before after
  keeps_told one laws wanted result before after said = λ k text served w s l t u.
      keeping_done d one laws k text served result before.listen after.listen before.stores after.stores before.scene after.scene s l t u (subst (λ x. Says g d x result before after) w said).0
