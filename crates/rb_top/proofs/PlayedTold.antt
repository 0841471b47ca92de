-- What a hub answers where its events and its service are told.
use Rattle.std.proofs.Common.{◌≡◌, List, Option, ℕ, subst, inl, inr}
use Rattle.rb_meaning_frames.specs.Histories.{Event}
use Rattle.rb_base.specs.Devices.{Device}
use Rattle.rb_base.specs.Directories.{Directory, read_once}
use Rattle.rb_base.specs.declared.links.Link as links
use Rattle.rb_disk.specs.declared.disk.Disk as disks
use Rattle.rb_hub_lines.specs.Lines.{BreaksAtLine, HaveOneReading}
use Rattle.rb_top.specs.Answers.{Says}
use Rattle.rb_top.specs.Completeness.{IsDone, PlaysTold, ToldEvents}
use Rattle.rb_top.specs.HubRuns as runs
use Rattle.rb_top.specs.HubRuns.{PlaysAs, PlaysHub, PlaysText}
use Rattle.rb_top.specs.Runs.{Served}
use Rattle.rb_top.specs.Scene.{Scene, Outside, once_read}
use Rattle.rb_top.specs.Unusable.{NoService, NoText}
use Rattle.rb_top.specs.Words.{Playing, Wanted}
use Rattle.rb_top.specs.declared.printing.PrintStop.{PrintStop}
use Rattle.rb_top.specs.declared.printing.PrintStop.TheVariants as print
use Rattle.rb_top.specs.declared.status.Status.{Status}
use Rattle.rb_top.specs.Printing.{stopped_status}
use Rattle.rb_top.proofs.Complete.{only_starved}
use Rattle.rb_top.proofs.ServedTold.{ends_done}
use Rattle.rb_top.proofs.Usable.{OneService, found_once, service_is_usable, text_is_usable}

-- an output that stopped, or want of memory
stop_done : (stop : PrintStop) (result : Status) → result ≡ stopped_status stop → IsDone result
stop_done print.WriteFault result r = inr (inl r)
stop_done print.Memory result r = inr (inr r)

hub_done : (served : Served) (events : List Event) (result : Status) (before after : Device (List ℕ)) → PlaysHub served events result before after → IsDone result
hub_done served events result before after (runs.to_end left said played e) = ends_done _ result said after e
hub_done served events result before after (runs.cut_off stop some r) = stop_done stop result r

text_done : HaveOneReading → (p : Playing) (text found other : List ℕ) (events : List Event) (served server : Served) (result : Status) (told : Option Directory) (before after : Device (List ℕ)) → ToldEvents told p text other events served → found ≡ text → PlaysText found server result before after → IsDone result
text_done lines p text found other events served server result told before after t e (runs.breaks number b said) = absurd (lines text events number t.holds (subst (λ x. BreaksAtLine x number) e b))
text_done lines p text found other events served server result told before after t e (runs.plays these holds played) = hub_done server these result before after played
text_done lines p text found other events served server result told before after t e (runs.starved_reading r o) = inr (inr r)

playing_done : OneService → HaveOneReading → (p : Playing) (text other : List ℕ) (events : List Event) (served : Served) (result : Status) (before after : Scene) → ToldEvents before.files.told p text other events served → PlaysAs p result before after → IsDone result
playing_done one lines p text other events served result before after t (runs.no_events tells) =
    inr (inr (only_starved (NoText before.files p.events) result before after (text_is_usable before.files p.events text t.finds t.short) tells).0)
playing_done one lines p text other events served result before after t (runs.no_service found holds tells) =
    inr (inr (only_starved (NoService (read_once before.files) p.service) result (once_read before) after (service_is_usable one (read_once before.files) p.service other served t.service) tells).0)
playing_done one lines p text other events served result before after t (runs.played found also server holds finds is went files) =
    text_done lines p text found other events served server result before.files.told before.out after.out t (found_once before.files.told p.events text found t.finds holds.0) went

module _ {L D : Type 0} (g : links.Ghosts L) (d : disks.Ghosts D) where
  pub plays_told : OneService → HaveOneReading → (wanted : Option Wanted) (result : Status) (before after : Outside L) → Says g d wanted result before after → PlaysTold wanted result before.scene
  plays_told one lines wanted result before after said = λ p text other events served w t.
      playing_done one lines p text other events served result before.scene after.scene t (subst (λ x. Says g d x result before after) w said).0
