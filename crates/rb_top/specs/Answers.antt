-- What the commands answer: the status, the text on the output, and what is left of the outside.
use Rattle.std.specs.Prelude.{◌≡◌, ◌⊎◌, ℕ, List, Option, None, Some, Ok, codes}
use Rattle.rb_trees.specs.mirror.Declarations.{Program}
use Rattle.rb_meaning.specs.Shown.{line}
use Rattle.rb_meaning_split.specs.Division.{Division, divisions}
use Rattle.rb_shown.specs.Views.{shown_divisions}
use Rattle.rb_base.specs.Devices.{Device}
use Rattle.rb_base.specs.Directories.{Directory, read_once, Finds}
use Rattle.rb_base.specs.declared.links.Link as links
use Rattle.rb_disk.specs.declared.disk.Disk as disks
use Rattle.rb_session.specs.Dials.{DialSeen}
use Rattle.rb_session.specs.declared.targets.Target.TheVariants as targets
use Rattle.rb_top.specs.DialRuns.{Dials, RunsInMemory}
use Rattle.rb_top.specs.Ends.{Ends}
use Rattle.rb_top.specs.HubRuns.{PlaysAs}
use Rattle.rb_top.specs.JsonRuns.{AnswersAs}
use Rattle.rb_top.specs.KeepRuns.{KeepsAs}
use Rattle.rb_top.specs.LinkRuns.{run_end_with_count, run_end_with_table}
use Rattle.rb_top.specs.Loads.{HoldsProgram}
use Rattle.rb_top.specs.Runs.{Served, run_status, run_text}
use Rattle.rb_top.specs.Scene.{Scene, Outside, once_read}
use Rattle.rb_top.specs.Servers.{ServesAs, ServesUnheard}
use Rattle.rb_top.specs.Texts.{IsService}
use Rattle.rb_top.specs.Trials.{asked_in_trial, trial_files}
use Rattle.rb_top.specs.Unusable.{TellsNoProgram, TellsNoService}
use Rattle.rb_top.specs.Words.{Asked, Check, Split, Run, Call, Wanted, OfProgram, Serve, Keep, Child, Trial, Play, Answer, child_of, program_name}
use Rattle.rb_top.specs.declared.status.Status.{Status}
use Rattle.rb_top.specs.declared.status.Status.TheVariants.{Done, Words, Memory}
use Rattle.rb_top.specs.declared.words.Way.{Way}
use Rattle.rb_top.specs.declared.words.Way.TheVariants as ways

-- The run of a program was printed, and its status answered; or memory was wanting while it was run.
abbrev pub EndsRun : List ℕ → Program → ℕ → Served → Status → Device (List ℕ) → Device (List ℕ) → Type 0
EndsRun text p fuel served result before after = Ends (run_status fuel p served) (run_text text fuel p served) result before after ⊎ (result ≡ Memory)

-- A program was run on a service, of the file of this name, in some way: over a link in memory, and the table was printed, or how many
-- objects it has; as it stands, with no link; or over a link to a child that serves that file.
abbrev pub RunsBy : {L : Type 0} → links.Ghosts L → Way → List ℕ → List ℕ → Program → ℕ → Served → Status → DialSeen L → DialSeen L → Device (List ℕ) → Device (List ℕ) → Type 0
RunsBy g ways.Both s text p fuel served result dial dial' before after = RunsInMemory g (run_end_with_table g text) p fuel served result dial dial' before after
RunsBy g ways.Unsplit s text p fuel served result dial dial' before after = EndsRun text p fuel served result before after × (dial' ≡ dial)
RunsBy g ways.Pair s text p fuel served result dial dial' before after = Dials g text p fuel (targets.Child s) result dial dial' before after
RunsBy g ways.Trial s text p fuel served result dial dial' before after = RunsInMemory g (run_end_with_count g text) p fuel served result dial dial' before after

-- What was asked of an accepted program, once it was read, was answered so.
pub data Goes {L : Type 0} (g : links.Ghosts L) (text : List ℕ) (p : Program) (result : Status) (dial dial' : DialSeen L) (before after : Scene) : Asked → Type 0 where
  checked : (name : List ℕ) → Ends Done (line (codes "accepted")) result before.out after.out → dial' ≡ dial → after.files ≡ before.files
      → Goes g text p result dial dial' before after (Check name)
  viewed : (name : List ℕ) (ds : List Division) → divisions p ≡ Ok ds → Ends Done (shown_divisions text ds) result before.out after.out → dial' ≡ dial
      → after.files ≡ before.files → Goes g text p result dial dial' before after (Split name)
  called : (address name : List ℕ) (fuel : ℕ) → Dials g text p fuel (targets.Address address) result dial dial' before.out after.out
      → after.files ≡ before.files → Goes g text p result dial dial' before after (Call address name fuel)
  no_service : (way : Way) (name s : List ℕ) (fuel : ℕ) → TellsNoService s result before after → dial' ≡ dial
      → Goes g text p result dial dial' before after (Run way name s fuel)
  ran : (way : Way) (name s other : List ℕ) (fuel : ℕ) (served : Served) → Finds before.files.told s other → IsService other served
      → RunsBy g way s text p fuel served result dial dial' before.out after.out → after.files ≡ read_once before.files
      → Goes g text p result dial dial' before after (Run way name s fuel)

-- What was asked of a program was answered so: it was said why there is no accepted one, or it went on.
pub data SaysOfProgram {L : Type 0} (g : links.Ghosts L) (a : Asked) (result : Status) (dial dial' : DialSeen L) (before after : Scene) : Type 0 where
  no_program : TellsNoProgram (program_name a) result before after → dial' ≡ dial → SaysOfProgram g a result dial dial' before after
  goes : (text : List ℕ) (p : Program) → HoldsProgram before.files.told (program_name a) text p → Goes g text p result dial dial' (once_read before) after a
      → SaysOfProgram g a result dial dial' before after

-- A trial of so many files was answered as a run of its program on its service is, over files that hold the two. Where memory ran out
-- before there were such files, nothing was done.
pub data Tries {L : Type 0} (g : links.Ghosts L) (n : ℕ) (result : Status) (dial dial' : DialSeen L) (before after : Device (List ℕ)) : Type 0 where
  tried : (left : Device Directory) → SaysOfProgram g asked_in_trial result dial dial' (record { files = trial_files n; out = before }) (record { files = left; out = after })
      → Tries g n result dial dial' before after
  starved_for_texts : result ≡ Memory → dial' ≡ dial → after ≡ before → Tries g n result dial dial' before after

-- What is asked for was answered so. All else of the outside is left as it was.
abbrev pub Does : {L D : Type 0} → links.Ghosts L → disks.Ghosts D → Wanted → Status → Outside L → Outside L → Type 0
Does g d (OfProgram a) result before after =
    SaysOfProgram g a result before.dial after.dial before.scene after.scene × (after ≡ record before { scene = after.scene; dial = after.dial })
Does g d (Serve v) result before after =
    ServesAs v result before.listen after.listen before.scene after.scene × (after ≡ record before { scene = after.scene; listen = after.listen })
Does g d (Keep k) result before after =
    KeepsAs d k result before.listen after.listen before.stores after.stores before.scene after.scene
    × (after ≡ record before { scene = after.scene; listen = after.listen; stores = after.stores })
Does g d (Child s) result before after =
    ServesUnheard (child_of s) result before.listen after.listen before.scene after.scene × (after ≡ record before { scene = after.scene; listen = after.listen })
Does g d (Trial n) result before after =
    Tries g n result before.dial after.dial before.scene.out after.scene.out
    × (after ≡ record before { scene = record before.scene { out = after.scene.out }; dial = after.dial })
Does g d (Play p) result before after = PlaysAs p result before.scene after.scene × (after ≡ record before { scene = after.scene })
Does g d (Answer a) result before after = AnswersAs a result before.scene after.scene × (after ≡ record before { scene = after.scene })

-- What the words ask for was answered so; words that aren't understood are said to be such, and nothing else is done.
abbrev pub Says : {L D : Type 0} → links.Ghosts L → disks.Ghosts D → Option Wanted → Status → Outside L → Outside L → Type 0
Says g d None result before after =
    Ends Words (line (codes "words not understood")) result before.scene.out after.scene.out
    × (after ≡ record before { scene = record before.scene { out = after.scene.out } })
Says g d (Some wanted) result before after = Does g d wanted result before after
