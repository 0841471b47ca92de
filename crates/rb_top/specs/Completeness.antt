-- What is answered where the outside tells all that a command needs, and no call of it fails but for a write.
use Rattle.std.specs.Prelude.{◌≡◌, ◌≢◌, ◌<◌, ◌⊎◌, ℕ, zero, suc, min, List, length, map, false, Option, None, Some, Ok, codes}
use Rattle.rb_trees.specs.declared.services.Object.{Object}
use Rattle.rb_trees.specs.declared.values.Value.{Value}
use Rattle.rb_trees.specs.mirror.Declarations.{Program}
use Rattle.rb_meaning.specs.Links.{Behind, server_told}
use Rattle.rb_meaning.specs.Shown.{exchanges, line}
use Rattle.rb_meaning.specs.Meaning.{Around, Meaning, meaning_on}
use Rattle.rb_meaning.specs.Others.{becomes}
use Rattle.rb_meaning_code.specs.Dialogue.{Outcome, Dialogue, AskBatch}
use Rattle.rb_meaning_code.specs.State.{Local}
use Rattle.rb_meaning_split.specs.Division.{Division, divisions}
use Rattle.rb_law_client.specs.Reached.{ProgramComesTo}
use Rattle.rb_shown.specs.Views.{shown_divisions}
use Rattle.rb_base.specs.Counts.{risen}
use Rattle.rb_base.specs.Devices.{Device}
use Rattle.rb_base.specs.Directories.{Directory, next_read, told_after}
use Rattle.rb_base.specs.Listening.{Listening, call_fails, called}
use Rattle.rb_base.specs.declared.links.Link as links
use Rattle.rb_base.specs.declared.listens.Coming.{Coming}
use Rattle.rb_client.specs.Servers.{fails_after}
use Rattle.rb_disk.specs.Images.{DiskRecord, shown}
use Rattle.rb_disk.specs.Storing.{StoreSeen, Storing, next_disk}
use Rattle.rb_hub_lines.specs.Lines.{HoldsEvents}
use Rattle.rb_json.specs.Requests.{request_in}
use Rattle.rb_meaning_bytes.specs.formats.Messages.{Sent}
use Rattle.rb_meaning_frames.specs.Histories.{Event}
use Rattle.rb_session.specs.Dials.{Dialling, next_link}
use Rattle.rb_session.specs.declared.targets.Target.{Target}
use Rattle.rb_session.specs.declared.targets.Target.TheVariants as targets
use Rattle.rb_top.specs.Answers.{EndsRun}
use Rattle.rb_top.specs.Ends.{Ends}
use Rattle.rb_top.specs.JsonRuns.{shown_json}
use Rattle.rb_top.specs.KeepRuns.{IsJournalOf}
use Rattle.rb_top.specs.LinkRuns.{served_by}
use Rattle.rb_top.specs.Runs.{Served, counted_text, ended_status, run_status, shown_lines}
use Rattle.rb_top.specs.Scene as scenes
use Rattle.rb_top.specs.Texts.{IsProgram, IsService, WithinLength}
use Rattle.rb_top.specs.Trials.{trial_program, trial_service}
use Rattle.rb_top.specs.Words.{Check, Split, Run, Call, Asking, Keeping, Playing, Serving, Wanted, OfProgram, Serve, Keep, Child, Trial, Play, Answer, child_of, default_fuel}
use Rattle.rb_top.specs.declared.status.Status.{Status}
use Rattle.rb_top.specs.declared.status.Status.TheVariants.{Done, JournalRefused, WriteFault, Memory}
use Rattle.rb_top.specs.declared.words.Way.{Way}
use Rattle.rb_top.specs.declared.words.Way.TheVariants as ways

-- The files tell that the next read of this name finds this text.
abbrev pub IsTold : Option Directory → List ℕ → List ℕ → Type 0
IsTold None name text = ⊥
IsTold (Some directory) name text = next_read directory name ≡ Some text

-- The files tell an accepted program under this name.
pub record ToldAccepted (told : Option Directory) (p text : List ℕ) (program : Program) : Type 0 where
  pub finds : IsTold told p text
  pub is : IsProgram text program

-- The files tell a service with its table under this name.
pub record ToldService (told : Option Directory) (s text : List ℕ) (served : Served) : Type 0 where
  pub finds : IsTold told s text
  pub is : IsService text served

-- The files tell an accepted program and a service with its table, under these names, read one after the other.
pub record ToldRun (told : Option Directory) (p s text other : List ℕ) (program : Program) (served : Served) : Type 0 where
  pub accepted : ToldAccepted told p text program
  pub service : ToldService (told_after told) s other served

-- Where `check P` is asked, and the files tell an accepted program under this name, `accepted` is printed and the answer is Done,
-- unless the output fails or memory is wanting.
abbrev pub ChecksTold : Option Wanted → Status → scenes.Scene → scenes.Scene → Type 0
ChecksTold wanted result before after = (p text : List ℕ) (program : Program) → wanted ≡ Some (OfProgram (Check p)) → ToldAccepted before.files.told p text program
    → Ends Done (line (codes "accepted")) result before.out after.out

-- Where `split P` is asked, and the files tell an accepted program under this name, the view of its division is printed and the
-- answer is Done, unless the output fails or memory is wanting.
abbrev pub SplitsTold : Option Wanted → Status → scenes.Scene → scenes.Scene → Type 0
SplitsTold wanted result before after = (p text : List ℕ) (program : Program) (ds : List Division) → wanted ≡ Some (OfProgram (Split p))
    → ToldAccepted before.files.told p text program → divisions program ≡ Ok ds
    → Ends Done (shown_divisions text ds) result before.out after.out

-- The way is one in which a program is run on a service in the same process, and the table is printed.
abbrev pub IsNear : Way → Type 0
IsNear ways.Both = Unit {0}
IsNear ways.Unsplit = Unit {0}
IsNear ways.Pair = ⊥
IsNear ways.Trial = ⊥

-- Where `both P S FUEL` or `unsplit P S FUEL` is asked, and the files tell a program and a service under these names, its run is
-- printed and the answer is how it ends, unless the output fails or memory is wanting.
abbrev pub RunsTold : Option Wanted → Status → scenes.Scene → scenes.Scene → Type 0
RunsTold wanted result before after = (way : Way) (p s text other : List ℕ) (fuel : ℕ) (program : Program) (served : Served)
    → wanted ≡ Some (OfProgram (Run way p s fuel)) → IsNear way → ToldRun before.files.told p s text other program served
    → EndsRun text program fuel served result before.out after.out

-- what a run in memory is to print where the objects are counted, and to answer, unless the output fails or memory runs out
abbrev pub EndsCounted : List ℕ → Program → ℕ → Served → Status → Device (List ℕ) → Device (List ℕ) → Type 0
EndsCounted text p fuel served result before after = Ends (run_status fuel p served) (counted_text text fuel p served) result before after ⊎ (result ≡ Memory)

-- Where `trial N` is asked, and its two texts are an accepted program and a service, what the program means there is printed, with how
-- many objects there are in place of the table. The answer is how it ends, unless the output fails or memory runs out.
abbrev pub TrialsTold : Option Wanted → Status → scenes.Scene → scenes.Scene → Type 0
TrialsTold wanted result before after = (n : ℕ) (program : Program) (served : Served) → wanted ≡ Some (Trial n) → IsProgram trial_program program
    → IsService (trial_service n) served → EndsCounted trial_program program default_fuel served result before.out after.out

-- A program on the service behind a link, whose batches find some tables there, comes to its batch after so many.
pub record ComesToBatch (p : Program) (fuel : ℕ) (served : Served) (k : ℕ) : Type 0 where
  pub finds : List (List Object)
  pub at : ℕ
  pub local : Local
  pub go : Outcome (Unit {0}) → Dialogue (Outcome (Option Value))
  pub around : Around
  pub comes : ProgramComesTo p served.0 served.1 (map becomes finds) fuel (AskBatch at local go) around
  pub count : k ≡ exchanges around.outside.events

-- The Dial tells that the next link of a target is honest, with this server behind it, and that none of the exchanges of the
-- program's run fails, whichever tables its batches find.
pub record DialsHonest {L : Type 0} (g : links.Ghosts L) (target : Target) (p : Program) (fuel : ℕ) (b : Behind) (told : Option (Dialling L)) : Type 0 where
  pub dialling : Dialling L
  pub link : L
  pub tells : told ≡ Some dialling
  pub next : next_link dialling target ≡ Some link
  pub server : server_told (g.told link) ≡ Some b
  pub honest : g.honest link
  pub none_fails : (k : ℕ) → ComesToBatch p fuel (served_by b) k → fails_after k b ≡ false

-- What a meaning shows was printed, but for the table, and how it ends was answered, unless the output failed.
abbrev pub EndsMeant : List ℕ → Meaning → Status → Device (List ℕ) → Device (List ℕ) → Type 0
EndsMeant text m result before after = Ends (ended_status m.ending) (shown_lines text m) result before after

-- What a run over a dialled link is to print, and to answer, unless the output fails or memory is wanting: what the program means on the
-- server behind the link, on the tables that its batches find there. Which tables these are the link tells that comes back.
abbrev pub EndsFar : List ℕ → Program → ℕ → Behind → Status → Device (List ℕ) → Device (List ℕ) → Type 0
EndsFar text p fuel b result before after =
    ((finds : List (List Object)) × EndsMeant text (meaning_on p b.service b.table finds fuel) result before after) ⊎ (result ≡ Memory)

-- Where `run ADDRESS P FUEL` is asked, the files tell an accepted program under this name, and the Dial an honest link to the
-- address, what the program means on the server behind that link is printed, but for the table, and the answer is how it ends.
abbrev pub CallsTold : {L : Type 0} → links.Ghosts L → Option Wanted → Status → scenes.Outside L → scenes.Outside L → Type 0
CallsTold g wanted result before after = (address p text : List ℕ) (fuel : ℕ) (program : Program) (b : Behind) → wanted ≡ Some (OfProgram (Call address p fuel))
    → ToldAccepted before.scene.files.told p text program → DialsHonest g (targets.Address address) program fuel b before.dial.told
    → EndsFar text program fuel b result before.scene.out after.scene.out

-- The same of `pair P S FUEL`, where the files tell a service too, and the Dial an honest link to the child that serves it.
abbrev pub PairsTold : {L : Type 0} → links.Ghosts L → Option Wanted → Status → scenes.Outside L → scenes.Outside L → Type 0
PairsTold g wanted result before after = (p s text other : List ℕ) (fuel : ℕ) (program : Program) (served : Served) (b : Behind)
    → wanted ≡ Some (OfProgram (Run ways.Pair p s fuel)) → ToldRun before.scene.files.told p s text other program served
    → DialsHonest g (targets.Child s) program fuel b before.dial.told → EndsFar text program fuel b result before.scene.out after.scene.out

-- how many calls a server makes of its listener that serves so many sessions at most, where so many come: the start, and one for each
-- session; where fewer come, one more, which gives none
abbrev pub calls_of : ℕ → ℕ → ℕ
calls_of count come = suc (min count (suc come))

-- the listener so many calls later, with whatever sessions
abbrev pub after_calls : ℕ → Listening → Listening
after_calls zero l = l
after_calls (suc k) l = called (after_calls k l)

-- The listener tells that so many sessions of an address may be served, or all where fewer come: the address is there, and none of
-- the calls that a server makes for them is one that fails.
pub record ListensWhole (address : List ℕ) (count : ℕ) (told : Option Listening) : Type 0 where
  pub listening : Listening
  pub sessions : List Coming
  pub tells : told ≡ Some listening
  pub is_there : listening.addresses address ≡ Some sessions
  pub none_fails : (k : ℕ) → k < calls_of count (length sessions) → call_fails (after_calls k listening) ≡ false

-- The answer is Done, unless the output fails or memory is wanting.
abbrev pub IsDone : Status → Type 0
IsDone result = (result ≡ Done) ⊎ (result ≡ WriteFault) ⊎ (result ≡ Memory)

-- Where a server is asked for, the files tell its service, and the listener tells its sessions, the answer is Done, unless the output
-- fails or memory is wanting.
abbrev pub ServesTold : {L : Type 0} → Option Wanted → Status → scenes.Outside L → Type 0
ServesTold wanted result before = (v : Serving) (text : List ℕ) (served : Served) → (wanted ≡ Some (Serve v)) ⊎ ((wanted ≡ Some (Child v.service)) × (v ≡ child_of v.service))
    → ToldService before.scene.files.told v.service text served → ListensWhole v.address v.count before.listen.told → IsDone result

-- The stores tell a disk under the name, whose bytes stand for a journal's payloads, or are none.
pub record ToldJournal (name : List ℕ) (told : Option Storing) : Type 0 where
  pub storing : Storing
  pub tells : told ≡ Some storing
  pub disk : Device DiskRecord
  pub is_next : next_disk storing name ≡ Some disk
  pub reads : DiskRecord
  pub records : disk.told ≡ Some reads
  pub payloads : List (List ℕ)
  pub are : IsJournalOf (shown reads) payloads

-- No disk came back broken: the count of those stands where it stood, and not at its end.
abbrev pub IsUnbroken : StoreSeen → StoreSeen → Type 0
IsUnbroken before after = (after.broken ≡ before.broken) × (risen before.broken ≢ before.broken)

-- Where `keep ADDRESS S COUNT J` is asked, the files tell its service, the listener its sessions and the stores its journal, and no disk
-- came back broken: the answer is Done, unless the journal is full, the output fails or memory is wanting.
abbrev pub KeepsTold : {L : Type 0} → Option Wanted → Status → scenes.Outside L → scenes.Outside L → Type 0
KeepsTold wanted result before after = (k : Keeping) (text : List ℕ) (served : Served) → wanted ≡ Some (Keep k)
    → ToldService before.scene.files.told k.serving.service text served → ListensWhole k.serving.address k.serving.count before.listen.told
    → ToldJournal k.journal before.stores.told → IsUnbroken before.stores after.stores → IsDone result ⊎ (result ≡ JournalRefused 3)

-- The files tell the lines of events, and then a service with its table, under these names, read one after the other.
pub record ToldEvents (told : Option Directory) (p : Playing) (text other : List ℕ) (events : List Event) (served : Served) : Type 0 where
  pub finds : IsTold told p.events text
  pub short : WithinLength text
  pub holds : HoldsEvents text events
  pub service : ToldService (told_after told) p.service other served

-- Where `hub E S` is asked, and the files tell the lines of events and a service under these names, the answer is Done, unless the
-- output fails or memory is wanting.
abbrev pub PlaysTold : Option Wanted → Status → scenes.Scene → Type 0
PlaysTold wanted result before = (p : Playing) (text other : List ℕ) (events : List Event) (served : Served) → wanted ≡ Some (Play p)
    → ToldEvents before.files.told p text other events served → IsDone result

-- The files tell a service with its table, and then a request in JSON, under these names, read one after the other.
pub record ToldRequest (told : Option Directory) (a : Asking) (other text : List ℕ) (served : Served) (sent : Sent) : Type 0 where
  pub service : ToldService told a.service other served
  pub finds : IsTold (told_after told) a.request text
  pub short : WithinLength text
  pub reads : request_in text ≡ Ok sent

-- Where `json S R` is asked, and the files tell a service and a request under these names, the reply and the table are printed and the
-- answer is Done, unless the output fails or memory is wanting.
abbrev pub AnswersTold : Option Wanted → Status → scenes.Scene → scenes.Scene → Type 0
AnswersTold wanted result before after = (a : Asking) (other text : List ℕ) (served : Served) (sent : Sent) → wanted ≡ Some (Answer a)
    → ToldRequest before.files.told a other text served sent → Ends Done (shown_json served sent) result before.out after.out

-- Where the outside tells all that a command needs, and no call of it fails but for a write, the command is carried out to its end.
pub record Completes {L : Type 0} (g : links.Ghosts L) (wanted : Option Wanted) (result : Status) (before after : scenes.Outside L) : Type 0 where
  -- An accepted program is checked, and its division is shown.
  pub checks : ChecksTold wanted result before.scene after.scene
  pub splits : SplitsTold wanted result before.scene after.scene
  -- A program is run on a service, and that of a trial on its own.
  pub runs : RunsTold wanted result before.scene after.scene
  pub trials : TrialsTold wanted result before.scene after.scene
  -- Over an honest link to an address, or to a child, a program is run as it means on the server behind it.
  pub calls : CallsTold g wanted result before after
  pub pairs : PairsTold g wanted result before after
  -- A server serves to its end.
  pub serves : ServesTold wanted result before
  -- So does one that keeps its requests.
  pub keeps : KeepsTold wanted result before after
  -- Events are played to the last.
  pub plays : PlaysTold wanted result before.scene
  -- A request in JSON is answered.
  pub answers : AnswersTold wanted result before.scene after.scene
