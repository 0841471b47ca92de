-- What the parts of the commands answer.
use Rattle.std.specs.Prelude.{◌≡◌, ℕ, List, Option, None, Some, Result, Ok, Err}
use Rattle.rb_trees.specs.declared.reading.ReadError.{ReadError}
use Rattle.rb_trees.specs.declared.refusals.Refusal.{Refusal}
use Rattle.rb_trees.specs.declared.services.Object.{Object}
use Rattle.rb_trees.specs.declared.services.Service as service
use Rattle.rb_trees.specs.declared.stores.StoreError.{StoreError}
use Rattle.rb_trees.specs.declared.typing.TypeError.{TypeError}
use Rattle.rb_trees.specs.mirror.Declarations.{Program}
use Rattle.rb_trees.specs.mirror.Services.{mirror_service}
use Rattle.rb_trees.specs.Reading.{read_refusal}
use Rattle.rb_meaning.specs.Links.{IsTyped}
use Rattle.rb_meaning.specs.Shown.{line}
use Rattle.rb_meaning_types.specs.Stores.{store_refusal}
use Rattle.rb_meaning_types.specs.Violations.{violation_of}
use Rattle.rb_base.specs.Devices.{Device}
use Rattle.rb_base.specs.Directories.{Directory, read_once}
use Rattle.rb_base.specs.declared.links.Link as links
use Rattle.rb_flow.specs.Program.{HasNoRefusal}
use Rattle.rb_session.specs.Dials.{DialSeen}
use Rattle.rb_session.specs.declared.targets.Target.{Target}
use Rattle.rb_top.specs.Answers.{Goes, RunsBy, SaysOfProgram}
use Rattle.rb_top.specs.BatchRefusals.{shown_batch_refusal}
use Rattle.rb_top.specs.DialRuns.{Dials, RunsInMemory}
use Rattle.rb_top.specs.Ends.{Ends, fault_line, too_long_line}
use Rattle.rb_top.specs.LinkRuns.{run_end_in}
use Rattle.rb_top.specs.Loads.{HoldsText, HoldsTyped}
use Rattle.rb_top.specs.Refusals.{shown_refusal, shown_violation}
use Rattle.rb_top.specs.Printing.{stopped_status}
use Rattle.rb_top.specs.Runs.{Served, served_on}
use Rattle.rb_top.specs.Scene.{Scene}
use Rattle.rb_top.specs.Sources.{text_of, program_of, Admitted, admitted_program, accepted_program}
use Rattle.rb_top.specs.ServiceRefusals.{shown_service_refusal}
use Rattle.rb_top.specs.Texts.{IsService}
use Rattle.rb_top.specs.Unusable.{TellsNoProgram, TellsNoService}
use Rattle.rb_top.specs.Words.{Asked, program_name}
use Rattle.rb_top.specs.declared.loading.TextStop.{TextStop}
use Rattle.rb_top.specs.declared.loading.TextStop.TheVariants as stops
use Rattle.rb_top.specs.declared.printing.PrintStop.{PrintStop}
use Rattle.rb_top.specs.declared.source.Accepted.{Accepted}
use Rattle.rb_top.specs.declared.source.Source.{Source}
use Rattle.rb_top.specs.declared.status.SourceError.TheVariants as sources
use Rattle.rb_top.specs.declared.status.Status.{Status}
use Rattle.rb_top.specs.declared.status.Status.TheVariants.{FileFault, SourceRefused, BatchRefused, ServiceRefused, Memory, FileTooLong}
use Rattle.rb_top.specs.declared.words.Job.{Job}

-- the status after a text was printed, or wasn't
abbrev pub status_after : {A : Type 0} → Status → Result A PrintStop → Status
status_after status (Ok a) = status
status_after status (Err stop) = stopped_status stop

-- the status that a run answered, or that of its stop
abbrev pub run_answer : Result Status PrintStop → Status
run_answer (Ok status) = status
run_answer (Err stop) = stopped_status stop

-- No memory was left, and nothing was printed.
abbrev pub Starves : Status → Device (List ℕ) → Device (List ℕ) → Type 0
Starves result before after = (result ≡ Memory) × (after ≡ before)

-- No text was read from the file of the name, for this cause, and that was said.
abbrev pub EndsUnread : TextStop → List ℕ → Status → Device (List ℕ) → Device (List ℕ) → Type 0
EndsUnread stops.FileFault name result before after = Ends (FileFault name) (fault_line name) result before after
EndsUnread stops.TooLong name result before after = Ends (FileTooLong name) (too_long_line name) result before after
EndsUnread stops.Memory name result before after = Starves result before after

-- There was a refusal, and this was to be printed and answered; or memory was wanting.
abbrev pub EndsWith : {D : Type 0} → Option D → Status → List ℕ → Status → Device (List ℕ) → Device (List ℕ) → Type 0
EndsWith None status text result before after = Starves result before after
EndsWith (Some refusal) status text result before after = Ends status text result before after

-- The text is refused, and that was said, unless memory was wanting.
abbrev pub EndsRefused : List ℕ → ReadError → Status → Device (List ℕ) → Device (List ℕ) → Type 0
EndsRefused text error = EndsWith (read_refusal error) (SourceRefused (sources.Read error)) (line (shown_refusal text error))

-- The program in the text has this violation, and that was said, unless memory was wanting.
abbrev pub EndsUntyped : List ℕ → TypeError → Status → Device (List ℕ) → Device (List ℕ) → Type 0
EndsUntyped text error = EndsWith (violation_of error) (SourceRefused (sources.Types error)) (line (shown_violation text error))

-- The text is no service for this cause, and that was said, unless memory was wanting.
abbrev pub EndsRefusedService : List ℕ → StoreError → Status → Device (List ℕ) → Device (List ℕ) → Type 0
EndsRefusedService text error = EndsWith (store_refusal error) (ServiceRefused error) (line (shown_service_refusal text error))

-- A batch of the program in the text is refused, and that was said, unless memory was wanting.
abbrev pub EndsBatchRefused : List ℕ → Refusal → Status → Device (List ℕ) → Device (List ℕ) → Type 0
EndsBatchRefused text refusal = Ends (BatchRefused refusal) (line (shown_batch_refusal text refusal))

-- The file of the name was read as a typed program; or it was said why there is none.
abbrev pub LoadsProgram : List ℕ → Result Source Status → Scene → Scene → Type 0
LoadsProgram p (Ok source) before after =
    HoldsTyped before.files.told p (text_of source) (program_of source) × (after ≡ record before { files = read_once before.files })
LoadsProgram p (Err status) before after = TellsNoProgram p status before after

-- The file of the name holds this service with its table, and was read.
pub record LoadedService (s : List ℕ) (loaded : service.Service × List Object) (before after : Scene) : Type 0 where
  pub text : List ℕ
  pub holds : HoldsText before.files.told s text
  pub is : IsService text (served_on loaded.0 loaded.1)
  pub left : after ≡ record before { files = read_once before.files }

-- The file of the name was read as a service with its table; or it was said why there is none.
abbrev pub LoadsService : List ℕ → Result (service.Service × List Object) Status → Scene → Scene → Type 0
LoadsService s (Ok loaded) before after = LoadedService s loaded before after
LoadsService s (Err status) before after = TellsNoService s status before after

-- A service that was loaded is typed, and its table fits it.
abbrev pub IsTypedService : service.Service × List Object → Type 0
IsTypedService loaded = IsTyped (mirror_service loaded.0) loaded.1

-- What is asked of the typed program of this text, which was read before, is answered so.
abbrev pub GoesOnTyped : {L : Type 0} → links.Ghosts L → Source → Asked → Status → DialSeen L → DialSeen L → Scene → Scene → Type 0
GoesOnTyped g source a result dial dial' before after =
    (first : Device Directory) → before.files ≡ read_once first → HoldsTyped first.told (program_name a) (text_of source) (program_of source)
    → SaysOfProgram g a result dial dial' (record before { files = first }) after

-- What is asked of the admitted program of this text, which was read before, is answered so, before it is divided.
abbrev pub GoesOnAdmitted : {L : Type 0} → links.Ghosts L → List ℕ → Program → Asked → Status → DialSeen L → DialSeen L → Scene → Scene → Type 0
GoesOnAdmitted g text program a result dial dial' before after =
    (first : Device Directory) → before.files ≡ read_once first → HoldsTyped first.told (program_name a) text program → HasNoRefusal program
    → SaysOfProgram g a result dial dial' (record before { files = first }) after

abbrev pub DividesWith : {L : Type 0} → links.Ghosts L → List ℕ → Admitted → Asked → Status → DialSeen L → DialSeen L → Scene → Scene → Type 0
DividesWith g text admitted = GoesOnAdmitted g text (admitted_program admitted)

-- What is asked of an accepted program is answered so.
abbrev pub GoesWith : {L : Type 0} → links.Ghosts L → Accepted → Asked → Status → DialSeen L → DialSeen L → Scene → Scene → Type 0
GoesWith g x a result dial dial' before after = Goes g x.text.now (accepted_program x) result dial dial' before after a

-- An accepted program was run as a job asks, on a service that was loaded.
abbrev pub RunsWith : {L : Type 0} → links.Ghosts L → Accepted → Job → Served → Status → DialSeen L → DialSeen L → Device (List ℕ) → Device (List ℕ) → Type 0
RunsWith g x job served = RunsBy g job.way job.service.now x.text.now (accepted_program x) job.fuel served

-- An accepted program was run over a link in memory to a service that was loaded, and what closes the run was said as a job asks.
abbrev pub RunsInMemoryWith : {L : Type 0} → links.Ghosts L → Accepted → Job → Served → Status → DialSeen L → DialSeen L → Device (List ℕ) → Device (List ℕ) → Type 0
RunsInMemoryWith g x job served = RunsInMemory g (run_end_in g job.way x.text.now) (accepted_program x) job.fuel served

-- An accepted program was run over a link to a target.
abbrev pub DialsWith : {L : Type 0} → links.Ghosts L → Accepted → ℕ → Target → Status → DialSeen L → DialSeen L → Device (List ℕ) → Device (List ℕ) → Type 0
DialsWith g x fuel target = Dials g x.text.now (accepted_program x) fuel target
