-- Why there is no accepted program in a file, or no service: what is told then, and how the files are left. Where several causes
-- hold, the first counts, in the order of these cases.
use Rattle.std.specs.Prelude.{ℕ, List, Err}
use Rattle.rb_trees.specs.declared.reading.ReadError.{ReadError}
use Rattle.rb_trees.specs.declared.refusals.Refusal.{Refusal}
use Rattle.rb_trees.specs.declared.stores.StoreError.{StoreError}
use Rattle.rb_trees.specs.declared.typing.TypeError.{TypeError}
use Rattle.rb_trees.specs.mirror.Declarations.{Program}
use Rattle.rb_meaning.specs.Shown.{line}
use Rattle.rb_meaning_bytes.specs.grammar.Sources.{ReadSource}
use Rattle.rb_base.specs.Devices.{Device, failed}
use Rattle.rb_base.specs.Directories.{Directory, read_once, Finds, FailsNext}
use Rattle.rb_top.specs.BatchRefusals.{shown_batch_refusal}
use Rattle.rb_top.specs.Ends.{Tells, fault_line, too_long_line}
use Rattle.rb_top.specs.Loads.{HoldsText, FindsTooLong}
use Rattle.rb_top.specs.Refusals.{shown_refusal, shown_violation}
use Rattle.rb_top.specs.Scene.{Scene}
use Rattle.rb_top.specs.ServiceRefusals.{shown_service_refusal}
use Rattle.rb_top.specs.Texts.{IsUntyped, IsRefused, IsUndivided, IsNoService}
use Rattle.rb_top.specs.declared.status.SourceError.TheVariants as sources
use Rattle.rb_top.specs.declared.status.Status.{Status}
use Rattle.rb_top.specs.declared.status.Status.TheVariants.{FileFault, SourceRefused, BatchRefused, ServiceRefused, FileTooLong}

-- The file of the name holds no accepted program. The files' count of faults rises exactly where the file can't be read.
pub data NoProgram (files : Device Directory) (p : List ℕ) : Status → List ℕ → Device Directory → Type 0 where
  program_fault : FailsNext files.told p → NoProgram files p (FileFault p) (fault_line p) (failed (read_once files))
  program_too_long : FindsTooLong files.told p → NoProgram files p (FileTooLong p) (too_long_line p) (read_once files)
  not_read : (text : List ℕ) (error : ReadError) → HoldsText files.told p text → ReadSource text (Err error)
      → NoProgram files p (SourceRefused (sources.Read error)) (line (shown_refusal text error)) (read_once files)
  untyped : (text : List ℕ) (program : Program) (error : TypeError) → Finds files.told p text → IsUntyped text program error
      → NoProgram files p (SourceRefused (sources.Types error)) (line (shown_violation text error)) (read_once files)
  not_admitted : (text : List ℕ) (program : Program) (refusal : Refusal) → Finds files.told p text → IsRefused text program refusal
      → NoProgram files p (BatchRefused refusal) (line (shown_batch_refusal text refusal)) (read_once files)
  not_divided : (text : List ℕ) (program : Program) (refusal : Refusal) → Finds files.told p text → IsUndivided text program refusal
      → NoProgram files p (BatchRefused refusal) (line (shown_batch_refusal text refusal)) (read_once files)

-- The file of the name holds no service.
pub data NoService (files : Device Directory) (s : List ℕ) : Status → List ℕ → Device Directory → Type 0 where
  service_fault : FailsNext files.told s → NoService files s (FileFault s) (fault_line s) (failed (read_once files))
  service_too_long : FindsTooLong files.told s → NoService files s (FileTooLong s) (too_long_line s) (read_once files)
  service_refused : (text : List ℕ) (error : StoreError) → HoldsText files.told s text → IsNoService text error
      → NoService files s (ServiceRefused error) (line (shown_service_refusal text error)) (read_once files)

-- The file of the name holds no text within the limit.
pub data NoText (files : Device Directory) (name : List ℕ) : Status → List ℕ → Device Directory → Type 0 where
  text_fault : FailsNext files.told name → NoText files name (FileFault name) (fault_line name) (failed (read_once files))
  text_too_long : FindsTooLong files.told name → NoText files name (FileTooLong name) (too_long_line name) (read_once files)

-- It was said why there is no accepted program, or no service, unless memory was wanting.
abbrev pub TellsNoProgram : List ℕ → Status → Scene → Scene → Type 0
TellsNoProgram p result before after = Tells (NoProgram before.files p) result before after

abbrev pub TellsNoService : List ℕ → Status → Scene → Scene → Type 0
TellsNoService s result before after = Tells (NoService before.files s) result before after
