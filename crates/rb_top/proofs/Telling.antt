-- What is told where a text can't be used, from what reading it answers.
use Rattle.std.proofs.Common.{◌≡◌, ℕ, List, Option, None, Some, Ok, Err, ap, sym, ◌∙◌, refl, subst}
use Rattle.std.specs.Prelude.{IsTrue}
use Rattle.rb_trees.specs.declared.reading.ReadError.{ReadError}
use Rattle.rb_trees.specs.declared.reading.ReadError.TheVariants as errors
use Rattle.rb_trees.specs.declared.stores.StoreError.{StoreError}
use Rattle.rb_trees.specs.declared.typing.TypeError.{TypeError}
use Rattle.rb_trees.specs.mirror.Declarations.{Program}
use Rattle.rb_trees.specs.Outcome.{Refused, Refuses}
use Rattle.rb_trees.specs.Reading.{read_refusal}
use Rattle.rb_meaning.specs.Shown.{line}
use Rattle.rb_meaning.specs.ServiceSources.{ReadsAsService}
use Rattle.rb_meaning_bytes.specs.grammar.Sources.{ReadSource}
use Rattle.rb_meaning_types.specs.Programs.{check_program, is_typed}
use Rattle.rb_meaning_types.specs.Stores.{store_refusal}
use Rattle.rb_meaning_types.specs.Violations.{violation_of}
use Rattle.rb_base.specs.Devices.{Device, failed}
use Rattle.rb_base.specs.Directories.{Directory, read_once, Finds}
use Rattle.rb_top.specs.Commands.{Starves, EndsUnread, EndsWith, EndsRefused, EndsRefusedService, EndsUntyped, LoadsProgram}
use Rattle.rb_top.specs.Ends.{Ends, Said, Tells, said, starved_first, read_times, fault_line, too_long_line}
use Rattle.rb_top.specs.Loads.{Unread, HoldsText}
use Rattle.rb_top.specs.Refusals.{shown_refusal, shown_violation}
use Rattle.rb_top.specs.Scene.{Scene}
use Rattle.rb_top.specs.ServiceRefusals.{shown_service_refusal}
use Rattle.rb_top.specs.Sources.{text_of, program_of}
use Rattle.rb_top.specs.Unusable.{NoProgram, NoService, TellsNoProgram, TellsNoService}
use Rattle.rb_top.specs.Unusable as unusable
use Rattle.rb_top.specs.declared.loading.TextStop.{TextStop}
use Rattle.rb_top.specs.declared.loading.TextStop.TheVariants as stops
use Rattle.rb_top.specs.declared.source.Source.{Source}
use Rattle.rb_top.specs.declared.status.SourceError.TheVariants as sources
use Rattle.rb_top.specs.declared.status.Status.{Status}
use Rattle.rb_top.specs.declared.status.Status.TheVariants.{FileFault, SourceRefused, ServiceRefused, FileTooLong}

-- what is told over a scene whose files were left so
pub tells : (Is : Said) (status result : Status) (text : List ℕ) (left : Device Directory) (before after : Scene) → Is status text left → after.files ≡ left → Ends status text result before.out after.out → Tells Is result before after
tells Is status result text left before after a f e = said status text (subst (Is status text) (sym f) a) e

-- memory was wanting after so many reads
pub starves : (Is : Said) (result : Status) (before after : Scene) (count : ℕ) → Starves result before.out after.out → after.files ≡ read_times count before.files → Tells Is result before after
starves Is result before after count s f = starved_first count s.0 (same s.1 f)
  where
    same : after.out ≡ before.out → after.files ≡ read_times count before.files → after ≡ record before { files = read_times count before.files }
    same o f = ap (λ d. record { files = after.files; out = d }) o ∙ ap (λ d. record { files = d; out = before.out }) f

-- what was to be said of a refusal, where there is one, after one read
tells_with : {D : Type 0} (Is : Said) (refusal : Option D) (status result : Status) (text : List ℕ) (before after : Scene) → ((d : D) → refusal ≡ Some d → Is status text (read_once before.files)) → EndsWith refusal status text result before.out after.out → after.files ≡ read_once before.files → Tells Is result before after
tells_with Is None status result text before after a e f = starves Is result before after 1 e f
tells_with Is (Some d) status result text before after a e f = tells Is status result text (read_once before.files) before after (a d refl) f e

pub program_unread : (p : List ℕ) (stop : TextStop) (result : Status) (before after : Scene) → Unread stop p before.files after.files → EndsUnread stop p result before.out after.out → TellsNoProgram p result before after
program_unread p stops.FileFault result before after u e = tells (NoProgram before.files p) (FileFault p) result (fault_line p) (failed (read_once before.files)) before after (unusable.program_fault u.0) u.1 e
program_unread p stops.TooLong result before after u e = tells (NoProgram before.files p) (FileTooLong p) result (too_long_line p) (read_once before.files) before after (unusable.program_too_long u.0) u.1 e
program_unread p stops.Memory result before after u e = starves (NoProgram before.files p) result before after 1 e u

pub service_unread : (s : List ℕ) (stop : TextStop) (result : Status) (before after : Scene) → Unread stop s before.files after.files → EndsUnread stop s result before.out after.out → TellsNoService s result before after
service_unread s stops.FileFault result before after u e = tells (NoService before.files s) (FileFault s) result (fault_line s) (failed (read_once before.files)) before after (unusable.service_fault u.0) u.1 e
service_unread s stops.TooLong result before after u e = tells (NoService before.files s) (FileTooLong s) result (too_long_line s) (read_once before.files) before after (unusable.service_too_long u.0) u.1 e
service_unread s stops.Memory result before after u e = starves (NoService before.files s) result before after 1 e u

-- the refusal that is told is the error itself
same_refusal : (error d : ReadError) → read_refusal error ≡ Some d → error ≡ d
same_refusal errors.Memory d e = absurd (cc)
same_refusal (errors.Lex fault) d e = cc
same_refusal (errors.Unexpected at) d e = cc
same_refusal (errors.TooNested at) d e = cc

pub program_not_read : (p text : List ℕ) (error : ReadError) (result : Status) (before after : Scene) → HoldsText before.files.told p text → Refused (ReadSource text) (read_refusal error) → EndsRefused text error result before.out after.out → after.files ≡ read_once before.files → TellsNoProgram p result before after
program_not_read p text error result before after h r e f =
    tells_with (NoProgram before.files p) (read_refusal error) (SourceRefused (sources.Read error)) result (line (shown_refusal text error)) before after
    (λ d m. unusable.not_read text error h (subst (λ x. ReadSource text (Err x)) (sym (same_refusal error d m)) (subst (Refused (ReadSource text)) m r))) e f

pub program_not_typed : (p text : List ℕ) (program : Program) (error : TypeError) (result : Status) (before after : Scene) → Finds before.files.told p text → ReadSource text (Ok program) → Refuses (violation_of error) (check_program program) → EndsUntyped text error result before.out after.out → after.files ≡ read_once before.files → TellsNoProgram p result before after
program_not_typed p text program error result before after h r v e f =
    tells_with (NoProgram before.files p) (violation_of error) (SourceRefused (sources.Types error)) result (line (shown_violation text error)) before after
    (λ d m. unusable.untyped text program error h (record { read = r; violation = d; told = m; fails = subst (λ o. Refuses o (check_program program)) m v })) e f

pub no_service : (s text : List ℕ) (error : StoreError) (result : Status) (before after : Scene) → HoldsText before.files.told s text → Refused (ReadsAsService text) (store_refusal error) → EndsRefusedService text error result before.out after.out → after.files ≡ read_once before.files → TellsNoService s result before after
no_service s text error result before after h r e f =
    tells_with (NoService before.files s) (store_refusal error) (ServiceRefused error) result (line (shown_service_refusal text error)) before after
    (λ d m. unusable.service_refused text error h (record { refusal = d; told = m; is = subst (Refused (ReadsAsService text)) m r })) e f

-- two scenes whose files and outputs are these are one
pub same_scene : (before after : Scene) → after.files ≡ read_once before.files → after.out ≡ before.out → after ≡ record before { files = read_once before.files }
same_scene before after f o = ap (λ d. record { files = after.files; out = d }) o ∙ ap (λ d. record { files = d; out = before.out }) f

-- what was read and typed was loaded
pub program_loaded : (p : List ℕ) (source : Source) (before after : Scene) → Finds before.files.told p (text_of source) → ReadSource (text_of source) (Ok (program_of source)) → IsTrue (is_typed (program_of source)) → after.files ≡ read_once before.files → after.out ≡ before.out → LoadsProgram p (Ok source) before after
program_loaded p source before after h r t f o = (record { finds = h; read = r; typed = t }, same_scene before after f o)
