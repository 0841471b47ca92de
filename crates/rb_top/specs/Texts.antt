-- The texts of programs and services.
use Rattle.std.specs.Prelude.{◌≡◌, ℕ, ◌<◌, ◌≤◌, List, Some, Ok, Err, length, IsTrue}
use Rattle.rb_trees.specs.declared.refusals.Refusal.{Refusal}
use Rattle.rb_trees.specs.declared.stores.StoreError.{StoreError}
use Rattle.rb_trees.specs.declared.typing.TypeError.{TypeError}
use Rattle.rb_trees.specs.mirror.Declarations.{Program}
use Rattle.rb_meaning_bytes.specs.tokens.Texts.{longest_text}
use Rattle.rb_meaning_bytes.specs.grammar.Sources.{ReadSource}
use Rattle.rb_meaning_types.specs.Violations.{Violation, violation_of}
use Rattle.rb_meaning_types.specs.Stores.{StoreRefusal, store_refusal}
use Rattle.rb_meaning_types.specs.Programs.{check_program, is_typed}
use Rattle.rb_meaning_flow.specs.Programs.{IsAnswerOf}
use Rattle.rb_meaning.specs.ServiceSources.{ReadsAsService}
use Rattle.rb_meaning_split.specs.Division.{Division, divisions}
use Rattle.rb_flow.specs.Program.{HasNoRefusal}
use Rattle.rb_top.specs.Runs.{Served}

-- The text has at most as many bytes as a text may have.
abbrev pub WithinLength : List ℕ → Type 0
WithinLength text = length text ≤ longest_text

-- The text has more.
abbrev pub TooLong : List ℕ → Type 0
TooLong text = longest_text < length text

-- The text is read as this program, and this error tells its first violation.
pub record IsUntyped (text : List ℕ) (p : Program) (error : TypeError) : Type 0 where
  pub read : ReadSource text (Ok p)
  pub violation : Violation
  pub told : violation_of error ≡ Some violation
  pub fails : check_program p ≡ Err violation

-- The text is read as this program, which is typed, and this is its first refusal by admission.
pub record IsRefused (text : List ℕ) (p : Program) (refusal : Refusal) : Type 0 where
  pub read : ReadSource text (Ok p)
  pub typed : IsTrue (is_typed p)
  pub refused : IsAnswerOf p refusal

-- The text is read as this program, which is typed and admitted, and this is its first refusal by the division.
pub record IsUndivided (text : List ℕ) (p : Program) (refusal : Refusal) : Type 0 where
  pub read : ReadSource text (Ok p)
  pub typed : IsTrue (is_typed p)
  pub admitted : HasNoRefusal p
  pub refused : divisions p ≡ Err refusal

-- Each batch of the program is divided.
abbrev pub IsDivided : Program → Type 0
IsDivided p = (ds : List Division) × (divisions p ≡ Ok ds)

-- The text is read as this program, which is accepted: it is typed and admitted, and each batch is divided.
pub record IsProgram (text : List ℕ) (p : Program) : Type 0 where
  pub read : ReadSource text (Ok p)
  pub typed : IsTrue (is_typed p)
  pub admitted : HasNoRefusal p
  pub divided : IsDivided p

-- The text is this service with this table.
abbrev pub IsService : List ℕ → Served → Type 0
IsService text served = ReadsAsService text (Ok served)

-- The text is no service, and this error tells why: its first refusal.
pub record IsNoService (text : List ℕ) (error : StoreError) : Type 0 where
  pub refusal : StoreRefusal
  pub told : store_refusal error ≡ Some refusal
  pub is : ReadsAsService text (Err refusal)
