-- The laws of a format, in words.
use Rattle.std.specs.Prelude.{◌≡◌, ◌⊎◌, ℕ, List, ◌++◌}
use Rattle.rb_meaning_bytes.specs.formats.Fields.{IsBytes}
use Rattle.rb_meaning_bytes.specs.formats.Formats.{Format, Spells, FirstViolation}

-- No spelling is a proper prefix of another, and no bytes spell two values.
abbrev pub IsPrefixFree : {A : Type 0} → Format A → Type 0
IsPrefixFree {A} F = (one other more : List ℕ) (x y : A) → Spells F one x → Spells F other y → one ++ more ≡ other → (one ≡ other) × (x ≡ y)

-- Each payload spells a value or has a first violation.
abbrev pub IsTotal : {A : Type 0} → Format A → Type 0
IsTotal {A} F = (payload : List ℕ) → IsBytes payload → ((x : A) × Spells F payload x) ⊎ ((number : ℕ) × (at : ℕ) × FirstViolation F payload number at)

-- No payload does both.
abbrev pub IsEither : {A : Type 0} → Format A → Type 0
IsEither {A} F = (payload : List ℕ) (x : A) (number at : ℕ) → IsBytes payload → Spells F payload x → FirstViolation F payload number at → ⊥

-- A payload has at most one first violation.
abbrev pub HasOneViolation : {A : Type 0} → Format A → Type 0
HasOneViolation {A} F = (payload : List ℕ) (m n i j : ℕ) → IsBytes payload → FirstViolation F payload m i → FirstViolation F payload n j → (m ≡ n) × (i ≡ j)

-- The good values and no others have a spelling, which is this alone.
pub record IsSpelling {A : Type 0} (F : Format A) (bytes_of : A → List ℕ) (Good : A → Type 0) : Type 0 where
  pub spelled : (x : A) → Good x → Spells F (bytes_of x) x
  pub alone : (bytes : List ℕ) (x : A) → Spells F bytes x → bytes ≡ bytes_of x
  pub good : (bytes : List ℕ) (x : A) → Spells F bytes x → Good x
