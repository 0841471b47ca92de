-- A format says which fields are read, one after the other; what comes next may depend on the values so far.
-- Which bytes spell a value, and what the first violation in other bytes is, follow from the format.
use Rattle.std.specs.Prelude.{◌≡◌, ◌+◌, ◌<◌, ℕ, zero, suc, List, [], ◌∷◌, ◌++◌, Bool, true, false, cond, nat_eq, length}
use Rattle.rb_meaning_bytes.specs.formats.Fields.{Field, Tag, Deeper, Of, spelled, Fits, Violates, trailing}

pub data Format (A : Type 0) : Type 0 where
  Done : A → Format A
  Then : (f : Field) → (Of f → Format A) → Format A

infixl 10 ◌>>=◌
abbrev pub ◌>>=◌ : {A B : Type 0} → Format A → (A → Format B) → Format B
(Done a) >>= k = k a
(Then f more) >>= k = Then f (λ x. more x >>= k)

-- one field
abbrev pub the : (f : Field) → Format (Of f)
the f = Then f (λ x. Done x)

-- what is within too much
abbrev pub deeper : {A : Type 0} → Format A
deeper = Then Deeper (λ x. absurd x)

-- a tag, and the format that it stands for
abbrev pub picked : {A : Type 0} → List (ℕ × Format A) → ℕ → Format A
picked [] tag = deeper
picked (form ∷ forms) tag = cond (nat_eq tag form.0) form.1 (picked forms tag)

abbrev pub is_tag : {A : Type 0} → List (ℕ × Format A) → ℕ → Bool
is_tag [] tag = false
is_tag (form ∷ forms) tag = cond (nat_eq tag form.0) true (is_tag forms tag)

abbrev pub choose : {A : Type 0} → List (ℕ × Format A) → Format A
choose forms = Then (Tag (λ tag. is_tag forms tag)) (λ tag. picked forms tag)

-- so many, one after the other
unfoldable pub times : {A : Type 0} → ℕ → Format A → Format (List A)
times zero F = Done []
times (suc n) F = F >>= λ x. times n F >>= λ xs. Done (x ∷ xs)

-- ---- what follows from a format

-- The bytes spell the value.
pub data Spells {A : Type 0} : Format A → List ℕ → A → Type 0 where
  done : (a : A) → Spells (Done a) [] a
  more : {f : Field} {next : Of f → Format A} {bytes : List ℕ} {a : A} (x : Of f) → Fits f x → Spells (next x) bytes a
      → Spells (Then f next) (spelled f x ++ bytes) a

-- Behind the bytes, which are whole fields, this field is read.
pub data Reaches {A : Type 0} : Format A → List ℕ → Field → Type 0 where
  here : (f : Field) (next : Of f → Format A) → Reaches (Then f next) [] f
  behind : {f g : Field} {next : Of f → Format A} {bytes : List ℕ} (x : Of f) → Fits f x → Reaches (next x) bytes g
      → Reaches (Then f next) (spelled f x ++ bytes) g

-- The payload's first violation has this number and place.
pub data FirstViolation {A : Type 0} (F : Format A) (payload : List ℕ) (number at : ℕ) : Type 0 where
  -- Whole fields stand before a field that is violated.
  within : (front rest : List ℕ) (f : Field) (left : ℕ) → payload ≡ front ++ rest → Reaches F front f
      → Violates f rest number left → at + left ≡ length payload → FirstViolation F payload number at
  -- Bytes stand behind a whole value.
  behind_all : (front rest : List ℕ) (a : A) → payload ≡ front ++ rest → Spells F front a
      → length front < length payload → number ≡ trailing → at ≡ length front → FirstViolation F payload number at
