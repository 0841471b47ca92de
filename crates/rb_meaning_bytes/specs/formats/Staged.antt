-- Formats behind a pool of texts: each goes on from how many of the texts were used.
use Rattle.std.specs.Prelude.{ℕ, zero, suc, List, [], ◌∷◌}
use Rattle.rb_meaning_bytes.specs.formats.Formats as plain
use Rattle.rb_meaning_bytes.specs.formats.Formats.{Format, Done}

-- a value, and how many texts were used by then
abbrev pub Used : Type 0 → Type 0
Used A = A × ℕ

abbrev pub Staged : Type 0 → Type 0
Staged A = ℕ → Format (Used A)

infixl 10 ◌>>=◌
abbrev pub ◌>>=◌ : {A B : Type 0} → Staged A → (A → Staged B) → Staged B
F >>= k = λ used. plain.◌>>=◌ (F used) (λ x. k x.0 x.1)

abbrev pub give : {A : Type 0} → A → Staged A
give a = λ used. Done (a, used)

-- what uses no text
abbrev pub same : {A : Type 0} → Format A → Staged A
same F = λ used. plain.◌>>=◌ F (λ a. Done (a, used))

abbrev pub deeper : {A : Type 0} → Staged A
deeper = λ used. plain.deeper

abbrev pub at_stage : {A : Type 0} → ℕ → List (ℕ × Staged A) → List (ℕ × Format (Used A))
at_stage used [] = []
at_stage used (form ∷ forms) = (form.0, form.1 used) ∷ at_stage used forms

abbrev pub choose : {A : Type 0} → List (ℕ × Staged A) → Staged A
choose forms = λ used. plain.choose (at_stage used forms)

-- so many, one after the other
unfoldable pub times : {A : Type 0} → ℕ → Staged A → Staged (List A)
times zero F = give []
times (suc n) F = F >>= λ x. times n F >>= λ xs. give (x ∷ xs)
