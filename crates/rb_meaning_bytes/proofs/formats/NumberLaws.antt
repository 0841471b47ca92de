-- Which numbers the violations of a format have, by its steps.
use Rattle.std.proofs.Common.{◌≡◌, ℕ, zero, suc, Bool, true, false, cond, nat_eq, get_or, List, [], ◌∷◌, ◌++◌, Some, refl, sym, subst}
use Rattle.std.proofs.lemmas.Bool.{eqb-true}
use Rattle.rb_meaning_bytes.specs.formats.Fields.{Test, Field, Tag, Short, Brief, Check, Deeper, Of, spelled, Fits, Wrong, no_such_tag, no_truth, too_long, no_utf8, no_name, no_short, refused_number, no_zig, no_length, too_much, refused_bytes, refused_here, deeper, Violates, wrong, cut, truncated, bad_tag, bad_text, not_canonical, too_deep, trailing}
use Rattle.rb_meaning_bytes.specs.formats.Formats as plain
use Rattle.rb_meaning_bytes.specs.formats.Formats.{Format, Done, Then, ◌>>=◌, the, choose, picked, is_tag, times, Spells, Reaches, here, behind, FirstViolation, within, behind_all}

-- ---- fields

-- Whatever is wrong at the field has such a number.
abbrev pub FieldNumbers : (ℕ → Type 0) → Field → Type 0
FieldNumbers P f = (bytes : List ℕ) (number : ℕ) → Wrong f bytes number → P number

-- Such are the numbers of what is wrong without a test.
pub record Usual (P : ℕ → Type 0) : Type 0 where
  pub tag : P bad_tag
  pub text : P bad_text
  pub canonical : P not_canonical
  pub deep : P too_deep

-- A test refuses with such numbers alone.
abbrev pub TestNumbers : {A : Type 0} → (ℕ → Type 0) → Test A → Type 0
TestNumbers {A} P test = (x : A) (number : ℕ) → test x ≡ Some number → P number

-- And so do the tests of a field.
abbrev pub Tested : (ℕ → Type 0) → Field → Type 0
Tested P (Short test) = TestNumbers P test
Tested P (Brief most test) = TestNumbers P test
Tested P (Check refused) = (number : ℕ) → refused ≡ Some number → P number
Tested P _ = Unit {0}

-- A field that may be reached has such numbers alone.
pub record HasNumbers {A : Type 0} (P : ℕ → Type 0) (F : Format A) : Type 0 where
  pub reached : (front : List ℕ) (f : Field) → Reaches F front f → FieldNumbers P f

-- Such are the numbers of each form, by its tag.
abbrev pub EachNumbers : {A : Type 0} → (ℕ → ℕ → Type 0) → List (ℕ × Format A) → Type 0
EachNumbers Q [] = Unit {0}
EachNumbers Q (form ∷ forms) = HasNumbers (Q form.0) form.1 × EachNumbers Q forms

picked_numbers : {A : Type 0} (Q : ℕ → ℕ → Type 0) (forms : List (ℕ × Format A)) → EachNumbers Q forms → (tag : ℕ) → is_tag forms tag ≡ true → HasNumbers (Q tag) (picked forms tag)
picked_numbers Q [] e tag h = absurd cc
picked_numbers Q (form ∷ forms) e tag h = go (nat_eq tag form.0) refl h (picked_numbers Q forms e.1 tag)
  where
    go : (v : Bool) → nat_eq tag form.0 ≡ v → cond v true (is_tag forms tag) ≡ true → (is_tag forms tag ≡ true → HasNumbers (Q tag) (picked forms tag))
        → HasNumbers (Q tag) (cond v form.1 (picked forms tag))
    go true i h k = subst (λ t. HasNumbers (Q t) form.1) (sym (eqb-true tag form.0 i)) e.0
    go false i h k = k h

module _ (P : ℕ → Type 0) (usual : Usual P) where
  pub field_numbers : (f : Field) → Tested P f → FieldNumbers P f
  field_numbers _ t _ _ (no_such_tag b rest h) = usual.tag
  field_numbers _ t _ _ (no_truth b rest h) = usual.canonical
  field_numbers _ t _ _ (too_long bytes h) = usual.text
  field_numbers _ t _ _ (no_utf8 bytes h u) = usual.text
  field_numbers _ t _ _ (no_name bytes h u) = usual.text
  field_numbers _ t _ _ (no_short bytes none) = usual.canonical
  field_numbers _ t _ _ (refused_number n number rest h r) = t n number r
  field_numbers _ t _ _ (no_zig bytes none) = usual.canonical
  field_numbers _ t _ _ (no_length bytes none) = usual.canonical
  field_numbers _ t _ _ (too_much n rest h m) = usual.text
  field_numbers _ t _ _ (refused_bytes bytes rest number h m r) = t bytes number r
  field_numbers _ t _ _ (refused_here number bytes) = t number refl
  field_numbers _ t _ _ (deeper b rest) = usual.deep

  -- ---- formats

  done_reached : {A : Type 0} (a : A) (front : List ℕ) (f : Field) → Reaches (Done a) front f → FieldNumbers P f
  done_reached a front f r = elim r [ ]

  pub numbers_done : {A : Type 0} (a : A) → HasNumbers P (Done a)
  numbers_done a = record { reached = done_reached a }

  more_reached : {A : Type 0} (f : Field) (next : Of f → Format A) → Tested P f → ((x : Of f) → Fits f x → HasNumbers P (next x))
      → (front : List ℕ) (g : Field) → Reaches (Then f next) front g → FieldNumbers P g
  more_reached f next t k _ _ (here _ _) = field_numbers f t
  more_reached f next t k _ _ (behind {g = g} {bytes = bytes} x h r) = (k x h).reached bytes g r

  pub numbers_more : {A : Type 0} (f : Field) (next : Of f → Format A) → Tested P f → ((x : Of f) → Fits f x → HasNumbers P (next x)) → HasNumbers P (Then f next)
  numbers_more f next t k = record { reached = more_reached f next t k }

  pub numbers_the : (f : Field) → Tested P f → HasNumbers P (the f)
  numbers_the f t = numbers_more f (λ x. Done x) t (λ x h. numbers_done x)

  pub numbers_deeper : {A : Type 0} → HasNumbers P (plain.deeper {A = A})
  numbers_deeper = numbers_more Deeper (λ x. absurd x) tt (λ x h. absurd x)

  bind_more : {A B : Type 0} (f : Field) (next : Of f → Format A) (k : A → Format B) → HasNumbers P (Then f next) → ((x : Of f) → HasNumbers P (next x) → HasNumbers P (next x >>= k))
      → (front : List ℕ) (g : Field) → Reaches (Then f next >>= k) front g → FieldNumbers P g
  bind_more f next k one two _ _ (here _ _) = one.reached [] f (here f next)
  bind_more f next k one two _ _ (behind {g = g} {bytes = bytes} x h r) =
      (two x (record { reached = λ front d s. one.reached (spelled f x ++ front) d (behind x h s) })).reached bytes g r

  pub numbers_bind : {A B : Type 0} (F : Format A) (k : A → Format B) → HasNumbers P F → ((a : A) → HasNumbers P (k a)) → HasNumbers P (F >>= k)
  numbers_bind (Done a) k one two = two a
  numbers_bind (Then f next) k one two = record { reached = bind_more f next k one (λ x h. numbers_bind (next x) k h two) }

  pub numbers_choose : {A : Type 0} (forms : List (ℕ × Format A)) → EachNumbers (λ tag. P) forms → HasNumbers P (choose forms)
  numbers_choose forms e = numbers_more (Tag (λ tag. is_tag forms tag)) (λ tag. picked forms tag) tt (λ tag h. picked_numbers (λ tag. P) forms e tag h.0)

  pub numbers_times : {A : Type 0} (F : Format A) → HasNumbers P F → (n : ℕ) → HasNumbers P (times n F)
  unfolding times
  numbers_times F one zero = numbers_done []
  numbers_times F one (suc n) = numbers_bind F _ one (λ x. numbers_bind (times n F) _ (numbers_times F one n) (λ xs. numbers_done (x ∷ xs)))

-- ---- violations

violates_number : (P : ℕ → Type 0) (f : Field) (rest : List ℕ) (number left : ℕ) → FieldNumbers P f → P truncated → Violates f rest number left → P number
violates_number P f rest _ _ h c (wrong {number = n} w) = h rest n w
violates_number P f rest _ _ h c (cut l w) = c

-- The first violation of a payload has such a number.
pub violation_number : {A : Type 0} (P : ℕ → Type 0) (F : Format A) (payload : List ℕ) (number at : ℕ) → FirstViolation F payload number at → HasNumbers P F → P trailing → P truncated → P number
violation_number P F payload number at (within front rest f left i r v p) h t c = violates_number P f rest number left (h.reached front f r) c v
violation_number P F payload number at (behind_all front rest a i s l n p) h t c = subst P (sym n) t

-- The same where the numbers are by the tag, which is the payload's first byte.
module _ (Q : ℕ → ℕ → Type 0) (lone : (tag : ℕ) → Q tag bad_tag) (short : (tag : ℕ) → Q tag truncated) (long : (tag : ℕ) → Q tag trailing) where
  abbrev first_byte : List ℕ → ℕ
  first_byte payload = get_or payload 0 0

  reached_by : {A : Type 0} (forms : List (ℕ × Format A)) → EachNumbers Q forms → (front rest : List ℕ) (f : Field) (number left : ℕ) → Reaches (choose forms) front f
      → Violates f rest number left → Q (first_byte (front ++ rest)) number
  reached_by forms e _ _ _ _ _ (here _ _) (wrong (no_such_tag b after h)) = lone b
  reached_by forms e _ rest _ _ _ (here _ _) (cut l w) = short (first_byte rest)
  reached_by forms e _ rest _ number left (behind {g = g} {bytes = bytes} tag h r) v =
      violates_number (Q tag) g rest number left ((picked_numbers Q forms e tag h.0).reached bytes g r) (short tag) v

  pub violation_number_by : {A : Type 0} (forms : List (ℕ × Format A)) (payload : List ℕ) (number at : ℕ) → FirstViolation (choose forms) payload number at → EachNumbers Q forms
      → Q (get_or payload 0 0) number
  violation_number_by forms payload number at (within front rest f left i r v p) e =
      subst (λ l. Q (first_byte l) number) (sym i) (reached_by forms e front rest f number left r v)
  violation_number_by forms payload number at (behind_all front rest a i s l n p) e = subst (λ m. Q (first_byte payload) m) (sym n) (long (first_byte payload))
