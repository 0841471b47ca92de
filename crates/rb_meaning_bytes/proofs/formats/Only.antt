-- What a format spells is what a function of the value gives, and the value is a good one. By the format's steps.
use Rattle.std.proofs.Common.{◌≡◌, ℕ, zero, suc, Bool, true, false, cond, nat_eq, List, [], ◌∷◌, ◌++◌, refl, ap, sym, ◌∙◌, subst, append_assoc, append-nil}
use Rattle.std.proofs.lemmas.Bool.{eqb-true}
use Rattle.rb_meaning_bytes.specs.formats.Fields.{Field, Of, spelled, Fits}
use Rattle.rb_meaning_bytes.specs.formats.Formats.{Format, Done, Then, ◌>>=◌, deeper, choose, picked, is_tag, times, Spells, done, more}

pub record Made {A : Type 0} (p : A → List ℕ) (ok : A → Type 0) (bytes : List ℕ) (a : A) : Type 0 where
  pub is : bytes ≡ p a
  pub fits : ok a

abbrev Making : {A : Type 0} → Format A → List ℕ → (A → List ℕ) → (A → Type 0) → Type 0
Making {A} F front p ok = (bytes : List ℕ) (a : A) → Spells F bytes a → Made p ok (front ++ bytes) a

-- behind the front, the format spells what p gives
pub record Only {A : Type 0} (F : Format A) (front : List ℕ) (p : A → List ℕ) (ok : A → Type 0) : Type 0 where
  pub made : Making F front p ok

pub record Split {A B : Type 0} (F : Format A) (k : A → Format B) (bytes : List ℕ) (b : B) : Type 0 where
  pub xs : List ℕ
  pub ys : List ℕ
  pub a : A
  pub is : bytes ≡ xs ++ ys
  pub one : Spells F xs a
  pub two : Spells (k a) ys b

pub split : {A B : Type 0} (F : Format A) (k : A → Format B) (bytes : List ℕ) (b : B) → Spells (F >>= k) bytes b → Split F k bytes b
split (Done a) k bytes b s = record { xs = []; ys = bytes; a = a; is = refl; one = done a; two = s }
split (Then f next) k _ _ (more {bytes = bytes} {a = b} x h s) =
    let t = split (next x) k bytes b s in
    record {
      xs = spelled f x ++ t.xs;
      ys = t.ys;
      a = t.a;
      is = ap (λ l. spelled f x ++ l) t.is ∙ sym (append_assoc (spelled f x) t.xs t.ys);
      one = more x h t.one;
      two = t.two;
    }

module _ {A : Type 0} (p : A → List ℕ) (ok : A → Type 0) where
  done_made : (a : A) (front : List ℕ) → front ≡ p a → ok a → Making (Done a) front p ok
  done_made _ front h k _ _ (done a) = record { is = append-nil front ∙ h; fits = k }

  more_made : (f : Field) (next : Of f → Format A) (front : List ℕ) → ((x : Of f) → Fits f x → Only (next x) (front ++ spelled f x) p ok) → Making (Then f next) front p ok
  more_made f next front k _ _ (more {bytes = bytes} {a = a} x h s) =
      let m = (k x h).made bytes a s in
      record { is = sym (append_assoc front (spelled f x) bytes) ∙ m.is; fits = m.fits }

  deeper_made : (front : List ℕ) → Making (deeper {A = A}) front p ok
  deeper_made front _ _ (more x h s) = absurd x

  bind_made : {B : Type 0} (F : Format B) (k : B → Format A) (front : List ℕ) (q : B → List ℕ) (good : B → Type 0) → Only F [] q good → ((b : B) → good b → Only (k b) (front ++ q b) p ok) → Making (F >>= k) front p ok
  bind_made F k front q good one two bytes a s =
      let t = split F k bytes a s in
      let m = one.made t.xs t.a t.one in
      let n = (two t.a m.fits).made t.ys a t.two in
      record { is = ap (λ l. front ++ l) t.is ∙ ap (λ l. front ++ (l ++ t.ys)) m.is ∙ sym (append_assoc front (q t.a) t.ys) ∙ n.is; fits = n.fits }

  pub only_done : (a : A) (front : List ℕ) → front ≡ p a → ok a → Only (Done a) front p ok
  only_done a front h k = record { made = done_made a front h k }

  pub only_more : (f : Field) (next : Of f → Format A) (front : List ℕ) → ((x : Of f) → Fits f x → Only (next x) (front ++ spelled f x) p ok) → Only (Then f next) front p ok
  only_more f next front k = record { made = more_made f next front k }

  pub only_deeper : (front : List ℕ) → Only (deeper {A = A}) front p ok
  only_deeper front = record { made = deeper_made front }

  pub only_bind : {B : Type 0} (F : Format B) (k : B → Format A) (front : List ℕ) (q : B → List ℕ) (good : B → Type 0) → Only F [] q good → ((b : B) → good b → Only (k b) (front ++ q b) p ok) → Only (F >>= k) front p ok
  only_bind F k front q good one two = record { made = bind_made F k front q good one two }

  abbrev pub EachOnly : List (ℕ × Format A) → Type 0
  EachOnly [] = Unit {0}
  EachOnly (form ∷ forms) = Only form.1 (form.0 ∷ []) p ok × EachOnly forms

  picked_made : (forms : List (ℕ × Format A)) → EachOnly forms → (tag : ℕ) → is_tag forms tag ≡ true → (bytes : List ℕ) (a : A) → Spells (picked forms tag) bytes a → Made p ok (tag ∷ bytes) a
  picked_made [] e tag h bytes a s = absurd cc
  picked_made (form ∷ forms) e tag h bytes a s = go (nat_eq tag form.0) refl h s (picked_made forms e.1 tag)
    where
      go : (v : Bool) → nat_eq tag form.0 ≡ v → cond v true (is_tag forms tag) ≡ true → Spells (cond v form.1 (picked forms tag)) bytes a
          → (is_tag forms tag ≡ true → (bytes : List ℕ) (a : A) → Spells (picked forms tag) bytes a → Made p ok (tag ∷ bytes) a) → Made p ok (tag ∷ bytes) a
      go true i h s k = subst (λ t. Made p ok (t ∷ bytes) a) (sym (eqb-true tag form.0 i)) (e.0.made bytes a s)
      go false i h s k = k h bytes a s

  choose_made : (forms : List (ℕ × Format A)) → EachOnly forms → Making (choose forms) [] p ok
  choose_made forms e _ _ (more {bytes = bytes} {a = a} tag h s) = picked_made forms e tag h.0 bytes a s

  pub only_choose : (forms : List (ℕ × Format A)) → EachOnly forms → Only (choose forms) [] p ok
  only_choose forms e = record { made = choose_made forms e }

-- so many, where a list's bytes are those of its items
pub only_times : {A : Type 0} (F : Format A) (q : A → List ℕ) (good : A → Type 0) (p : List A → List ℕ) (ok : ℕ → List A → Type 0) → p [] ≡ [] → ((x : A) (xs : List A) → p (x ∷ xs) ≡ q x ++ p xs) → ok 0 [] → ((n : ℕ) (x : A) (xs : List A) → good x → ok n xs → ok (suc n) (x ∷ xs))
    → Only F [] q good → (n : ℕ) → Only (times n F) [] p (ok n)
unfolding times
only_times F q good p ok e c z m one zero = only_done p (ok 0) [] [] (sym e) z
only_times F q good p ok e c z m one (suc n) =
    only_bind p (ok (suc n)) F _ [] q good one (λ x h.
    only_bind p (ok (suc n)) (times n F) _ (q x) p (ok n) (only_times F q good p ok e c z m one n) (λ xs k.
    only_done p (ok (suc n)) (x ∷ xs) _ (sym (c x xs)) (m n x xs h k)))
