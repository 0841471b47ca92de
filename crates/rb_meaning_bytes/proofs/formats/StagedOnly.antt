-- What a format behind a pool spells is what functions of its value give: the bytes, and the texts that it uses. By the
-- format's steps.
use Rattle.std.proofs.Common.{◌≡◌, ℕ, zero, suc, List, [], ◌∷◌, ◌++◌, refl, ap, sym, ◌∙◌, subst, append_assoc, append-nil}
use Rattle.rb_trees.specs.declared.versions.Version.{Version}
use Rattle.rb_trees.specs.declared.versions.Version.TheVariants.{One}
use Rattle.rb_meaning_bytes.specs.formats.Formats as plain
use Rattle.rb_meaning_bytes.specs.formats.Formats.{Format, Done, Spells, done}
use Rattle.rb_meaning_bytes.specs.formats.Staged.{Used, Staged, ◌>>=◌, give, same, deeper, at_stage, choose, times}
use Rattle.rb_meaning_bytes.proofs.formats.Only.{Only, only_choose, EachOnly, split}
use Rattle.rb_meaning_bytes.proofs.formats.PoolLaws.{Words, Uses, uses_none, uses_both}

module _ (version : Version) (texts : Words) where
  -- from so many used texts: the bytes of a value that is good, and the texts that it uses
  pub record Makes {A : Type 0} (p : A → List ℕ) (ws : A → Words) (ok : A → Type 0) (start : ℕ) (bytes : List ℕ) (x : Used A) : Type 0 where
    pub is : bytes ≡ p x.0
    pub uses : Uses version texts start (ws x.0) x.1
    pub fits : ok x.0

  -- behind the front, which used these texts
  pub record StagedOnly {A : Type 0} (F : Staged A) (front : List ℕ) (before : Words) (p : A → List ℕ) (ws : A → Words) (ok : A → Type 0) : Type 0 where
    pub made : (start used : ℕ) (bytes : List ℕ) (x : Used A) → Uses version texts start before used → Spells (F used) bytes x → Makes p ws ok start (front ++ bytes) x

  same_done : {A : Type 0} (a : A) (used : ℕ) (bytes : List ℕ) (x : Used A) → Spells (Done (a, used)) bytes x → (bytes ≡ []) × (x ≡ (a, used))
  same_done a used _ _ (done _) = (refl, refl)

  -- the value and the count that `same` gives
  record SameSplit {A : Type 0} (F : Format A) (used : ℕ) (bytes : List ℕ) (x : Used A) : Type 0 where
    one : Spells F bytes x.0
    count : x.1 ≡ used

  same_split : {A : Type 0} (F : Format A) (used : ℕ) (bytes : List ℕ) (x : Used A) → Spells (same F used) bytes x → SameSplit F used bytes x
  same_split F used bytes x s =
      let t = split F (λ a. Done (a, used)) bytes x s in
      let e = same_done t.a used t.ys x t.two in
      let whole : t.xs ≡ bytes = sym (t.is ∙ ap (λ l. t.xs ++ l) e.0 ∙ append-nil t.xs) in
      let value : t.a ≡ x.0 = ap (λ y. y.0) (sym e.1) in
      record { one = subst (λ a. Spells F bytes a) value (subst (λ l. Spells F l t.a) whole t.one); count = ap (λ y. y.1) e.1 }

  module _ {A : Type 0} (p : A → List ℕ) (ws : A → Words) (ok : A → Type 0) where
    pub staged_give : (a : A) (front : List ℕ) (before : Words) → front ≡ p a → before ≡ ws a → ok a → StagedOnly (give a) front before p ws ok
    staged_give a front before h w k = record { made = go }
      where
        go : (start used : ℕ) (bytes : List ℕ) (x : Used A) → Uses version texts start before used → Spells (Done (a, used)) bytes x → Makes p ws ok start (front ++ bytes) x
        go start used _ _ u (done _) = record { is = append-nil front ∙ h; uses = subst (λ l. Uses version texts start l used) w u; fits = k }

    pub staged_bind : {B : Type 0} (F : Staged B) (k : B → Staged A) (front : List ℕ) (before : Words) (q : B → List ℕ) (qs : B → Words) (good : B → Type 0) → StagedOnly F [] [] q qs good
        → ((b : B) → good b → StagedOnly (k b) (front ++ q b) (before ++ qs b) p ws ok) → StagedOnly (F >>= k) front before p ws ok
    staged_bind {B = B} F k front before q qs good one two = record { made = go }
      where
        go : (start used : ℕ) (bytes : List ℕ) (x : Used A) → Uses version texts start before used → Spells ((F >>= k) used) bytes x → Makes p ws ok start (front ++ bytes) x
        go start used bytes x u s =
            let next : Used B → Format (Used A) = λ y. k y.0 y.1 in
            let t = split (F used) next bytes x s in
            let m = one.made used used t.xs t.a (uses_none version texts start used before u) t.one in
            let n = (two t.a.0 m.fits).made start t.a.1 t.ys x (uses_both version texts start used t.a.1 before (qs t.a.0) u m.uses) t.two in
            record {
              is = ap (λ l. front ++ l) t.is ∙ ap (λ l. front ++ (l ++ t.ys)) m.is ∙ sym (append_assoc front (q t.a.0) t.ys) ∙ n.is;
              uses = n.uses;
              fits = n.fits;
            }

    -- behind what uses no text
    pub staged_same : {B : Type 0} (F : Format B) (k : B → Staged A) (front : List ℕ) (before : Words) (q : B → List ℕ) (good : B → Type 0) → Only F [] q good
        → ((b : B) → good b → StagedOnly (k b) (front ++ q b) before p ws ok) → StagedOnly (same F >>= k) front before p ws ok
    staged_same {B = B} F k front before q good one two = record { made = go }
      where
        go : (start used : ℕ) (bytes : List ℕ) (x : Used A) → Uses version texts start before used → Spells ((same F >>= k) used) bytes x → Makes p ws ok start (front ++ bytes) x
        go start used bytes x u s =
            let next : Used B → Format (Used A) = λ y. k y.0 y.1 in
            let t = split (same F used) next bytes x s in
            let f = same_split F used t.xs t.a t.one in
            let m = one.made t.xs t.a.0 f.one in
            let n = (two t.a.0 m.fits).made start used t.ys x u (subst (λ c. Spells (k t.a.0 c) t.ys x) f.count t.two) in
            record {
              is = ap (λ l. front ++ l) t.is ∙ ap (λ l. front ++ (l ++ t.ys)) m.is ∙ sym (append_assoc front (q t.a.0) t.ys) ∙ n.is;
              uses = n.uses;
              fits = n.fits;
            }

    -- what uses no text, alone
    pub staged_plain : (F : Format A) (front : List ℕ) (good : A → Type 0) → Only F front p good → ((a : A) → good a → ([] ≡ ws a) × ok a) → StagedOnly (same F) front [] p ws ok
    staged_plain F front good one none = record { made = go }
      where
        go : (start used : ℕ) (bytes : List ℕ) (x : Used A) → Uses version texts start [] used → Spells (same F used) bytes x → Makes p ws ok start (front ++ bytes) x
        go start used bytes x u s =
            let f = same_split F used bytes x s in
            let m = one.made bytes x.0 f.one in
            let k = none x.0 m.fits in
            record { is = m.is; uses = subst (λ l. Uses version texts start l x.1) k.0 (subst (λ c. Uses version texts start [] c) (sym f.count) u); fits = k.1 }

    pub staged_deeper : (front : List ℕ) (before : Words) → StagedOnly (deeper {A = A}) front before p ws ok
    staged_deeper front before = record { made = λ start used bytes x u s. nothing start bytes x s }
      where
        nothing : (start : ℕ) (bytes : List ℕ) (x : Used A) → Spells (plain.deeper {A = Used A}) bytes x → Makes p ws ok start (front ++ bytes) x
        nothing start _ _ (plain.more y h s) = absurd y

    abbrev pub EachStaged : List (ℕ × Staged A) → Type 0
    EachStaged [] = Unit {0}
    EachStaged (form ∷ forms) = StagedOnly form.1 (form.0 ∷ []) [] p ws ok × EachStaged forms

    each_at_stage : (start used : ℕ) → Uses version texts start [] used → (forms : List (ℕ × Staged A)) → EachStaged forms
        → EachOnly (λ x. p x.0) (λ x. ok x.0 × Uses version texts start (ws x.0) x.1) (at_stage used forms)
    each_at_stage start used u [] e = tt
    each_at_stage start used u (form ∷ forms) e = (
      record { made = λ bytes x s. let m = e.0.made start used bytes x u s in record { is = m.is; fits = (m.fits, m.uses) } },
      each_at_stage start used u forms e.1,
    )

    pub staged_choose : (forms : List (ℕ × Staged A)) → EachStaged forms → StagedOnly (choose forms) [] [] p ws ok
    staged_choose forms e = record { made = go }
      where
        go : (start used : ℕ) (bytes : List ℕ) (x : Used A) → Uses version texts start [] used → Spells (choose forms used) bytes x → Makes p ws ok start ([] ++ bytes) x
        go start used bytes x u s =
            let m = (only_choose (λ y. p y.0) (λ y. ok y.0 × Uses version texts start (ws y.0) y.1) (at_stage used forms) (each_at_stage start used u forms e)).made bytes x s in
            record { is = m.is; uses = m.fits.1; fits = m.fits.0 }

  -- what is good in one way is good in another
  pub staged_as : {A : Type 0} (F : Staged A) (front : List ℕ) (before : Words) (p q : A → List ℕ) (ws vs : A → Words) (ok good : A → Type 0) → StagedOnly F front before p ws ok
      → ((a : A) → ok a → (p a ≡ q a) × (ws a ≡ vs a) × good a) → StagedOnly F front before q vs good
  staged_as {A = A} F front before p q ws vs ok good one h = record { made = go }
    where
      go : (start used : ℕ) (bytes : List ℕ) (x : Used A) → Uses version texts start before used → Spells (F used) bytes x → Makes q vs good start (front ++ bytes) x
      go start used bytes x u s =
          let m = one.made start used bytes x u s in
          let k = h x.0 m.fits in
          record { is = m.is ∙ k.0; uses = subst (λ l. Uses version texts start l x.1) k.1 m.uses; fits = k.2 }

  pub each_as : {A : Type 0} (p q : A → List ℕ) (ws vs : A → Words) (ok good : A → Type 0) → ((a : A) → ok a → (p a ≡ q a) × (ws a ≡ vs a) × good a)
      → (forms : List (ℕ × Staged A)) → EachStaged p ws ok forms → EachStaged q vs good forms
  each_as p q ws vs ok good h [] e = tt
  each_as p q ws vs ok good h (form ∷ forms) e = (staged_as form.1 (form.0 ∷ []) [] p q ws vs ok good e.0 h, each_as p q ws vs ok good h forms e.1)

  pub each_more : {A : Type 0} (p : A → List ℕ) (ws : A → Words) (ok : A → Type 0) (xs ys : List (ℕ × Staged A)) → EachStaged p ws ok xs → EachStaged p ws ok ys → EachStaged p ws ok (xs ++ ys)
  each_more p ws ok [] ys d e = e
  each_more p ws ok (x ∷ xs) ys d e = (d.0, each_more p ws ok xs ys d.1 e)

  -- so many, where a list's bytes and texts are those of its items
  pub staged_times : {A : Type 0} (F : Staged A) (q : A → List ℕ) (qs : A → Words) (good : A → Type 0) (p : List A → List ℕ) (ws : List A → Words) (ok : ℕ → List A → Type 0)
      → p [] ≡ [] → ws [] ≡ [] → ((x : A) (xs : List A) → p (x ∷ xs) ≡ q x ++ p xs) → ((x : A) (xs : List A) → ws (x ∷ xs) ≡ qs x ++ ws xs) → ok 0 []
      → ((n : ℕ) (x : A) (xs : List A) → good x → ok n xs → ok (suc n) (x ∷ xs)) → StagedOnly F [] [] q qs good → (n : ℕ) → StagedOnly (times n F) [] [] p ws (ok n)
  unfolding times
  staged_times F q qs good p ws ok e f c d z m one zero = staged_give p ws (ok 0) [] [] [] (sym e) (sym f) z
  staged_times F q qs good p ws ok e f c d z m one (suc n) =
      staged_bind p ws (ok (suc n)) F _ [] [] q qs good one (λ x h.
      staged_bind p ws (ok (suc n)) (times n F) _ (q x) (qs x) p ws (ok n) (staged_times F q qs good p ws ok e f c d z m one n) (λ xs k.
      staged_give p ws (ok (suc n)) (x ∷ xs) _ _ (sym (c x xs)) (sym (d x xs)) (m n x xs h k)))

-- In version 1 no format uses a text.
pub staged_one : (texts : Words) {A : Type 0} (F : Staged A) (front : List ℕ) (before after : Words) (p : A → List ℕ) (ws vs : A → Words) (ok : A → Type 0) → StagedOnly One texts F front before p ws ok
    → StagedOnly One texts F front after p vs ok
staged_one texts F front before after p ws vs ok one = record { made = λ start used bytes x u s. let m = one.made start used bytes x u s in record { is = m.is; uses = m.uses; fits = m.fits } }
