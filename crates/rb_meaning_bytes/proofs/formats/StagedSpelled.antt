-- What a format behind a pool spells, by its steps, and the texts that it uses.
use Rattle.std.proofs.Common.{◌≡◌, ◌<◌, ℕ, Bool, true, false, cond, nat_eq, List, [], ◌∷◌, ◌++◌, refl, ap, sym, ◌∙◌, subst, append-nil}
use Rattle.rb_trees.specs.declared.versions.Version.{Version}
use Rattle.rb_meaning_bytes.specs.formats.Formats as plain
use Rattle.rb_meaning_bytes.specs.formats.Formats.{Format, Done, is_tag, Spells, done}
use Rattle.rb_meaning_bytes.specs.formats.Staged.{Used, Staged, ◌>>=◌, give, same, at_stage, choose}
use Rattle.rb_meaning_bytes.proofs.formats.Spelled as spelled
use Rattle.rb_meaning_bytes.proofs.formats.PoolLaws.{Words, Uses, uses_nothing, uses_split}

-- a tag and the format that it stands for, as staged ones
abbrev pub staged_picked : {A : Type 0} → List (ℕ × Staged A) → ℕ → Staged A
staged_picked [] tag = λ used. plain.deeper
staged_picked (form ∷ forms) tag = cond (nat_eq tag form.0) form.1 (staged_picked forms tag)

abbrev pub staged_tag : {A : Type 0} → List (ℕ × Staged A) → ℕ → Bool
staged_tag [] tag = false
staged_tag (form ∷ forms) tag = cond (nat_eq tag form.0) true (staged_tag forms tag)

picked_at : {A : Type 0} (forms : List (ℕ × Staged A)) (tag used : ℕ) → staged_picked forms tag used ≡ plain.picked (at_stage used forms) tag
picked_at [] tag used = refl
picked_at (form ∷ forms) tag used = go (nat_eq tag form.0) (picked_at forms tag used)
  where
    go : (v : Bool) → staged_picked forms tag used ≡ plain.picked (at_stage used forms) tag → cond v form.1 (staged_picked forms tag) used ≡ cond v (form.1 used) (plain.picked (at_stage used forms) tag)
    go true e = refl
    go false e = e

tag_at : {A : Type 0} (forms : List (ℕ × Staged A)) (tag used : ℕ) → staged_tag forms tag ≡ is_tag (at_stage used forms) tag
tag_at [] tag used = refl
tag_at (form ∷ forms) tag used = ap (λ v. cond (nat_eq tag form.0) true v) (tag_at forms tag used)

module _ (version : Version) (texts : Words) where
  -- wherever these texts lead from so many to so many
  pub record Writes {A : Type 0} (F : Staged A) (bytes : List ℕ) (ws : Words) (a : A) : Type 0 where
    pub spells : (u v : ℕ) → Uses version texts u ws v → Spells (F u) bytes (a, v)

  pub shifted : {A : Type 0} {F : Staged A} {xs ys : List ℕ} {vs ws : Words} {a : A} → xs ≡ ys → vs ≡ ws → Writes F xs vs a → Writes F ys ws a
  shifted {F = F} {xs = xs} {ys = ys} {vs = vs} {ws = ws} {a = a} e f s = subst (λ l. Writes F l ws a) e (subst (λ l. Writes F xs l a) f s)

  pub given : {A : Type 0} (a : A) → Writes (give a) [] [] a
  given {A = A} a = record { spells = λ u v h. subst (λ n. Spells {A = Used A} (Done (a, u)) [] (a, n)) (uses_nothing version texts u v h) (done (a, u)) }

  pub behind : {A B : Type 0} (F : Staged A) (k : A → Staged B) (xs ys : List ℕ) (vs ws : Words) (a : A) (b : B) → Writes F xs vs a → Writes (k a) ys ws b → Writes (F >>= k) (xs ++ ys) (vs ++ ws) b
  behind {A = A} {B = B} F k xs ys vs ws a b s t = record { spells = go }
    where
      next : Used A → Format (Used B)
      next x = k x.0 x.1

      go : (u v : ℕ) → Uses version texts u (vs ++ ws) v → Spells ((F >>= k) u) (xs ++ ys) (b, v)
      go u v h =
          let m = uses_split version texts u v vs ws h in
          spelled.after (F u) (λ x. k x.0 x.1) xs ys (a, m.used) (b, v) (s.spells u m.used m.one) (t.spells m.used v m.two)

  -- what uses no text
  pub kept : {A : Type 0} (F : Format A) (xs : List ℕ) (a : A) → Spells F xs a → Writes (same F) xs [] a
  kept {A = A} F xs a s = record { spells = λ u v h. subst (λ n. Spells {A = Used A} (same F u) xs (a, n)) (uses_nothing version texts u v h) (spelled.finally F (λ x. (x, u)) xs a s) }

  pub behind_same : {A B : Type 0} (F : Format A) (k : A → Staged B) (xs ys : List ℕ) (ws : Words) (a : A) (b : B) → Spells F xs a → Writes (k a) ys ws b → Writes (same F >>= k) (xs ++ ys) ws b
  behind_same F k xs ys ws a b s t = behind (same F) k xs ys [] ws a b (kept F xs a s) t

  pub lastly : {A B : Type 0} (F : Staged A) (g : A → B) (xs : List ℕ) (ws : Words) (a : A) → Writes F xs ws a → Writes (F >>= λ x. give (g x)) xs ws (g a)
  lastly F g xs ws a s = shifted (append-nil xs) (append-nil ws) (behind F (λ x. give (g x)) xs [] ws [] a (g a) s (given (g a)))

  pub below : {A : Type 0} (forms : List (ℕ × Staged A)) (tag : ℕ) (bytes : List ℕ) (ws : Words) (a : A) → staged_tag forms tag ≡ true → tag < 256 → Writes (staged_picked forms tag) bytes ws a
      → Writes (choose forms) (tag ∷ bytes) ws a
  below forms tag bytes ws a h i s = record {
    spells = λ u v k.
        spelled.under (at_stage u forms) tag bytes (a, v) (sym (tag_at forms tag u) ∙ h) i
        (subst (λ F. Spells F bytes (a, v)) (picked_at forms tag u) (s.spells u v k));
  }
