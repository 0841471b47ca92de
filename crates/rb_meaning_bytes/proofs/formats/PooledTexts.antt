-- Names, texts and values behind a pool: what they spell, and what spells them.
use Rattle.std.proofs.Common.{◌≡◌, ℕ, ℤ, ◌<◌, ◌≤◌, ◌^◌, Bool, true, false, cond, ◌&&◌, nat_lt, nat_le, List, [], ◌∷◌, ◌++◌, length, Some, None, refl, ap, sym, ◌∙◌, subst, arith, append-nil}
use Rattle.std.specs.Int.{w64}
use Rattle.std.specs.Int.RustNames.{FitsSigned}
use Rattle.std.proofs.lemmas.Bool.{ltb-true, leb-true, lt-ltb, le-leb, and_parts, and_from, cond-true}
use Rattle.rb_trees.specs.Limits.{longest_text}
use Rattle.rb_trees.specs.declared.values.Value.{Value, out-Value}
use Rattle.rb_trees.specs.declared.values.Value.TheOpen.{Value-F}
use Rattle.rb_trees.specs.declared.values.Value.TheVariants as a_value
use Rattle.rb_trees.specs.declared.values.Value.TheViews.{roll-Value, roll-out-Value}
use Rattle.rb_trees.specs.declared.versions.Version.{Version}
use Rattle.rb_trees.specs.declared.versions.Version.TheVariants.{One, Two}
use Rattle.rb_meaning_bytes.specs.formats.Fields.{Test, Truth, Text, Name, Fits, truth, is_name, bad_text, bad_pool}
use Rattle.rb_meaning_bytes.specs.formats.Shorts.{short}
use Rattle.rb_meaning_bytes.specs.formats.Formats.{the, Spells, done, more}
use Rattle.rb_meaning_bytes.specs.formats.Staged.{Used, Staged, same}
use Rattle.rb_meaning_bytes.specs.formats.Pools.{place_in, place_test, text_at, name_test, value_test, used_after}
use Rattle.rb_meaning_bytes.specs.formats.Values.{integer, int_value, bool_value}
use Rattle.rb_meaning_bytes.specs.formats.Scripts.{pooled, name, text, text_value, value, value_forms}
use Rattle.rb_meaning_bytes.specs.formats.ScriptBytes.{integer_bytes, pooled_bytes, literal_form, literal_bytes, form_texts, literal_texts}
use Rattle.rb_meaning_bytes.specs.formats.FormedScripts.{primitive_form, IsPrimitive}
use Rattle.rb_meaning_bytes.proofs.formats.Only.{only_done, only_more, only_bind}
use Rattle.rb_meaning_bytes.proofs.formats.Spelled.{moved, finally}
use Rattle.rb_meaning_bytes.proofs.formats.Values.{the_spelled, unless_met, met_unless, integer_only, integer_spelled, out_int, out_bool, out_text}
use Rattle.rb_meaning_bytes.proofs.formats.PoolLaws.{Words, Differ, EachText, IsPoolText, each_at, place_at, Uses, uses_both, use_of, used_at}
use Rattle.rb_meaning_bytes.proofs.formats.StagedOnly.{Makes, StagedOnly, staged_give, staged_bind, staged_plain, staged_choose, staged_one, EachStaged}
use Rattle.rb_meaning_bytes.proofs.formats.StagedSpelled.{Writes, kept, lastly, below}

-- what is known of a pool that was read
abbrev pub IsPool : Version → Words → Type 0
IsPool One texts = texts ≡ []
IsPool Two texts = (length texts < 2 ^ 32) × Differ texts × EachText IsPoolText texts

abbrev pub alone : List ℕ → Words
alone t = t ∷ []

-- ---- what is spelled

record Passed (texts : Words) (used : ℕ) (test : Test (List ℕ)) (place : ℕ) : Type 0 where
  inside : place < length texts
  early : place ≤ used
  test_is : test (text_at texts place) ≡ None

passed : (texts : Words) (used : ℕ) (test : Test (List ℕ)) (place : ℕ) → place_test texts used test place ≡ None → Passed texts used test place
passed texts used test place h = go (nat_lt place (length texts) && nat_le place used) refl h
  where
    go : (v : Bool) → (nat_lt place (length texts) && nat_le place used) ≡ v → cond v (test (text_at texts place)) (Some bad_pool) ≡ None → Passed texts used test place
    go true e i =
        let parts = and_parts (nat_lt place (length texts)) (nat_le place used) e in
        record { inside = ltb-true place (length texts) parts.0; early = leb-true place used parts.1; test_is = i }
    go false e i = absurd cc

pooled_only : (texts : Words) (test : Test (List ℕ)) (good : List ℕ → Type 0) → IsPool Two texts → ((t : List ℕ) → IsPoolText t → test t ≡ None → good t)
    → StagedOnly Two texts (pooled texts test) [] [] (λ t. pooled_bytes Two texts t) (λ t. alone t) good
pooled_only texts test good pool h = record { made = go }
  where
    go : (start used : ℕ) (bytes : List ℕ) (x : Used (List ℕ)) → Uses Two texts start [] used → Spells (pooled texts test used) bytes x
        → Makes Two texts (λ t. pooled_bytes Two texts t) (λ t. alone t) good start ([] ++ bytes) x
    go start used _ _ u (more place f (done _)) =
        let p = passed texts used test place f.1 in
        record {
          is = append-nil (short place) ∙ ap short (sym (place_at texts place pool.1 p.inside));
          uses = uses_both Two texts start used (used_after used place) [] (alone (text_at texts place)) u (use_of texts used place pool.1 u.1 p.inside p.early);
          fits = h (text_at texts place) (each_at IsPoolText texts place p.inside pool.2) p.test_is;
        }

pub name_only : (version : Version) (texts : Words) → IsPool version texts
    → StagedOnly version texts (name version texts) [] [] (λ t. pooled_bytes version texts t) (λ t. alone t) (λ t. Fits Name t)
unfolding name
name_only One texts pool =
    let p : List ℕ → List ℕ = λ t. pooled_bytes One texts t in
    let ok : List ℕ → Type 0 = λ t. Fits Name t in
    staged_one texts (same (the Name)) [] [] [] p (λ t. []) (λ t. alone t) ok
    (staged_plain One texts p (λ t. []) ok (the Name) [] ok (only_more p ok Name _ [] (λ t h. only_done p ok t _ refl h)) (λ t h. (refl, h)))
name_only Two texts pool = pooled_only texts name_test (λ t. Fits Name t) pool (λ t i e. (i.0, unless_met (is_name t) bad_text e))

pub text_only : (version : Version) (texts : Words) → IsPool version texts
    → StagedOnly version texts (text version texts) [] [] (λ t. pooled_bytes version texts t) (λ t. alone t) (λ t. Fits Text t)
unfolding text
text_only One texts pool =
    let p : List ℕ → List ℕ = λ t. pooled_bytes One texts t in
    let ok : List ℕ → Type 0 = λ t. Fits Text t in
    staged_one texts (same (the Text)) [] [] [] p (λ t. []) (λ t. alone t) ok
    (staged_plain One texts p (λ t. []) ok (the Text) [] ok (only_more p ok Text _ [] (λ t h. only_done p ok t _ refl h)) (λ t h. (refl, h)))
text_only Two texts pool = pooled_only texts value_test (λ t. Fits Text t) pool
    (λ t i e. (leb-true (length t) longest_text (unless_met (nat_le (length t) longest_text) bad_text e), i.1))

module _ (version : Version) (texts : Words) (pool : IsPool version texts) where
  -- a primitive value that uses no text
  abbrev Wordless : Value → Type 0
  Wordless v = ([] ≡ literal_texts v) × IsPrimitive v

  pub literal_each : EachStaged version texts (λ v. literal_bytes version texts v) (λ v. literal_texts v) IsPrimitive (value_forms version texts)
  literal_each =
      let p : Value → List ℕ = λ v. literal_bytes version texts v in
      let ws : Value → Words = λ v. literal_texts v in
      let good : Value → Type 0 = λ v. Wordless v in (
        staged_plain version texts p ws IsPrimitive (int_value version) (1 ∷ []) good
            (only_bind p good (integer version) _ _ (integer_bytes version) (λ z. FitsSigned w64 z) (integer_only version)
            (λ z h. only_done p good (a_value.Int z) _ (sym (ap (literal_form version texts) (out_int z))) (sym (ap form_texts (out_int z)), subst primitive_form (sym (out_int z)) h))) (λ v h. h),
        (
          staged_plain version texts p ws IsPrimitive bool_value (2 ∷ []) good
              (only_more p good Truth _ _ (λ b h. only_done p good (a_value.Bool b) _ (sym (ap (literal_form version texts) (out_bool b))) (sym (ap form_texts (out_bool b)), subst primitive_form (sym (out_bool b)) tt))) (λ v h. h),
          (
            staged_bind version texts p ws IsPrimitive (text version texts) _ (3 ∷ []) [] (λ t. pooled_bytes version texts t) (λ t. alone t) (λ t. Fits Text t) (text_only version texts pool)
                (λ t h. staged_give version texts p ws IsPrimitive (a_value.Text t) _ _ (sym (ap (literal_form version texts) (out_text t))) (sym (ap form_texts (out_text t))) (subst primitive_form (sym (out_text t)) h)),
            tt,
          ),
        ),
      )

  pub literal_only : StagedOnly version texts (value version texts) [] [] (λ v. literal_bytes version texts v) (λ v. literal_texts v) IsPrimitive
  unfolding value
  literal_only = staged_choose version texts (λ v. literal_bytes version texts v) (λ v. literal_texts v) IsPrimitive (value_forms version texts) literal_each

-- ---- what spells

pooled_spelled : (texts : Words) (test : Test (List ℕ)) (t : List ℕ) → IsPool Two texts → test t ≡ None → Writes Two texts (pooled texts test) (pooled_bytes Two texts t) (alone t) t
pooled_spelled texts test t pool h = record { spells = go }
  where
    go : (u v : ℕ) → Uses Two texts u (alone t) v → Spells {A = Used (List ℕ)} (pooled texts test u) (short (place_in texts t)) (t, v)
    go u v used =
        let a = used_at texts u v t pool.1 used in
        let place = place_in texts t in
        let inside = a.inside in
        let small : place < 2 ^ 32 = omega (arith, inside, pool.0) in
        let in_both : (nat_lt place (length texts) && nat_le place u) ≡ true = and_from (nat_lt place (length texts)) (nat_le place u) (lt-ltb place (length texts) a.inside) (le-leb place u a.early) in
        let pass : place_test texts u test place ≡ None =
        cond-true (nat_lt place (length texts) && nat_le place u) (test (text_at texts place)) (Some bad_pool) in_both ∙ ap test a.is ∙ h in
        let whole : Spells {A = Used (List ℕ)} (pooled texts test u) (short place) (text_at texts place, used_after u place) = moved (append-nil (short place)) (more place (small, pass) (done (text_at texts place, used_after u place))) in
        subst (λ n. Spells {A = Used (List ℕ)} (pooled texts test u) (short place) (t, n)) a.after
        (subst (λ s. Spells {A = Used (List ℕ)} (pooled texts test u) (short place) (s, used_after u place)) a.is whole)

-- In version 1 it makes no difference which texts are used.
wordless : (texts : Words) {A : Type 0} (F : Staged A) (bytes : List ℕ) (vs ws : Words) (a : A) → Writes One texts F bytes vs a → Writes One texts F bytes ws a
wordless texts F bytes vs ws a s = record { spells = λ u v h. s.spells u v h }

pub name_spelled : (version : Version) (texts : Words) (t : List ℕ) → IsPool version texts → Fits Name t → Writes version texts (name version texts) (pooled_bytes version texts t) (alone t) t
unfolding name
name_spelled One texts t pool h = wordless texts (same (the Name)) _ [] (alone t) t (kept One texts (the Name) _ t (the_spelled Name t h))
name_spelled Two texts t pool h = pooled_spelled texts name_test t pool (met_unless (is_name t) bad_text h.1)

pub text_spelled : (version : Version) (texts : Words) (t : List ℕ) → IsPool version texts → Fits Text t → Writes version texts (text version texts) (pooled_bytes version texts t) (alone t) t
unfolding text
text_spelled One texts t pool h = wordless texts (same (the Text)) _ [] (alone t) t (kept One texts (the Text) _ t (the_spelled Text t h))
text_spelled Two texts t pool h = pooled_spelled texts value_test t pool (met_unless (nat_le (length t) longest_text) bad_text (le-leb (length t) longest_text h.0))

-- the forms of values, behind their tags
pub int_form_spelled : (version : Version) (texts : Words) (z : ℤ) → FitsSigned w64 z → Writes version texts (same (int_value version)) (integer_bytes version z) [] (a_value.Int z)
int_form_spelled version texts z h = kept version texts (int_value version) _ (a_value.Int z) (finally (integer version) a_value.Int _ z (integer_spelled version z h))

pub bool_form_spelled : (version : Version) (texts : Words) (b : Bool) → Writes version texts (same bool_value) (truth b) [] (a_value.Bool b)
bool_form_spelled version texts b = kept version texts bool_value _ (a_value.Bool b) (moved (append-nil (truth b)) (more b tt (done (a_value.Bool b))))

pub text_form_spelled : (version : Version) (texts : Words) → IsPool version texts → (t : List ℕ) → Fits Text t
    → Writes version texts (text_value version texts) (pooled_bytes version texts t) (alone t) (a_value.Text t)
text_form_spelled version texts pool t h = lastly version texts (text version texts) a_value.Text _ (alone t) t (text_spelled version texts t pool h)

module _ (version : Version) (texts : Words) (pool : IsPool version texts) where
  literal_at : (x : Value-F Value) → primitive_form x → Writes version texts (value version texts) (literal_form version texts x) (form_texts x) (roll-Value x)
  unfolding value
  literal_at (Value-F.Int z) h = subst (λ w. Writes version texts (value version texts) (literal_form version texts (Value-F.Int z)) [] w) (sym (a_value.rolls-Int z))
      (below version texts (value_forms version texts) 1 _ [] (a_value.Int z) refl (omega arith) (int_form_spelled version texts z h))
  literal_at (Value-F.Bool b) h = subst (λ w. Writes version texts (value version texts) (literal_form version texts (Value-F.Bool b)) [] w) (sym (a_value.rolls-Bool b))
      (below version texts (value_forms version texts) 2 _ [] (a_value.Bool b) refl (omega arith) (bool_form_spelled version texts b))
  literal_at (Value-F.Text t) h = subst (λ w. Writes version texts (value version texts) (literal_form version texts (Value-F.Text t)) (alone t) w) (sym (a_value.rolls-Text t))
      (below version texts (value_forms version texts) 3 _ (alone t) (a_value.Text t) refl (omega arith) (text_form_spelled version texts pool t h))
  literal_at Value-F.Unit h = absurd h
  literal_at (Value-F.List vs) h = absurd h
  literal_at (Value-F.Ref n) h = absurd h
  literal_at (Value-F.Remote n) h = absurd h
  literal_at (Value-F.Rows vs) h = absurd h

  pub literal_spelled : (v : Value) → IsPrimitive v → Writes version texts (value version texts) (literal_bytes version texts v) (literal_texts v) v
  literal_spelled v h = subst (λ w. Writes version texts (value version texts) (literal_bytes version texts v) (literal_texts v) w) (roll-out-Value v) (literal_at (out-Value v) h)
