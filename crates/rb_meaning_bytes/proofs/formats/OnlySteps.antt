-- What a step or a block is spelled by is its bytes, it is formed, and its texts are those that were used.
use Rattle.std.proofs.Common.{◌≡◌, ℕ, zero, suc, ◌<◌, ◌^◌, Bool, List, [], ◌∷◌, ◌++◌, refl, ap, sym, subst, append_assoc}
use Rattle.rb_trees.specs.declared.versions.Version.{Version}
use Rattle.rb_trees.specs.declared.versions.Version.TheVariants.{One, Two}
use Rattle.rb_trees.specs.mirror.Scripts as tree
use Rattle.rb_trees.specs.mirror.Scripts.{SExpr, Step, Steps, steps_from}
use Rattle.rb_meaning_bytes.specs.formats.Fields.{Byte, Truth, truth}
use Rattle.rb_meaning_bytes.specs.formats.Formats.{the}
use Rattle.rb_meaning_bytes.specs.formats.Staged.{Staged, times}
use Rattle.rb_meaning_bytes.specs.formats.Values.{natural}
use Rattle.rb_meaning_bytes.specs.formats.Scripts.{whole_expr, list_steps, step, step_forms, block}
use Rattle.rb_meaning_bytes.specs.formats.ScriptBytes.{natural_bytes, expr_bytes, expr_texts, step_bytes, step_texts, steps_bytes, steps_texts, block_bytes, count_steps}
use Rattle.rb_meaning_bytes.specs.formats.FormedScripts.{FormedStep, FormedSteps, StepWithin, StepsWithin, BlockWithin, HasNoOver, HaveNoOver}
use Rattle.rb_meaning_bytes.proofs.formats.Only.{Only, only_done, only_more}
use Rattle.rb_meaning_bytes.proofs.formats.Values.{natural_only}
use Rattle.rb_meaning_bytes.proofs.formats.StagedOnly.{StagedOnly, EachStaged, staged_give, staged_bind, staged_same, staged_deeper, staged_choose, staged_times}
use Rattle.rb_meaning_bytes.proofs.formats.PooledTexts.{IsPool}
use Rattle.rb_meaning_bytes.proofs.formats.OnlyExprs.{any, is_number, one_byte, byte_only, Whole, whole_only}
use Rattle.rb_meaning_bytes.proofs.formats.PoolLaws.{Words}

truth_only : Only (the Truth) [] truth any
truth_only = only_more truth any Truth _ [] (λ b h. only_done _ _ b _ refl tt)

-- Version 1 has no Over.
abbrev pub StepSuits : Version → Step → Type 0
StepSuits One s = HasNoOver s
StepSuits Two s = Unit {0}

abbrev pub BlockSuits : Version → Steps → Type 0
BlockSuits One ss = HaveNoOver ss
BlockSuits Two ss = Unit {0}

suits : (version : Version) (s : Step) → HasNoOver s → StepSuits version s
suits One s h = h
suits Two s h = tt

suits_if : (version : Version) (id at : ℕ) (e : SExpr) (a b : Steps) → BlockSuits version a → BlockSuits version b → StepSuits version (tree.If id at e a b)
suits_if One id at e a b h k = (h, k)
suits_if Two id at e a b h k = tt

suits_each : (version : Version) (id at var : ℕ) (keep : Bool) (e : SExpr) (a : Steps) → BlockSuits version a → StepSuits version (tree.Each id at var keep e a)
suits_each One id at var keep e a h = h
suits_each Two id at var keep e a h = tt

suits_none : (version : Version) → BlockSuits version tree.NoSteps
suits_none One = tt
suits_none Two = tt

suits_more : (version : Version) (s : Step) (ss : Steps) → StepSuits version s → BlockSuits version ss → BlockSuits version (tree.MoreSteps s ss)
suits_more One s ss h k = (h, k)
suits_more Two s ss h k = tt

-- and back
pub if_suits : (version : Version) (id at : ℕ) (e : SExpr) (a b : Steps) → StepSuits version (tree.If id at e a b) → BlockSuits version a × BlockSuits version b
if_suits One id at e a b h = h
if_suits Two id at e a b h = (tt, tt)

pub each_suits : (version : Version) (id at var : ℕ) (keep : Bool) (e : SExpr) (a : Steps) → StepSuits version (tree.Each id at var keep e a) → BlockSuits version a
each_suits One id at var keep e a h = h
each_suits Two id at var keep e a h = tt

pub more_suits : (version : Version) (s : Step) (ss : Steps) → BlockSuits version (tree.MoreSteps s ss) → StepSuits version s × BlockSuits version ss
more_suits One s ss h = h
more_suits Two s ss h = (tt, tt)

pub over_suits : (version : Version) (id at var i : ℕ) (a : Steps) → StepSuits version (tree.Over id at var i a) → BlockSuits version a
over_suits One id at var i a h = absurd h
over_suits Two id at var i a h = tt

abbrev listed_texts : List Step → Words
listed_texts ss = steps_texts (steps_from ss)

regroup_if : (a b c d e f g : List ℕ) → (((a ++ b) ++ c) ++ (d ++ e)) ++ (f ++ g) ≡ a ++ b ++ c ++ d ++ e ++ f ++ g
regroup_if a b c d e f g = simp append_assoc

regroup_each : (a b c d e f g : List ℕ) → ((((a ++ b) ++ c) ++ d) ++ e) ++ (f ++ g) ≡ a ++ b ++ c ++ d ++ e ++ f ++ g
regroup_each a b c d e f g = simp append_assoc

regroup_over : (a b c d e : List ℕ) (n : ℕ) → (((a ++ b) ++ c) ++ n ∷ []) ++ (d ++ e) ≡ a ++ b ++ c ++ (n ∷ d) ++ e
regroup_over a b c d e n = simp append_assoc

abbrev FineStep : Version → ℕ → Step → Type 0
FineStep version n s = FormedStep s × StepWithin n s × StepSuits version s

-- a block within which so many may be, itself among them
abbrev pub FineBlock : Version → ℕ → Steps → Type 0
FineBlock version n ss = (count_steps ss < 2 ^ 32) × FormedSteps ss × BlockWithin n ss × BlockSuits version ss

abbrev steps_formed : Version → ℕ → ℕ → List Step → Type 0
steps_formed version n count ss = (count_steps (steps_from ss) ≡ count) × FormedSteps (steps_from ss) × StepsWithin n (steps_from ss) × BlockSuits version (steps_from ss)

-- what steps with blocks need of blocks that are good
record FitsSteps (version : Version) (n : ℕ) (good : Steps → Type 0) : Type 0 where
  if_fits : (id at : ℕ) (e : SExpr) (a b : Steps) → id < 2 ^ 32 → at < 2 ^ 32 → Whole e → good a → good b → FineStep version n (tree.If id at e a b)
  each_fits : (id at var : ℕ) (keep : Bool) (e : SExpr) (a : Steps) → id < 2 ^ 32 → at < 2 ^ 32 → var < 2 ^ 32 → Whole e → good a → FineStep version n (tree.Each id at var keep e a)
  over_fits : (id at var i : ℕ) (a : Steps) → version ≡ Two → id < 2 ^ 32 → at < 2 ^ 32 → var < 2 ^ 32 → i < 256 → good a → FineStep version n (tree.Over id at var i a)

-- what is spelled by the bytes of blocks that are good
abbrev OnlyBlock : (version : Version) (texts : Words) → Staged Steps → (Steps → Type 0) → Type 0
OnlyBlock version texts F good = StagedOnly version texts F [] [] (λ ss. block_bytes version texts ss) (λ ss. steps_texts ss) good

over_only : (version : Version) (texts : Words) (n : ℕ) (F : Staged Steps) (good : Steps → Type 0) → OnlyBlock version texts F good → FitsSteps version n good
    → EachStaged version texts (λ s. step_bytes version texts s) (λ s. step_texts s) (FineStep version n) (list_steps version texts version F)
over_only One texts n F good one fits = tt
over_only Two texts n F good one fits =
    let p : Step → List ℕ = λ x. step_bytes Two texts x in
    let ws : Step → Words = λ x. step_texts x in
    let ok : Step → Type 0 = λ x. FineStep Two n x in
    let number : ℕ → List ℕ = λ i. natural_bytes Two i in (
      staged_same Two texts p ws ok (natural Two) _ _ _ number is_number (natural_only Two) (λ id i.
          staged_same Two texts p ws ok (natural Two) _ _ _ number is_number (natural_only Two) (λ at j.
          staged_same Two texts p ws ok (natural Two) _ _ _ number is_number (natural_only Two) (λ var v.
          staged_same Two texts p ws ok (the Byte) _ _ _ one_byte (λ m. m < 256) byte_only (λ m b.
          staged_bind Two texts p ws ok F _ _ _ (λ ss. block_bytes Two texts ss) (λ ss. steps_texts ss) good one (λ a f.
          staged_give Two texts p ws ok (tree.Over id at var m a) _ _ (ap (λ l. 0x15 ∷ l) (regroup_over (number id) (number at) (number var) (number (count_steps a)) (steps_bytes Two texts a) m)) refl
          (fits.over_fits id at var m a refl i j v b f)))))),
      tt,
    )

module _ (version : Version) (texts : Words) (pool : IsPool version texts) where
  abbrev numbered : ℕ → List ℕ
  numbered n = natural_bytes version n

  abbrev expr_of : SExpr → List ℕ
  expr_of e = expr_bytes version texts e

  abbrev bytes_of : Step → List ℕ
  bytes_of s = step_bytes version texts s

  abbrev block_of : Steps → List ℕ
  block_of ss = block_bytes version texts ss

  abbrev all_bytes : Steps → List ℕ
  all_bytes ss = steps_bytes version texts ss

  abbrev listed_bytes : List Step → List ℕ
  listed_bytes ss = steps_bytes version texts (steps_from ss)

  block_from : (n : ℕ) → StagedOnly version texts (step version texts (block version texts n)) [] [] bytes_of (λ s. step_texts s) (FineStep version n)
      → OnlyBlock version texts (block version texts (suc n)) (FineBlock version (suc n))
  unfolding block
  block_from n one =
      let p : Steps → List ℕ = λ ss. block_of ss in
      let ws : Steps → Words = λ ss. steps_texts ss in
      let ok : Steps → Type 0 = λ ss. FineBlock version (suc n) ss in
      staged_same version texts p ws ok (natural version) _ _ _ numbered is_number (natural_only version) (λ count c.
      staged_bind version texts p ws ok (times count (step version texts (block version texts n))) _ _ _ listed_bytes listed_texts (steps_formed version n count)
      (staged_times version texts (step version texts (block version texts n)) bytes_of (λ s. step_texts s) (FineStep version n) listed_bytes listed_texts (steps_formed version n) refl refl (λ x xs. refl) (λ x xs. refl)
      (refl, tt, tt, suits_none version) (λ m x xs f l. (ap suc l.0, (f.0, l.1), (f.1, l.2), suits_more version x (steps_from xs) f.2 l.3)) one count)
      (λ ss l. staged_give version texts p ws ok (steps_from ss) _ _ (ap (λ m. numbered m ++ listed_bytes ss) (sym l.0)) refl (subst (λ m. m < 2 ^ 32) (sym l.0) c, l.1, l.2, l.3)))

  -- a step whose blocks are known
  step_from : (n : ℕ) (F : Staged Steps) (good : Steps → Type 0) → OnlyBlock version texts F good → FitsSteps version n good
      → StagedOnly version texts (step version texts F) [] [] bytes_of (λ s. step_texts s) (FineStep version n)
  unfolding step
  step_from n F good one fits =
      let p : Step → List ℕ = λ x. bytes_of x in
      let ws : Step → Words = λ x. step_texts x in
      let ok : Step → Type 0 = λ x. FineStep version n x in
      let whole = whole_only version texts pool in
      let number = natural_only version in
      staged_choose version texts p ws ok (step_forms version texts F) (
        staged_same version texts p ws ok (natural version) _ _ _ numbered is_number number (λ id i.
            staged_same version texts p ws ok (natural version) _ _ _ numbered is_number number (λ at j.
            staged_bind version texts p ws ok (whole_expr version texts) _ _ _ expr_of (λ e. expr_texts e) Whole whole (λ e k.
            staged_give version texts p ws ok (tree.Do id at e) _ _ refl refl ((i, j, k.0), k.1, suits version (tree.Do id at e) tt)))),
        (
          staged_same version texts p ws ok (natural version) _ _ _ numbered is_number number (λ id i.
              staged_same version texts p ws ok (natural version) _ _ _ numbered is_number number (λ at j.
              staged_bind version texts p ws ok (whole_expr version texts) _ _ _ expr_of (λ e. expr_texts e) Whole whole (λ e k.
              staged_give version texts p ws ok (tree.Keep id at e) _ _ refl refl ((i, j, k.0), k.1, suits version (tree.Keep id at e) tt)))),
          (
            staged_same version texts p ws ok (natural version) _ _ _ numbered is_number number (λ id i.
                staged_same version texts p ws ok (natural version) _ _ _ numbered is_number number (λ at j.
                staged_same version texts p ws ok (natural version) _ _ _ numbered is_number number (λ var v.
                staged_same version texts p ws ok (the Truth) _ _ _ truth any truth_only (λ keep u.
                staged_bind version texts p ws ok (whole_expr version texts) _ _ _ expr_of (λ e. expr_texts e) Whole whole (λ e k.
                staged_give version texts p ws ok (tree.Let id at var keep e) _ _ refl refl ((i, j, v, k.0), k.1, suits version (tree.Let id at var keep e) tt)))))),
            (
              staged_same version texts p ws ok (natural version) _ _ _ numbered is_number number (λ id i.
                  staged_same version texts p ws ok (natural version) _ _ _ numbered is_number number (λ at j.
                  staged_bind version texts p ws ok (whole_expr version texts) _ _ _ expr_of (λ e. expr_texts e) Whole whole (λ e k.
                  staged_bind version texts p ws ok F _ _ _ block_of (λ ss. steps_texts ss) good one (λ a f.
                  staged_bind version texts p ws ok F _ _ _ block_of (λ ss. steps_texts ss) good one (λ b g.
                  staged_give version texts p ws ok (tree.If id at e a b) _ _
                  (ap (λ l. 0x13 ∷ l) (regroup_if (numbered id) (numbered at) (expr_of e) (numbered (count_steps a)) (all_bytes a) (numbered (count_steps b)) (all_bytes b))) refl
                  (fits.if_fits id at e a b i j k f g)))))),
              (
                staged_same version texts p ws ok (natural version) _ _ _ numbered is_number number (λ id i.
                    staged_same version texts p ws ok (natural version) _ _ _ numbered is_number number (λ at j.
                    staged_same version texts p ws ok (natural version) _ _ _ numbered is_number number (λ var v.
                    staged_same version texts p ws ok (the Truth) _ _ _ truth any truth_only (λ keep u.
                    staged_bind version texts p ws ok (whole_expr version texts) _ _ _ expr_of (λ e. expr_texts e) Whole whole (λ e k.
                    staged_bind version texts p ws ok F _ _ _ block_of (λ ss. steps_texts ss) good one (λ a f.
                    staged_give version texts p ws ok (tree.Each id at var keep e a) _ _
                    (ap (λ l. 0x14 ∷ l) (regroup_each (numbered id) (numbered at) (numbered var) (truth keep) (expr_of e) (numbered (count_steps a)) (all_bytes a))) refl
                    (fits.each_fits id at var keep e a i j v k f))))))),
                over_only version texts n F good one fits,
              ),
            ),
          ),
        ),
      )

  none_fit : FitsSteps version 0 (FineBlock version 0)
  none_fit = record {
    if_fits = λ id at e a b i j k f g. absurd f.2;
    each_fits = λ id at var keep e a i j v k f. absurd f.2;
    over_fits = λ id at var m a two i j v b f. absurd f.2;
  }

  some_fit : (n : ℕ) → FitsSteps version (suc n) (FineBlock version (suc n))
  some_fit n = record {
    if_fits = λ id at e a b i j k f g. ((i, j, k.0, f.0, f.1, g.0, g.1), (k.1, f.2, g.2), suits_if version id at e a b f.3 g.3);
    each_fits = λ id at var keep e a i j v k f. ((i, j, v, k.0, f.0, f.1), (k.1, f.2), suits_each version id at var keep e a f.3);
    over_fits = λ id at var m a two i j v b f. ((i, j, v, b, f.0, f.1), f.2, subst (λ w. StepSuits w (tree.Over id at var m a)) (sym two) tt);
  }

  pub block_only : (n : ℕ) → StagedOnly version texts (block version texts n) [] [] (λ ss. block_bytes version texts ss) (λ ss. steps_texts ss) (FineBlock version n)
  unfolding block
  block_only zero = staged_deeper version texts block_of (λ ss. steps_texts ss) (FineBlock version 0) [] []
  block_only (suc zero) = block_from 0 (step_from 0 (block version texts 0) (FineBlock version 0) (block_only zero) none_fit)
  block_only (suc (suc n)) = block_from (suc n) (step_from (suc n) (block version texts (suc n)) (FineBlock version (suc n)) (block_only (suc n)) (some_fit n))
