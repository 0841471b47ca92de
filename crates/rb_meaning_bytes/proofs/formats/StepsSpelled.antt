-- A step or a block that is formed and within the limit spells its bytes, wherever its texts are those that are used.
use Rattle.std.proofs.Common.{◌≡◌, ℕ, zero, suc, ◌<◌, ◌^◌, Bool, List, [], ◌∷◌, ◌++◌, refl, ap, sym, subst, arith, append_assoc}
use Rattle.rb_trees.specs.declared.versions.Version.{Version}
use Rattle.rb_trees.specs.declared.versions.Version.TheVariants.{One, Two}
use Rattle.rb_trees.specs.mirror.Scripts as tree
use Rattle.rb_trees.specs.mirror.Scripts.{SExpr, Step, Steps, steps_from}
use Rattle.rb_meaning_bytes.specs.formats.Fields.{Byte, Truth, truth}
use Rattle.rb_meaning_bytes.specs.formats.Formats.{the}
use Rattle.rb_meaning_bytes.specs.formats.Staged.{Staged, ◌>>=◌, give, same, times}
use Rattle.rb_meaning_bytes.specs.formats.Values.{natural}
use Rattle.rb_meaning_bytes.specs.formats.Scripts.{whole_expr, over_step, step, step_forms, block}
use Rattle.rb_meaning_bytes.specs.formats.ScriptBytes.{natural_bytes, expr_bytes, expr_texts, step_bytes, step_texts, steps_bytes, steps_texts, block_bytes, count_steps}
use Rattle.rb_meaning_bytes.specs.formats.FormedScripts.{FormedExpr, FormedStep, FormedSteps, WholeWithin, StepWithin, StepsWithin}
use Rattle.rb_meaning_bytes.proofs.formats.Values.{the_spelled, natural_spelled}
use Rattle.rb_meaning_bytes.proofs.formats.StagedSpelled.{Writes, shifted, given, behind, behind_same, lastly, below}
use Rattle.rb_meaning_bytes.proofs.formats.PooledTexts.{IsPool}
use Rattle.rb_meaning_bytes.proofs.formats.OnlySteps.{StepSuits, BlockSuits, if_suits, each_suits, over_suits, more_suits}
use Rattle.rb_meaning_bytes.proofs.formats.ExprsSpelled.{byte_spelled, grouped_3, grouped_5, whole_spelled}
use Rattle.rb_meaning_bytes.proofs.formats.PoolLaws.{Words}

grouped_if : (a b c d e f g : List ℕ) → a ++ (b ++ (c ++ ((d ++ e) ++ (f ++ g)))) ≡ a ++ b ++ c ++ d ++ e ++ f ++ g
grouped_if a b c d e f g = simp append_assoc

grouped_each : (a b c d e f g : List ℕ) → a ++ (b ++ (c ++ (d ++ (e ++ (f ++ g))))) ≡ a ++ b ++ c ++ d ++ e ++ f ++ g
grouped_each a b c d e f g = simp append_assoc

grouped_over : (a b c d e : List ℕ) (n : ℕ) → a ++ (b ++ (c ++ (n ∷ (d ++ e)))) ≡ a ++ b ++ c ++ (n ∷ d) ++ e
grouped_over a b c d e n = simp append_assoc

grouped_texts : (a b c : Words) → a ++ (b ++ c) ≡ a ++ b ++ c
grouped_texts a b c = sym (append_assoc a b c)

-- Where an Over suits the version, its form is one of the version's.
over_below : (version : Version) (texts : Words) (F : Staged Steps) (id at var i : ℕ) (a : Steps) (bytes : List ℕ) (ws : Words) → StepSuits version (tree.Over id at var i a)
    → Writes version texts (over_step version texts F) bytes ws (tree.Over id at var i a) → Writes version texts (step version texts F) (0x15 ∷ bytes) ws (tree.Over id at var i a)
unfolding step
over_below One texts F id at var i a bytes ws h s = absurd h
over_below Two texts F id at var i a bytes ws h s = below Two texts (step_forms Two texts F) 0x15 bytes ws (tree.Over id at var i a) refl (omega arith) s

module _ (version : Version) (texts : Words) (pool : IsPool version texts) where
  abbrev numbered : ℕ → List ℕ
  numbered n = natural_bytes version n

  abbrev expr_of : SExpr → List ℕ
  expr_of e = expr_bytes version texts e

  abbrev all_bytes : Steps → List ℕ
  all_bytes ss = steps_bytes version texts ss

  abbrev block_of : Steps → List ℕ
  block_of ss = block_bytes version texts ss

  record ListedSteps (n : ℕ) (ss : Steps) : Type 0 where
    items : List Step
    is : steps_from items ≡ ss
    spells : Writes version texts (times (count_steps ss) (step version texts (block version texts n))) (all_bytes ss) (steps_texts ss) items

  block_at : (n : ℕ) (ss : Steps) → count_steps ss < 2 ^ 32 → ListedSteps n ss → Writes version texts (block version texts (suc n)) (block_of ss) (steps_texts ss) ss
  unfolding block
  block_at n ss h l =
      subst (λ x. Writes version texts (block version texts (suc n)) (block_of ss) (steps_texts ss) x) l.is
      (behind_same version texts (natural version) _ (numbered (count_steps ss)) (all_bytes ss) (steps_texts ss) (count_steps ss) _ (natural_spelled version (count_steps ss) h)
      (lastly version texts (times (count_steps ss) (step version texts (block version texts n))) steps_from (all_bytes ss) (steps_texts ss) l.items l.spells))

  -- a number, and what follows it
  numbered_then : {B : Type 0} (k : ℕ → Staged B) (n : ℕ) (bytes : List ℕ) (ws : Words) (b : B) → n < 2 ^ 32 → Writes version texts (k n) bytes ws b
      → Writes version texts (same (natural version) >>= k) (numbered n ++ bytes) ws b
  numbered_then k n bytes ws b h s = behind_same version texts (natural version) k (numbered n) bytes ws n b (natural_spelled version n h) s

  -- an expression, and what follows it
  expr_then : {B : Type 0} (k : SExpr → Staged B) (e : SExpr) (bytes : List ℕ) (ws : Words) (b : B) → FormedExpr e → WholeWithin e → Writes version texts (k e) bytes ws b
      → Writes version texts (whole_expr version texts >>= k) (expr_of e ++ bytes) (expr_texts e ++ ws) b
  expr_then k e bytes ws b h w s = behind version texts (whole_expr version texts) k (expr_of e) bytes (expr_texts e) ws e b (whole_spelled version texts pool e h w) s

  -- an expression as the last part
  expr_last : {B : Type 0} (g : SExpr → B) (e : SExpr) → FormedExpr e → WholeWithin e → Writes version texts (whole_expr version texts >>= λ x. give (g x)) (expr_of e) (expr_texts e) (g e)
  expr_last g e h w = lastly version texts (whole_expr version texts) g (expr_of e) (expr_texts e) e (whole_spelled version texts pool e h w)

  keep_then : {B : Type 0} (k : Bool → Staged B) (keep : Bool) (bytes : List ℕ) (ws : Words) (b : B) → Writes version texts (k keep) bytes ws b
      → Writes version texts (same (the Truth) >>= k) (truth keep ++ bytes) ws b
  keep_then k keep bytes ws b s = behind_same version texts (the Truth) k (truth keep) bytes ws keep b (the_spelled Truth keep tt) s

  mutual
    unfolding step times

    step_spelled : (n : ℕ) (s : Step) → FormedStep s → StepWithin n s → StepSuits version s → Writes version texts (step version texts (block version texts n)) (step_bytes version texts s) (step_texts s) s
    step_spelled n (tree.Do id at e) h w o = below version texts (step_forms version texts (block version texts n)) 0x10 _ _ (tree.Do id at e) refl (omega arith)
        (shifted version texts (grouped_3 (numbered id) (numbered at) (expr_of e)) refl
        (numbered_then _ id _ _ _ h.0 (numbered_then _ at _ _ _ h.1 (expr_last (λ x. tree.Do id at x) e h.2 w))))
    step_spelled n (tree.Keep id at e) h w o = below version texts (step_forms version texts (block version texts n)) 0x11 _ _ (tree.Keep id at e) refl (omega arith)
        (shifted version texts (grouped_3 (numbered id) (numbered at) (expr_of e)) refl
        (numbered_then _ id _ _ _ h.0 (numbered_then _ at _ _ _ h.1 (expr_last (λ x. tree.Keep id at x) e h.2 w))))
    step_spelled n (tree.Let id at var keep e) h w o = below version texts (step_forms version texts (block version texts n)) 0x12 _ _ (tree.Let id at var keep e) refl (omega arith)
        (shifted version texts (grouped_5 (numbered id) (numbered at) (numbered var) (truth keep) (expr_of e)) refl
        (numbered_then _ id _ _ _ h.0 (numbered_then _ at _ _ _ h.1 (numbered_then _ var _ _ _ h.2 (keep_then _ keep _ _ _ (expr_last (λ x. tree.Let id at var keep x) e h.3 w))))))
    step_spelled zero (tree.If id at e a b) h w o = absurd w
    step_spelled (suc n) (tree.If id at e a b) h w o =
        let s = if_suits version id at e a b o in
        below version texts (step_forms version texts (block version texts (suc n))) 0x13 _ _ (tree.If id at e a b) refl (omega arith)
        (shifted version texts (grouped_if (numbered id) (numbered at) (expr_of e) (numbered (count_steps a)) (all_bytes a) (numbered (count_steps b)) (all_bytes b)) (grouped_texts (expr_texts e) (steps_texts a) (steps_texts b))
        (numbered_then _ id _ _ _ h.0 (numbered_then _ at _ _ _ h.1
        (expr_then _ e _ _ _ h.2 w.0
        (behind version texts (block version texts (suc n)) _ (block_of a) (block_of b) (steps_texts a) (steps_texts b) a _ (block_at n a h.3 (steps_spelled n a h.4 w.1 s.0))
        (lastly version texts (block version texts (suc n)) (λ x. tree.If id at e a x) (block_of b) (steps_texts b) b (block_at n b h.5 (steps_spelled n b h.6 w.2 s.1))))))))
    step_spelled zero (tree.Each id at var keep e a) h w o = absurd w
    step_spelled (suc n) (tree.Each id at var keep e a) h w o =
        below version texts (step_forms version texts (block version texts (suc n))) 0x14 _ _ (tree.Each id at var keep e a) refl (omega arith)
        (shifted version texts (grouped_each (numbered id) (numbered at) (numbered var) (truth keep) (expr_of e) (numbered (count_steps a)) (all_bytes a)) refl
        (numbered_then _ id _ _ _ h.0 (numbered_then _ at _ _ _ h.1 (numbered_then _ var _ _ _ h.2 (keep_then _ keep _ _ _
        (expr_then _ e _ _ _ h.3 w.0
        (lastly version texts (block version texts (suc n)) (λ x. tree.Each id at var keep e x) (block_of a) (steps_texts a) a
        (block_at n a h.4 (steps_spelled n a h.5 w.1 (each_suits version id at var keep e a o))))))))))
    step_spelled zero (tree.Over id at var i a) h w o = absurd w
    step_spelled (suc n) (tree.Over id at var i a) h w o =
        over_below version texts (block version texts (suc n)) id at var i a _ _ o
        (shifted version texts (grouped_over (numbered id) (numbered at) (numbered var) (numbered (count_steps a)) (all_bytes a) i) refl
        (numbered_then _ id _ _ _ h.0 (numbered_then _ at _ _ _ h.1 (numbered_then _ var _ _ _ h.2
        (behind_same version texts (the Byte) _ (i ∷ []) (block_of a) (steps_texts a) i _ (byte_spelled i h.3)
        (lastly version texts (block version texts (suc n)) (λ x. tree.Over id at var i x) (block_of a) (steps_texts a) a
        (block_at n a h.4 (steps_spelled n a h.5 w (over_suits version id at var i a o)))))))))

    steps_spelled : (n : ℕ) (ss : Steps) → FormedSteps ss → StepsWithin n ss → BlockSuits version ss → ListedSteps n ss
    steps_spelled n tree.NoSteps h w o = record { items = []; is = refl; spells = given version texts [] }
    steps_spelled n (tree.MoreSteps s ss) h w o =
        let suited = more_suits version s ss o in
        let l = steps_spelled n ss h.1 w.1 suited.1 in
        record {
          items = s ∷ l.items;
          is = ap (tree.MoreSteps s) l.is;
          spells = behind version texts (step version texts (block version texts n)) _ (step_bytes version texts s) (all_bytes ss) (step_texts s) (steps_texts ss) s _ (step_spelled n s h.0 w.0 suited.0)
              (lastly version texts (times (count_steps ss) (step version texts (block version texts n))) (λ xs. s ∷ xs) (all_bytes ss) (steps_texts ss) l.items l.spells);
        }

  pub block_spelled : (n : ℕ) (ss : Steps) → count_steps ss < 2 ^ 32 → FormedSteps ss → StepsWithin n ss → BlockSuits version ss
      → Writes version texts (block version texts (suc n)) (block_bytes version texts ss) (steps_texts ss) ss
  block_spelled n ss h f w o = block_at n ss h (steps_spelled n ss f w o)
