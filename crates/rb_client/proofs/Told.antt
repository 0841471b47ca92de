-- A run that surroundings lead is told as a handler handles it, where they answer as it does.
use Rattle.std.proofs.Common.{◌≡◌, refl, sym, subst, inl, inr, ℕ}
use Rattle.std.specs.Prelude.{Result, Ok, Err}
use Rattle.rb_trees.specs.declared.values.Value.{Value}
use Rattle.rb_trees.specs.declared.outcomes.Raised.{Raised}
use Rattle.rb_meaning_code.specs.Dialogue.{Question, Outcome, Dialogue, Done, Ask, AskBatch, Surroundings, Follows, Handler, handle}
use Rattle.rb_meaning_code.specs.State.{Local}
use Rattle.rb_client.specs.Worlds.{View, Told}

-- The surroundings answer as the handler does, and what cuts a run off at a state does so at every later one.
pub record AnswersAs {W X S : Type 0} (v : View W S) (R : Surroundings W X) (h : Handler S) : Type 1 where
  pub questions : (w w' : W) (s : S) (q : Question) (r : Result (Result Value Raised) X) → v.sees w s → R.answers w q r w' → Told v r w' (h.answer s q)
  pub batches : (w w' : W) (s : S) (at : ℕ) (l : Local) (r : Result (Outcome (Unit {0})) X) → v.sees w s → R.performs w at l r w' → Told v r w' (h.batch s at l)
  pub later : (A : Type 0) (w : W) (s : S) (d : Dialogue A) → v.cut w s → v.cut w (handle h d s).1

-- the surroundings cut the run off
told_cut : {W X S A : Type 0} (v : View W S) (w : W) (r : Result A X) (x : X) (handled : A × S) → r ≡ Err x → v.cut w handled.1 → Told v r w handled
told_cut v w r x handled e c = subst (λ y. Told v y w handled) (sym e) c

pub told : {W X S A : Type 0} (v : View W S) (R : Surroundings W X) (h : Handler S) → AnswersAs v R h → (d : Dialogue A) (w w' : W) (s : S) (r : Result A X)
    → v.sees w s → Follows R d w r w' → Told v r w' (handle h d s)
told {A = A} v R h like (Done a) w w' s r sees f = subst (λ x. Told v x w' (a, s)) (sym f.0) (refl, subst (λ x. v.sees x s) (sym f.1) sees)
told {A = A} v R h like (Ask q go) w w' s r sees (inl (a, mid, answered, f)) =
    let t = like.questions w mid s q (Ok a) sees answered in
    told v R h like (go (h.answer s q).0) mid w' (h.answer s q).1 r t.1 (subst (λ x. Follows R (go x) mid r w') t.0 f)
told {A = A} v R h like (Ask q go) w w' s r sees (inr (x, answered, e)) =
    told_cut v w' r x (handle h (Ask q go) s) e (like.later A w' (h.answer s q).1 (go (h.answer s q).0) (like.questions w w' s q (Err x) sees answered))
told {A = A} v R h like (AskBatch at l go) w w' s r sees (inl (o, mid, performed, f)) =
    let t = like.batches w mid s at l (Ok o) sees performed in
    told v R h like (go (h.batch s at l).0) mid w' (h.batch s at l).1 r t.1 (subst (λ x. Follows R (go x) mid r w') t.0 f)
told {A = A} v R h like (AskBatch at l go) w w' s r sees (inr (x, performed, e)) =
    told_cut v w' r x (handle h (AskBatch at l go) s) e (like.later A w' (h.batch s at l).1 (go (h.batch s at l).0) (like.batches w w' s at l (Err x) sees performed))
