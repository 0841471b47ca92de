-- How runs follow one another.
use Rattle.std.proofs.Common.{◌≡◌, inl, inr, refl, sym, ap, ◌∙◌, subst, ℕ, ◌≤◌, arith}
use Rattle.std.specs.Prelude.{Result, Ok, Err}
use mathlib.Core.Path.{fun_ext}
use Rattle.rb_trees.specs.declared.outcomes.Raised.{Raised}
use Rattle.rb_meaning_code.specs.State.{Local}
use Rattle.rb_meaning_code.specs.Dialogue.{Outcome, Gave, Faulted, Dialogue, Done, Ask, AskBatch, Run, Surroundings, Follows, seq, on, next}
use Rattle.rb_engine.specs.declared.ends.End.{End}
use Rattle.rb_engine.specs.declared.ends.End.TheVariants.{NoMemory, Stopped}
use Rattle.rb_engine.specs.declared.ends.End.TheVariants as ends
use Rattle.rb_engine.specs.Meets.{Scene, Led, Meets}

-- a run that is done goes on with what follows
seq_done : {W X A B : Type 0} (R : Surroundings W X) (d : Dialogue A) (k : A → Dialogue B) (a : A) (r : Result B X) (w w1 w2 : W)
    → Follows R d w (Ok a) w1 → Follows R (k a) w1 r w2 → Follows R (seq d k) w r w2
seq_done R (Done b) k a r w w1 w2 h more =
    let e : a ≡ b = cc (h.0) in
    subst (λ v. Follows R (k b) v r w2) h.1 (subst (λ c. Follows R (k c) w1 r w2) e more)
seq_done R (Ask q go) k a r w w1 w2 (inl (b, mid, e, h)) more = inl (b, mid, e, seq_done R (go b) k a r mid w1 w2 h more)
seq_done R (Ask q go) k a r w w1 w2 (inr (x, e, h)) more = absurd (cc h)
seq_done R (AskBatch at l go) k a r w w1 w2 (inl (o, mid, e, h)) more = inl (o, mid, e, seq_done R (go o) k a r mid w1 w2 h more)
seq_done R (AskBatch at l go) k a r w w1 w2 (inr (x, e, h)) more = absurd (cc h)

-- a run that the World cuts off is over
pub seq_stop : {W X A B : Type 0} (R : Surroundings W X) (d : Dialogue A) (k : A → Dialogue B) (x : X) (w w1 : W)
    → Follows R d w (Err x) w1 → Follows R (seq d k) w (Err x) w1
seq_stop R (Done b) k x w w1 h = absurd (cc (h.0))
seq_stop R (Ask q go) k x w w1 (inl (b, mid, e, h)) = inl (b, mid, e, seq_stop R (go b) k x mid w1 h)
seq_stop R (Ask q go) k x w w1 (inr (y, e, h)) = inr (y, e, cc h)
seq_stop R (AskBatch at l go) k x w w1 (inl (o, mid, e, h)) = inl (o, mid, e, seq_stop R (go o) k x mid w1 h)
seq_stop R (AskBatch at l go) k x w w1 (inr (y, e, h)) = inr (y, e, cc h)

-- what leads on from the outcome of a run leads on from the run
pub after_outcome : {W X A B : Type 0} (R : Surroundings W X) (d : Run A) (k : Outcome A → Run B) (o : Outcome A) (l2 : Local) (r : Result B (End X)) (w w1 w2 : W)
    → Follows R d w (Ok o) w1 → Led R (k o) w1 l2 r w2 → Led R (seq d k) w l2 r w2
after_outcome R d k o l2 (Ok b) w w1 w2 h more = seq_done R d k o _ w w1 w2 h more
after_outcome R d k o l2 (Err (ends.Raised f)) w w1 w2 h more = seq_done R d k o _ w w1 w2 h more
after_outcome R d k o l2 (Err NoMemory) w w1 w2 h more = tt
after_outcome R d k o l2 (Err (Stopped x)) w w1 w2 h more = seq_done R d k o _ w w1 w2 h more

cut_led : {W X A B : Type 0} (R : Surroundings W X) (d : Run A) (k : A → Local → Run B) (h : End X) (l1 : Local) (w w1 : W)
    → Led R d w l1 (Err h) w1 → Led R (next d k) w l1 (Err h) w1
cut_led R d k (ends.Raised f) l1 w w1 o = seq_done R d (on k) (Faulted f l1) _ w w1 w1 o (refl, refl)
cut_led R d k NoMemory l1 w w1 o = tt
cut_led R d k (Stopped x) l1 w w1 o = seq_stop R d (on k) x w w1 o

seq_seq : {A B D : Type 0} (d : Dialogue A) (f : A → Dialogue B) (k : B → Dialogue D) → seq (seq d f) k ≡ seq d (λ a. seq (f a) k)
seq_seq (Done a) f k = refl
seq_seq (Ask q go) f k = ap (Ask q) (fun_ext (λ a. seq_seq (go a) f k))
seq_seq (AskBatch at l go) f k = ap (AskBatch at l) (fun_ext (λ o. seq_seq (go o) f k))

on_next : {A B D : Type 0} (f : A → Local → Run B) (k : B → Local → Run D) (o : Outcome A) → seq (on f o) (on k) ≡ on (λ a l. next (f a l) k) o
on_next f k (Gave a l) = refl
on_next f k (Faulted r l) = refl

-- What goes on twice goes on by both together.
pub next_next : {A B D : Type 0} (d : Run A) (f : A → Local → Run B) (k : B → Local → Run D) → next (next d f) k ≡ next d (λ a l. next (f a l) k)
next_next d f k = seq_seq d (on f) (on k) ∙ ap (seq d) (fun_ext (on_next f k))

-- a run that gave a value goes on
pub gave : {W X A B : Type 0} {R : Surroundings W X} {f : ℕ → Run A} {s s1 s2 : Scene W} {a : A} {t : Result A (End X)} {r : Result B (End X)} (k : ℕ → A → Local → Run B)
    → Meets R f s t s1 → t ≡ Ok a → Meets R (λ gas. k gas a s1.local) s1 r s2 → Meets R (λ gas. next (f gas) (k gas)) s r s2
gave {R = R} {f = f} {s = s} {s1 = s1} {s2 = s2} {a = a} {t = t} {r = r} k m e n = record {
  fuel = let x = m.fuel in let y = n.fuel in omega arith;
  depth = n.depth ∙ m.depth;
  led = λ gas le.
      let x = m.fuel in
      let le1 : s1.local.fuel ≤ gas = omega arith in
      after_outcome R (f gas) (on (k gas)) (Gave a s1.local) s2.local r s.world s1.world s2.world
      (subst (λ v. Led R (f gas) s.world s1.local v s1.world) e (m.led gas le)) (n.led gas le1);
}

-- a run that ended early is over
pub cut : {W X A B : Type 0} {R : Surroundings W X} {f : ℕ → Run A} {s s1 : Scene W} {h : End X} {t : Result A (End X)} {r : Result B (End X)} (k : ℕ → A → Local → Run B)
    → Meets R f s t s1 → t ≡ Err h → r ≡ Err h → Meets R (λ gas. next (f gas) (k gas)) s r s1
cut {R = R} {f = f} {s = s} {s1 = s1} {h = h} k m e e2 = record {
  fuel = m.fuel;
  depth = m.depth;
  led = λ gas le.
      subst (λ v. Led R (next (f gas) (k gas)) s.world s1.local v s1.world) (sym e2)
      (cut_led R (f gas) (k gas) h s1.local s.world s1.world (subst (λ v. Led R (f gas) s.world s1.local v s1.world) e (m.led gas le)));
}

-- what follows a run, by how it ended
pub sequel : {W X A B : Type 0} {R : Surroundings W X} {f : ℕ → Run A} {s s1 s2 : Scene W} {a : A} {t : Result A (End X)} {r : Result B (End X)} (k : ℕ → Outcome A → Run B)
    → Meets R f s t s1 → t ≡ Ok a → Meets R (λ gas. k gas (Gave a s1.local)) s1 r s2 → Meets R (λ gas. seq (f gas) (k gas)) s r s2
sequel {R = R} {f = f} {s = s} {s1 = s1} {s2 = s2} {a = a} {r = r} k m e n = record {
  fuel = let x = m.fuel in let y = n.fuel in omega arith;
  depth = n.depth ∙ m.depth;
  led = λ gas le.
      let x = m.fuel in
      let le1 : s1.local.fuel ≤ gas = omega arith in
      after_outcome R (f gas) (k gas) (Gave a s1.local) s2.local r s.world s1.world s2.world
      (subst (λ v. Led R (f gas) s.world s1.local v s1.world) e (m.led gas le)) (n.led gas le1);
}

pub sequel_of_fault : {W X A B : Type 0} {R : Surroundings W X} {f : ℕ → Run A} {s s1 s2 : Scene W} {fault : Raised} {t : Result A (End X)} {r : Result B (End X)} (k : ℕ → Outcome A → Run B)
    → Meets R f s t s1 → t ≡ Err (ends.Raised fault) → Meets R (λ gas. k gas (Faulted fault s1.local)) s1 r s2 → Meets R (λ gas. seq (f gas) (k gas)) s r s2
sequel_of_fault {R = R} {f = f} {s = s} {s1 = s1} {s2 = s2} {fault = fault} {r = r} k m e n = record {
  fuel = let x = m.fuel in let y = n.fuel in omega arith;
  depth = n.depth ∙ m.depth;
  led = λ gas le.
      let x = m.fuel in
      let le1 : s1.local.fuel ≤ gas = omega arith in
      after_outcome R (f gas) (k gas) (Faulted fault s1.local) s2.local r s.world s1.world s2.world
      (subst (λ v. Led R (f gas) s.world s1.local v s1.world) e (m.led gas le)) (n.led gas le1);
}

pub sequel_of_stop : {W X A B : Type 0} {R : Surroundings W X} {f : ℕ → Run A} {s s1 : Scene W} {x : X} {t : Result A (End X)} (k : ℕ → Outcome A → Run B)
    → Meets R f s t s1 → t ≡ Err (Stopped x) → Meets {A = B} R (λ gas. seq (f gas) (k gas)) s (Err (Stopped x)) s1
sequel_of_stop {R = R} {f = f} {s = s} {s1 = s1} {x = x} k m e = record {
  fuel = m.fuel;
  depth = m.depth;
  led = λ gas le. seq_stop R (f gas) (k gas) x s.world s1.world (subst (λ v. Led R (f gas) s.world s1.local v s1.world) e (m.led gas le));
}

-- the same run
pub at_run : {W X A : Type 0} {R : Surroundings W X} {f g : ℕ → Run A} {s s1 : Scene W} {r : Result A (End X)}
    → ((gas : ℕ) → f gas ≡ g gas) → Meets R g s r s1 → Meets R f s r s1
at_run {R = R} {s = s} {s1 = s1} {r = r} e m = record {
  fuel = m.fuel;
  depth = m.depth;
  led = λ gas le. subst (λ d. Led R d s.world s1.local r s1.world) (sym (e gas)) (m.led gas le);
}

-- the same result
pub by_result : {W X A : Type 0} {R : Surroundings W X} {f : ℕ → Run A} {s s1 : Scene W} {r r' : Result A (End X)} → r ≡ r' → Meets R f s r' s1 → Meets R f s r s1
by_result {R = R} {f = f} {s = s} {s1 = s1} e m = subst (λ v. Meets R f s v s1) (sym e) m

-- a run that ends where it stands
pub ended : {W X A : Type 0} {R : Surroundings W X} {s : Scene W} (a : A) → Meets {X = X} R (λ gas. Done (Gave a s.local)) s (Ok a) s
ended a = record { fuel = omega arith; depth = refl; led = λ gas le. (refl, refl) }

pub stands : {W X A : Type 0} {R : Surroundings W X} {s : Scene W} (f : Raised) → Meets {W = W} {X = X} {A = A} R (λ gas. Done (Faulted f s.local)) s (Err (ends.Raised f)) s
stands f = record { fuel = omega arith; depth = refl; led = λ gas le. (refl, refl) }

-- want of memory says nothing of the run
pub no_memory : {W X A : Type 0} {R : Surroundings W X} {s s1 : Scene W} (f : ℕ → Run A) → s1.local.fuel ≤ s.local.fuel → s1.local.depth ≡ s.local.depth
    → Meets {X = X} R f s (Err NoMemory) s1
no_memory f fuel depth = record { fuel = fuel; depth = depth; led = λ gas le. tt }

-- a run whose outcome is passed on with another local state
pub through_led : {W X A : Type 0} (R : Surroundings W X) (d : Run A) (k : Outcome A → Run A) (g : Local → Local) (l : Local) (r : Result A (End X)) (w w1 : W)
    → ((a : A) → k (Gave a l) ≡ Done (Gave a (g l))) → ((f : Raised) → k (Faulted f l) ≡ Done (Faulted f (g l)))
    → Led R d w l r w1 → Led R (seq d k) w (g l) r w1
through_led R d k g l (Ok a) w w1 values faults h =
    after_outcome R d k (Gave a l) (g l) (Ok a) w w1 w1 h (subst (λ e. Led R e w1 (g l) (Ok a) w1) (sym (values a)) (refl, refl))
through_led R d k g l (Err (ends.Raised f)) w w1 values faults h =
    after_outcome R d k (Faulted f l) (g l) (Err (ends.Raised f)) w w1 w1 h (subst (λ e. Led R e w1 (g l) (Err (ends.Raised f)) w1) (sym (faults f)) (refl, refl))
through_led R d k g l (Err NoMemory) w w1 values faults h = tt
through_led R d k g l (Err (Stopped x)) w w1 values faults h = seq_stop R d k x w w1 h

-- the same run within one gas, as a run within any
pub fixed : {W X A : Type 0} {R : Surroundings W X} {f : ℕ → Run A} {s s1 : Scene W} {r : Result A (End X)} (gas : ℕ) → s.local.fuel ≤ gas → Meets R f s r s1 → Meets R (λ any. f gas) s r s1
fixed gas le m = record { fuel = m.fuel; depth = m.depth; led = λ any any_le. m.led gas le }

pub unfixed : {W X A : Type 0} {R : Surroundings W X} {f : ℕ → Run A} {s s1 : Scene W} {r : Result A (End X)} → ((gas : ℕ) → s.local.fuel ≤ gas → Meets R (λ any. f gas) s r s1) → Meets R f s r s1
unfixed {s = s} m =
    let reflexive : s.local.fuel ≤ s.local.fuel = omega arith in
    record { fuel = (m s.local.fuel reflexive).fuel; depth = (m s.local.fuel reflexive).depth; led = λ gas le. (m gas le).led gas le }

-- Whatever ends the second run ends the first, with the result as `f` sees it.
pub record LeadsOn {W X A B : Type 0} (R : Surroundings W X) (first : ℕ → Run A) (s : Scene W) (second : ℕ → Run B) (s1 : Scene W) (f : Result B (End X) → Result A (End X)) : Type 0 where
  pub by : (r : Result B (End X)) (s2 : Scene W) → Meets R second s1 r s2 → Meets R first s (f r) s2
