-- How replies follow one another, where the code gets them one by one.
use Rattle.std.proofs.Common.{◌≡◌, inl, inr, refl, sym, ap, ◌∙◌, subst, ℕ}
use Rattle.std.specs.Prelude.{Result, Ok, Err, MatchResult}
use Rattle.rb_trees.specs.Outcome.{Gives}
use Rattle.rb_trees.specs.declared.values.Fault.{Fault}
use Rattle.rb_engine.specs.Ends.{fault_of}
use Rattle.rb_engine.specs.Misses.{AtPlace, Means, MissesBy}
use Rattle.rb_engine.specs.declared.ends.Failure.{Failure}
use Rattle.rb_engine.specs.declared.ends.Failure.TheVariants as failure
use Rattle.rb_engine.specs.declared.misses.Miss.{Miss}
use Rattle.rb_engine.specs.declared.misses.Miss.TheVariants as miss
use Rattle.rb_meaning_code.specs.Remote.{Server, Reply, Got, Stopped, and_then, replies}
use Rattle.rb_plain.specs.Remote.{Ended, SameStage, Unstarved}
use Rattle.rb_plain.specs.declared.remote_world.RemoteWorld.{RemoteWorld}

-- what holds unless memory ran out

pub unstarved : {A : Type 0} (r : Result A Miss) (P : Type 0) → P → Unstarved r P
unstarved (Ok a) P p = p
unstarved (Err (miss.Fault at f)) P p = p
unstarved (Err miss.Memory) P p = tt

pub unstarved_so : {A : Type 0} (r : Result A Miss) (P Q : Type 0) → (P → Q) → Unstarved r P → Unstarved r Q
unstarved_so (Ok a) P Q f p = f p
unstarved_so (Err (miss.Fault at x)) P Q f p = f p
unstarved_so (Err miss.Memory) P Q f p = tt

pub unstarved_ok : {A : Type 0} (r : Result A Miss) (a : A) (P : Type 0) → r ≡ Ok a → Unstarved r P → P
unstarved_ok r a P e p = subst (λ x. Unstarved x P) e p

-- of one error for results of two kinds

abbrev missed_as : (A : Type 0) → Miss → Result A Miss
missed_as A h = Err h

miss_so : (A B : Type 0) (h : Miss) (P Q : Type 0) → (P → Q) → Unstarved (missed_as A h) P → Unstarved (missed_as B h) Q
miss_so A B (miss.Fault at x) P Q f p = f p
miss_so A B miss.Memory P Q f p = tt

pub unstarved_err : {A : Type 0} (B : Type 0) (r : Result A Miss) (h : Miss) (P Q : Type 0) → (P → Q) → r ≡ Err h → Unstarved r P → Unstarved (missed_as B h) Q
unstarved_err {A = A} B r h P Q f e p = miss_so A B h P Q f (subst (λ x. Unstarved x P) e p)

-- replies

pub by_result : {A : Type 0} {m : Reply A} {r r1 : Result A Miss} {w w1 : RemoteWorld} → r ≡ r1 → Ended m r1 w w1 → Ended m r w w1
by_result {m = m} {w = w} {w1 = w1} e h = subst (λ x. Ended m x w w1) (sym e) h

pub as_reply : {A : Type 0} {m m1 : Reply A} {r : Result A Miss} {w w1 : RemoteWorld} → m ≡ m1 → Ended m1 r w w1 → Ended m r w w1
as_reply {r = r} {w = w} {w1 = w1} e h = subst (λ x. Ended x r w w1) (sym e) h

-- what a reply is that gave a value
pub got : {A : Type 0} {m : Reply A} {t : Result A Miss} {w w1 : RemoteWorld} {a : A} → Ended m t w w1 → t ≡ Ok a → m ≡ Got a w1.server
got {m = m} {w1 = w1} h is = subst (λ x. Means m x w1.server) is h.means

pub same_by : {A : Type 0} {m : Reply A} {t : Result A Miss} {w w1 : RemoteWorld} {a : A} → Ended m t w w1 → t ≡ Ok a → SameStage w w1
same_by {t = t} {w = w} {w1 = w1} {a = a} h is = unstarved_ok t a (SameStage w w1) is h.stage_so

pub given : {A : Type 0} {m : Reply A} {a : A} {w w1 : RemoteWorld} → m ≡ Got a w1.server → SameStage w w1 → Ended m (Ok a) w w1
given e same = record { means = e; stage_so = same }

-- what is performed from a later world on
pub from_later : {A : Type 0} {m : Reply A} {r : Result A Miss} {w w1 w2 : RemoteWorld} → SameStage w w1 → Ended m r w1 w2 → Ended m r w w2
from_later {r = r} {w = w} {w1 = w1} {w2 = w2} same h = record { means = h.means; stage_so = unstarved_so r (SameStage w1 w2) (SameStage w w2) (λ x. x ∙ same) h.stage_so }

-- for want of memory nothing is said
pub starved : {A : Type 0} {m : Reply A} {r : Result A Miss} {h : Miss} {w w1 : RemoteWorld} → r ≡ Err h → h ≡ miss.Memory → Ended m r w w1
starved is e = by_result (is ∙ ap Err e) (record { means = tt; stage_so = tt })

-- a reply gave a value, and the next one follows
pub went : {A B : Type 0} {m : Reply A} {t : Result A Miss} {w w1 w2 : RemoteWorld} {a : A} {r : Result B Miss} (k : A → Server → Reply B)
    → Ended m t w w1 → t ≡ Ok a → Ended (k a w1.server) r w1 w2 → Ended (and_then m k) r w w2
went {w = w} {w1 = w1} {w2 = w2} {r = r} k h is n = as_reply (ap (λ x. and_then x k) (got h is)) (record {
  means = n.means;
  stage_so = unstarved_so r (SameStage w1 w2) (SameStage w w2) (λ e. e ∙ same_by h is) n.stage_so;
})

missed_by : {A B : Type 0} (h : Miss) (m : Reply A) (s : Server) (k : A → Server → Reply B) → Means m (Err h) s → Means (and_then m k) (Err h) s
missed_by (miss.Fault at f) m s k e = ap (λ x. and_then x k) e
missed_by miss.Memory m s k e = tt

-- a reply gave none, and nothing follows
pub missed : {A B : Type 0} {m : Reply A} {t : Result A Miss} {w w1 : RemoteWorld} {h : Miss} {r : Result B Miss} (k : A → Server → Reply B)
    → Ended m t w w1 → t ≡ Err h → r ≡ Err h → Ended (and_then m k) r w w1
missed {B = B} {m = m} {t = t} {w = w} {w1 = w1} {h = h} k f is e = by_result e (record {
  means = missed_by h m w1.server k (subst (λ x. Means m x w1.server) is f.means);
  stage_so = unstarved_err B t h (SameStage w w1) (SameStage w w1) (λ x. x) is f.stage_so;
})

-- a fault at a position, unless its room is wanting
pub missed_by_fault : {A : Type 0} {w w1 : RemoteWorld} {m : Reply A} (at : ℕ) (f : Fault) (h : Miss) → MissesBy at f h → Ended m (Err (miss.Fault at f)) w w1 → Ended m (Err h) w w1
missed_by_fault at f h (inl is) d = by_result (ap Err is) d
missed_by_fault at f h (inr is) d = by_result (ap Err is) (record { means = tt; stage_so = tt })

missed_at : {A : Type 0} {w w1 : RemoteWorld} {m : Reply A} (at : ℕ) (f : Fault) (t : Result A Miss) → MatchResult t (λ a. ⊥) (MissesBy at f) → m ≡ Stopped at f w1.server → SameStage w w1 → Ended m t w w1
missed_at at f (Ok a) is e same = absurd is
missed_at at f (Err h) is e same = missed_by_fault at f h is (record { means = e; stage_so = same })

-- what a rule gives at a position
pub ruled : {A : Type 0} {t : Result A Miss} {w : RemoteWorld} (at : ℕ) (o : Result A Failure) (d : Result A Fault) → Gives (λ a. a) fault_of o d → AtPlace at o t → Ended (replies at d w.server) t w w
ruled {w = w} at (Ok a) d g is = by_result is (record { means = ap (λ x. replies at x w.server) g; stage_so = refl })
ruled {t = t} {w = w} at (Err (failure.Fault f)) d g is = missed_at at f t is (ap (λ x. replies at x w.server) g) refl
ruled at (Err failure.Memory) d g is = by_result is (record { means = tt; stage_so = tt })

pub two_in_row : {B C D : Type 0} (m : Reply B) (l : B → Server → Reply C) (j : C → Server → Reply D) → and_then m (λ b s1. and_then (l b s1) j) ≡ and_then (and_then m l) j
two_in_row (Got b s) l j = refl
two_in_row (Stopped at f s) l j = refl

-- three replies in a row, as two and then one
pub in_row : {A B C D : Type 0} (m : Reply A) (k : A → Server → Reply B) (l : B → Server → Reply C) (j : C → Server → Reply D)
    → and_then m (λ a s. and_then (k a s) (λ b s1. and_then (l b s1) j)) ≡ and_then (and_then m (λ a s. and_then (k a s) l)) j
in_row (Got a s) k l j = two_in_row (k a s) l j
in_row (Stopped at f s) k l j = refl
