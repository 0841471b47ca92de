-- Runs that are alike, with what holds of what they leave.
use Rattle.std.proofs.Common.{◌≡◌, refl, ℕ, ◌≤◌, List}
use Rattle.std.specs.Prelude.{Result, Ok, Err}
use Rattle.rb_trees.specs.declared.values.Value.{Value}
use Rattle.rb_trees.specs.declared.values.Fault.{Fault}
use Rattle.rb_trees.specs.declared.outcomes.Raised.{Raised}
use Rattle.rb_trees.specs.declared.services.Object.{Object}
use Rattle.rb_meaning_code.specs.Faults.{raised, raises}
use Rattle.rb_meaning_code.specs.State.{Names, Local, spent}
use Rattle.rb_meaning_code.specs.Dialogue.{Question, Outcome, Gave, Faulted, Dialogue, Done, Ask, AskBatch, Run, seq, on, next, gives, end}
use Rattle.rb_meaning_code.specs.Calls.{entered, left}
use Rattle.rb_meaning_code.specs.Laws.{Grows, state_of}

-- Two runs ask the same, go on alike after each answer, and end by the same, of which P holds. Of a batch those ends
-- count whose local state stands in the relation to the one that the batch was lent.
pub data Alike {A : Type 0} (Keeps : Local → Local → Type 0) (P : A → Type 0) : Dialogue A → Dialogue A → Type 0 where
  ends : (a : A) → P a → Alike Keeps P (Done a) (Done a)
  asks : (q : Question) (go go' : Result Value Raised → Dialogue A) → ((a : Result Value Raised) → Alike Keeps P (go a) (go' a)) → Alike Keeps P (Ask q go) (Ask q go')
  lends : (at : ℕ) (l : Local) (go go' : Outcome (Unit {0}) → Dialogue A) → ((o : Outcome (Unit {0})) → Keeps l (state_of o) → Alike Keeps P (go o) (go' o))
      → Alike Keeps P (AskBatch at l go) (AskBatch at l go')

-- what follows runs that are alike
alike_seq : {A B : Type 0} {Keeps : Local → Local → Type 0} {P : A → Type 0} {Q : B → Type 0} {d e : Dialogue A} {k m : A → Dialogue B}
    → Alike Keeps P d e → ((a : A) → P a → Alike Keeps Q (k a) (m a)) → Alike Keeps Q (seq d k) (seq e m)
alike_seq (ends a p) f = f a p
alike_seq {k = k} {m = m} (asks q go go' h) f = asks q (λ a. seq (go a) k) (λ a. seq (go' a) m) (λ a. alike_seq (h a) f)
alike_seq {k = k} {m = m} (lends at l go go' h) f = lends at l (λ o. seq (go o) k) (λ o. seq (go' o) m) (λ o kept. alike_seq (h o kept) f)

weaker : {A : Type 0} {Keeps : Local → Local → Type 0} {P Q : A → Type 0} {d e : Dialogue A} → ((a : A) → P a → Q a) → Alike Keeps P d e → Alike Keeps Q d e
weaker f (ends a p) = ends a (f a p)
weaker f (asks q go go' h) = asks q go go' (λ a. weaker f (h a))
weaker f (lends at l go go' h) = lends at l go go' (λ o kept. weaker f (h o kept))

-- A relation between local states in which each step of code keeps what it had before to what it has then.
pub record Order (Keeps : Local → Local → Type 0) : Type 0 where
  pub same : (l : Local) → Keeps l l
  pub follows : (a b c : Local) → Keeps a b → Keeps b c → Keeps a c
  pub fuel : (before after : Local) → Keeps before after → after.fuel ≤ before.fuel
  pub names : (l : Local) (names : Names) → Keeps l (record l { names = names })
  pub heap : (l : Local) (heap : List Object) → Grows l.heap heap → Keeps l (record l { heap = heap })
  pub unit : (l : Local) → Keeps l (spent l)
  pub call : (l after : Local) (names : Names) → Keeps (entered names l) after → Keeps l (record after { names = l.names; depth = l.depth })

-- Two runs from a local state are alike, and keep it.
pub record From {A : Type 0} (Keeps : Local → Local → Type 0) (l : Local) (d e : Run A) : Type 0 where
  pub alike : Alike Keeps (λ o. Keeps l (state_of o)) d e

-- a run that is over

pub over : {A : Type 0} {Keeps : Local → Local → Type 0} {l : Local} (o : Outcome A) → Keeps l (state_of o) → From Keeps l (Done o) (Done o)
over o kept = record { alike = ends o kept }

pub gave : {A : Type 0} {Keeps : Local → Local → Type 0} → Order Keeps → (a : A) (l : Local) → From Keeps l (gives a l) (gives a l)
gave order a l = over (Gave a l) (order.same l)

pub fell : {A : Type 0} {Keeps : Local → Local → Type 0} → Order Keeps → (r : Raised) (l : Local) → From {A = A} Keeps l (Done (Faulted r l)) (Done (Faulted r l))
fell order r l = over (Faulted r l) (order.same l)

pub ended : {A : Type 0} {Keeps : Local → Local → Type 0} → Order Keeps → (l : Local) (r : Result A Raised) → From Keeps l (end l r) (end l r)
ended order l (Ok a) = gave order a l
ended order l (Err r) = fell order r l

-- what follows, by how the first part ended

pub earlier : {A : Type 0} {Keeps : Local → Local → Type 0} {l l1 : Local} {d e : Run A} → Order Keeps → Keeps l l1 → From Keeps l1 d e → From Keeps l d e
earlier {l = l} {l1 = l1} order kept f = record { alike = weaker (λ o k. order.follows l l1 (state_of o) kept k) f.alike }

pub after : {A B : Type 0} {Keeps : Local → Local → Type 0} {l : Local} {d e : Run A} {k m : Outcome A → Run B} → Order Keeps → From Keeps l d e
    → ((o : Outcome A) → Keeps l (state_of o) → From Keeps (state_of o) (k o) (m o)) → From Keeps l (seq d k) (seq e m)
after order f g = record { alike = alike_seq f.alike (λ o kept. (earlier order kept (g o kept)).alike) }

next_outcome : {A B : Type 0} {Keeps : Local → Local → Type 0} {l : Local} {k m : A → Local → Run B} → Order Keeps
    → ((a : A) (l1 : Local) → Keeps l l1 → From Keeps l1 (k a l1) (m a l1)) → (o : Outcome A) → Keeps l (state_of o) → From Keeps (state_of o) (on k o) (on m o)
next_outcome order g (Gave a l1) kept = g a l1 kept
next_outcome order g (Faulted r l1) kept = fell order r l1

pub then : {A B : Type 0} {Keeps : Local → Local → Type 0} {l : Local} {d e : Run A} {k m : A → Local → Run B} → Order Keeps → From Keeps l d e
    → ((a : A) (l1 : Local) → Keeps l l1 → From Keeps l1 (k a l1) (m a l1)) → From Keeps l (next d k) (next e m)
then order f g = after order f (next_outcome order g)

-- what follows a rule, where it gives something
pub ruled : {A B : Type 0} {Keeps : Local → Local → Type 0} {l : Local} → Order Keeps → (at : ℕ) (d : Result A Fault) (k m : A → Local → Run B)
    → ((a : A) → d ≡ Ok a → From Keeps l (k a l) (m a l)) → From Keeps l (next (end l (raises at d)) k) (next (end l (raises at d)) m)
ruled order at (Ok a) k m g = g a refl
ruled {l = l} order at (Err fault) k m g = fell order (raised fault at) l

-- what is asked
pub asked : {A : Type 0} {Keeps : Local → Local → Type 0} {l : Local} {go go' : Result Value Raised → Run A} → Order Keeps → (q : Question)
    → ((a : Result Value Raised) → From Keeps l (go a) (go' a)) → From Keeps l (Ask q go) (Ask q go')
asked {go = go} {go' = go'} order q g = record { alike = asks q go go' (λ a. (g a).alike) }

-- a body, and then the caller again

left_alike : {A : Type 0} {Keeps : Local → Local → Type 0} → Order Keeps → (l : Local) (names : Names) (o : Outcome A) → Keeps (entered names l) (state_of o)
    → Alike Keeps (λ o. Keeps l (state_of o)) (left l o) (left l o)
left_alike order l names (Gave a l1) kept = ends _ (order.call l l1 names kept)
left_alike order l names (Faulted r l1) kept = ends _ (order.call l l1 names kept)

pub body_left : {A : Type 0} {Keeps : Local → Local → Type 0} {names : Names} {d e : Run A} → Order Keeps → (l : Local) → From Keeps (entered names l) d e
    → From Keeps l (seq d (left l)) (seq e (left l))
body_left {names = names} order l f = record { alike = alike_seq f.alike (λ o kept. left_alike order l names o kept) }
