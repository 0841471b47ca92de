-- A run of code as a tree of questions that it asks of its surroundings, with what follows each answer.
use Rattle.std.specs.Prelude.{◌≡◌, ◌⊎◌, ℕ, List, Result, Ok, Err}
use Rattle.rb_trees.specs.declared.values.Value.{Value}
use Rattle.rb_trees.specs.declared.outcomes.Raised.{Raised}
use Rattle.rb_meaning_code.specs.State.{Local}

-- what code asks, but for a batch
pub data Question : Type 0 where
  -- a line is printed
  Line : (at : ℕ) (bytes : List ℕ) → Question
  -- the value that a step of the script kept
  Taken : (step : ℕ) → Question
  -- a remote call
  Invoke : (at : ℕ) (target : Value) (method : List ℕ) (args : List Value) → Question
  -- a turn of a loop over rows begins
  Turn : (at : ℕ) → Question
  -- a turn of a loop over a list begins
  ListTurn : (at : ℕ) → Question

-- how code ends: by a value or by a fault, with the local state that it leaves
pub data Outcome (A : Type 0) : Type 0 where
  Gave : A → Local → Outcome A
  Faulted : Raised → Local → Outcome A

-- A run is done, or asks and goes on with the answer. A batch is lent the local state and gives it back.
pub data Dialogue (A : Type 0) : Type 0 where
  Done : A → Dialogue A
  Ask : Question → (Result Value Raised → Dialogue A) → Dialogue A
  AskBatch : (at : ℕ) → Local → (Outcome (Unit {0}) → Dialogue A) → Dialogue A

abbrev pub Run : Type 0 → Type 0
Run A = Dialogue (Outcome A)

-- one run after another
abbrev pub seq : {A B : Type 0} → Dialogue A → (A → Dialogue B) → Dialogue B
seq (Done a) k = k a
seq (Ask q go) k = Ask q (λ a. seq (go a) k)
seq (AskBatch at l go) k = AskBatch at l (λ o. seq (go o) k)

-- goes on with a value, or ends by the fault
abbrev pub on : {A B : Type 0} → (A → Local → Run B) → Outcome A → Run B
on k (Gave a l) = k a l
on k (Faulted r l) = Done (Faulted r l)

abbrev pub next : {A B : Type 0} → Run A → (A → Local → Run B) → Run B
next run k = seq run (on k)

abbrev pub gives : {A : Type 0} → A → Local → Run A
gives a l = Done (Gave a l)

-- ends by a value or a fault
abbrev pub end : {A : Type 0} → Local → Result A Raised → Run A
end l (Ok a) = Done (Gave a l)
end l (Err r) = Done (Faulted r l)

-- goes on as before after an answer that gives no value
abbrev pub told : Local → Result Value Raised → Run (Unit {0})
told l (Ok v) = Done (Gave tt l)
told l (Err r) = Done (Faulted r l)

-- Surroundings that may choose: they relate what they were, what is asked, the answer, and what they are then.
-- An answer that isn't Ok cuts the run off.
pub record Surroundings (W X : Type 0) : Type 1 where
  pub answers : W → Question → Result (Result Value Raised) X → W → Type 0
  pub performs : W → ℕ → Local → Result (Outcome (Unit {0})) X → W → Type 0

-- The surroundings lead the run from w to w', where it ends by r.
abbrev pub Follows : {W X A : Type 0} → Surroundings W X → Dialogue A → W → Result A X → W → Type 0
Follows R (Done a) w r w' = (r ≡ Ok a) × (w' ≡ w)
Follows R (Ask q go) w r w' =
    ((a : _) × (mid : _) × R.answers w q (Ok a) mid × Follows R (go a) mid r w') ⊎ ((x : _) × R.answers w q (Err x) w' × (r ≡ Err x))
Follows R (AskBatch at l go) w r w' =
    ((o : _) × (mid : _) × R.performs w at l (Ok o) mid × Follows R (go o) mid r w') ⊎ ((x : _) × R.performs w at l (Err x) w' × (r ≡ Err x))

-- surroundings whose answers follow from their state
pub record Handler (S : Type 0) : Type 0 where
  pub answer : S → Question → Result Value Raised × S
  pub batch : S → ℕ → Local → Outcome (Unit {0}) × S

abbrev pub handle : {S A : Type 0} → Handler S → Dialogue A → S → A × S
handle h (Done a) s = (a, s)
handle h (Ask q go) s = handle h (go (h.answer s q).0) (h.answer s q).1
handle h (AskBatch at l go) s = handle h (go (h.batch s at l).0) (h.batch s at l).1
