-- Runs that surroundings lead: what they leave, and how a handler that answers as the surroundings do ends them.
use Rattle.std.specs.Prelude.{◌≡◌, ◌≤◌, ℕ, Result, Ok, Err}
use Rattle.rb_trees.specs.declared.values.Value.{Value}
use Rattle.rb_trees.specs.declared.outcomes.Raised.{Raised}
use Rattle.rb_meaning_code.specs.State.{Local}
use Rattle.rb_meaning_code.specs.Dialogue.{Question, Outcome, Dialogue, Done, Ask, AskBatch, Surroundings, Follows, Handler, handle}
use Rattle.rb_meaning_code.specs.Laws.{Later, state_of, Meaning}

-- The batches that the surroundings perform leave later local states than they were lent.
abbrev pub LedBatchesLeaveLater : {W X : Type 0} → Surroundings W X → Type 0
LedBatchesLeaveLater {W = W} R = (w w' : W) (at : ℕ) (l : Local) (o : Outcome (Unit {0})) → R.performs w at l (Ok o) w' → Later l (state_of o)

-- The batches that the surroundings perform leave no more fuel than they were lent.
abbrev pub LedBatchesKeepFuel : {W X : Type 0} → Surroundings W X → Type 0
LedBatchesKeepFuel {W = W} R = (w w' : W) (at : ℕ) (l : Local) (o : Outcome (Unit {0})) → R.performs w at l (Ok o) w' → (state_of o).fuel ≤ l.fuel

-- Where they lead a run to an outcome, that leaves a later local state.
abbrev pub LedLater : {W X : Type 0} → Surroundings W X → (A : Type 0) → Meaning A → Type 0
LedLater {W = W} R A meaning = (gas : ℕ) (l : Local) (o : Outcome A) (w w' : W) → Follows R (meaning gas l) w (Ok o) w' → Later l (state_of o)

-- Where they lead a run within some gas that is at least the fuel, they lead it so within any other.
abbrev pub LedSameWithinMoreGas : {W X : Type 0} → Surroundings W X → (A : Type 0) → Meaning A → Type 0
LedSameWithinMoreGas {W = W} {X = X} R A meaning = (gas more : ℕ) (l : Local) (r : Result (Outcome A) X) (w w' : W) → l.fuel ≤ gas → l.fuel ≤ more
    → Follows R (meaning gas l) w r w' → Follows R (meaning more l) w r w'

-- What the surroundings gave is what the handler gives, and they are then seen as its state then.
abbrev pub Agrees : {W S A : Type 0} → (W → S → Type 0) → A → W → A × S → Type 0
Agrees Sees given w handled = (given ≡ handled.0) × Sees w handled.1

-- The handler answers as the surroundings do wherever they are seen as its state.
pub record AnswersAs {W X S : Type 0} (Sees : W → S → Type 0) (R : Surroundings W X) (h : Handler S) : Type 0 where
  pub questions : (w w' : W) (s : S) (q : Question) (a : Result Value Raised) → Sees w s → R.answers w q (Ok a) w' → Agrees Sees a w' (h.answer s q)
  pub batches : (w w' : W) (s : S) (at : ℕ) (l : Local) (o : Outcome (Unit {0})) → Sees w s → R.performs w at l (Ok o) w' → Agrees Sees o w' (h.batch s at l)

-- A run that the handler answers from a state passes what is left of it, at another state.
pub data Passes {S A : Type 0} (h : Handler S) : Dialogue A → S → Dialogue A → S → Type 0 where
  here : (d : Dialogue A) (s : S) → Passes h d s d s
  answered : (q : Question) (go : Result Value Raised → Dialogue A) (s s' : S) (rest : Dialogue A)
      → Passes h (go (h.answer s q).0) (h.answer s q).1 rest s' → Passes h (Ask q go) s rest s'
  performed : (at : ℕ) (l : Local) (go : Outcome (Unit {0}) → Dialogue A) (s s' : S) (rest : Dialogue A)
      → Passes h (go (h.batch s at l).0) (h.batch s at l).1 rest s' → Passes h (AskBatch at l go) s rest s'

-- The surroundings cut a run off at what it asks first.
abbrev pub CutsOff : {W X A : Type 0} → Surroundings W X → Dialogue A → W → X → W → Type 0
CutsOff R (Done a) w x w' = ⊥
CutsOff R (Ask q go) w x w' = R.answers w q (Err x) w'
CutsOff R (AskBatch at l go) w x w' = R.performs w at l (Err x) w'

-- The surroundings cut the run off at something that it passes under the handler too, where they are seen as its state.
pub record IsCutWithin {W X S A : Type 0} (Sees : W → S → Type 0) (R : Surroundings W X) (h : Handler S) (d : Dialogue A) (s : S) (x : X) (w' : W) : Type 0 where
  pub rest : Dialogue A
  pub state : S
  pub before : W
  pub passes : Passes h d s rest state
  pub seen : Sees before state
  pub cut : CutsOff R rest before x w'

-- Where the run is led to its end, it ends as under the handler, and the surroundings are then seen as its state.
abbrev pub EndsAsHandled : {W X S A : Type 0} → (W → S → Type 0) → Surroundings W X → Handler S → Dialogue A → Type 0
EndsAsHandled {W = W} {S = S} {A = A} Sees R h d = (w w' : W) (s : S) (a : A) → Sees w s → Follows R d w (Ok a) w' → Agrees Sees a w' (handle h d s)

-- Where the run is cut off, it is so at something that it passes under the handler.
abbrev pub IsCutAsHandled : {W X S A : Type 0} → (W → S → Type 0) → Surroundings W X → Handler S → Dialogue A → Type 0
IsCutAsHandled {W = W} {X = X} {S = S} Sees R h d = (w w' : W) (s : S) (x : X) → Sees w s → Follows R d w (Err x) w' → IsCutWithin Sees R h d s x w'

-- Under each handler that answers as the surroundings do, runs end as those lead them.
abbrev pub RunsEndAsHandled : {W X S : Type 0} → (W → S → Type 0) → Surroundings W X → (A : Type 0) → Type 0
RunsEndAsHandled {S = S} Sees R A = (h : Handler S) → AnswersAs Sees R h → (d : Dialogue A) → EndsAsHandled Sees R h d

-- Under each handler that answers as the surroundings do, runs pass what those cut off.
abbrev pub RunsAreCutAsHandled : {W X S : Type 0} → (W → S → Type 0) → Surroundings W X → (A : Type 0) → Type 0
RunsAreCutAsHandled {S = S} Sees R A = (h : Handler S) → AnswersAs Sees R h → (d : Dialogue A) → IsCutAsHandled Sees R h d

-- What is left of a run ends under the handler as the whole.
abbrev pub RestsEndAsWhole : (S A : Type 0) → Type 0
RestsEndAsWhole S A = (h : Handler S) (d rest : Dialogue A) (s s' : S) → Passes h d s rest s' → handle h rest s' ≡ handle h d s
