-- Laws of typed code in its surroundings: a handler, or surroundings that may choose, whose answers fit as long as a fact
-- of them holds.
use Rattle.std.specs.Prelude.{ℕ, List, Option, Result, Ok}
use Rattle.rb_trees.specs.declared.values.Value.{Value}
use Rattle.rb_trees.specs.declared.outcomes.Raised.{Raised}
use Rattle.rb_meaning_types.specs.Kinds.{Kind}
use Rattle.rb_meaning_types.specs.Violations.{Checked}
use Rattle.rb_meaning_types.specs.Declared.{Declarations}
use Rattle.rb_meaning_code.specs.State.{Local}
use Rattle.rb_meaning_code.specs.Dialogue.{Question, Outcome, Dialogue, Surroundings, Follows, Handler, handle}
use Rattle.rb_law_types.specs.Ends.{EndsThere}
use Rattle.rb_law_types.specs.Asked.{Site, Side, Own, InBatch, IsAsked, IsAnswer, IsAskedBatch}
use Rattle.rb_law_types.specs.Batches.{MethodsAsk}
use Rattle.rb_law_types.specs.Code.{AreTyped, OfTypedCode, OfBatchCode}

-- While the fact holds of its state, a handler answers fittingly what code may ask, and the fact still holds.
pub record HandlerFits {S : Type 0} (d : Declarations) (side : Side) (Holds : S → Type 0) (h : Handler S) : Type 0 where
  pub answers : (s : S) (q : Question) → Holds s → IsAsked d side q → IsAnswer d side q (h.answer s q).0
  pub answered : (s : S) (q : Question) → Holds s → IsAsked d side q → Holds (h.answer s q).1
  pub batches : (s : S) (at : ℕ) (l : Local) (b : Site) → Holds s → IsAskedBatch d side at l b → EndsThere d b.place l (h.batch s at l).0
  pub performed : (s : S) (at : ℕ) (l : Local) (b : Site) → Holds s → IsAskedBatch d side at l b → Holds (h.batch s at l).1

-- so with surroundings that may choose
pub record SurroundingsFit {W X : Type 0} (d : Declarations) (side : Side) (Holds : W → Type 0) (R : Surroundings W X) : Type 0 where
  pub answers : (w w' : W) (q : Question) (a : Result Value Raised) → Holds w → IsAsked d side q → R.answers w q (Ok a) w' → IsAnswer d side q a
  pub answered : (w w' : W) (q : Question) (a : Result Value Raised) → Holds w → IsAsked d side q → R.answers w q (Ok a) w' → Holds w'
  pub batches : (w w' : W) (at : ℕ) (l : Local) (b : Site) (o : Outcome (Unit {0})) → Holds w → IsAskedBatch d side at l b → R.performs w at l (Ok o) w'
      → EndsThere d b.place l o
  pub performed : (w w' : W) (at : ℕ) (l : Local) (b : Site) (o : Outcome (Unit {0})) → Holds w → IsAskedBatch d side at l b → R.performs w at l (Ok o) w'
      → Holds w'

-- Under the handler a run ends by what P says, and the fact still holds.
abbrev pub EndsHandled : {S : Type 0} → (S → Type 0) → Handler S → (A : Type 0) → (A → Type 0) → Dialogue A → Type 0
EndsHandled {S = S} Holds h A P run = (s : S) → Holds s → P (handle h run s).0 × Holds (handle h run s).1

-- Where the surroundings lead a run to its end, it ends by what P says, and the fact still holds.
abbrev pub EndsLed : {W X : Type 0} → (W → Type 0) → Surroundings W X → (A : Type 0) → (A → Type 0) → Dialogue A → Type 0
EndsLed {W = W} Holds R A P run = (w w' : W) (a : A) → Holds w → Follows R run w (Ok a) w' → P a × Holds w'

-- under handlers whose answers fit
abbrev pub TypesKeepHandled : {S : Type 0} → (S → Type 0) → Type 0
TypesKeepHandled {S = S} Holds = (d : Declarations) → AreTyped d → (batches : List Site) → MethodsAsk batches d
    → (h : Handler S) → HandlerFits d (Own batches) Holds h → OfTypedCode d batches (EndsHandled Holds h)

abbrev pub BatchesKeepHandled : {S : Type 0} → (S → Type 0) → Type 0
BatchesKeepHandled {S = S} Holds = (d : Declarations) → AreTyped d → (types : ℕ → Option (Checked Kind))
    → (h : Handler S) → HandlerFits d (InBatch types) Holds h → OfBatchCode d types (EndsHandled Holds h)

-- where surroundings lead whose answers fit
abbrev pub TypesKeepLed : {W X : Type 0} → (W → Type 0) → Surroundings W X → Type 0
TypesKeepLed Holds R = (d : Declarations) → AreTyped d → (batches : List Site) → MethodsAsk batches d
    → SurroundingsFit d (Own batches) Holds R → OfTypedCode d batches (EndsLed Holds R)

abbrev pub BatchesKeepLed : {W X : Type 0} → (W → Type 0) → Surroundings W X → Type 0
BatchesKeepLed Holds R = (d : Declarations) → AreTyped d → (types : ℕ → Option (Checked Kind))
    → SurroundingsFit d (InBatch types) Holds R → OfBatchCode d types (EndsLed Holds R)
