-- The World of code as its surroundings, and what a call of the engine over it ensures.
use Rattle.std.specs.Prelude.{ℕ, Result}
use Rattle.rb_meaning_code.specs.State.{Names, Local}
use Rattle.rb_meaning_code.specs.Dialogue.{Run, Surroundings}
use Rattle.rb_engine.specs.Meets.{Runs, scene}
use Rattle.rb_engine.specs.declared.ends.End.{End}
use Rattle.rb_engine.specs.declared.state.State.{State}
use Rattle.rb_engine.specs.declared.world.World as world

abbrev pub asks : {W X : Type 0} → world.Ghosts W X → Surroundings W X
asks g = record { answers = g.answers; performs = g.performs }

-- The run leads from these names, this state and this World to the result, and to what they are then.
abbrev pub Effects : {W X A : Type 0} → world.Ghosts W X → (ℕ → Local → Run A) → Names → State → W → Result A (End X) → Names → State → W → Type 0
Effects g meaning names state world result names' state' world' = Runs (asks g) meaning (scene names state world) result (scene names' state' world')

-- the same where the names stay
abbrev pub Values : {W X A : Type 0} → world.Ghosts W X → (ℕ → Local → Run A) → Names → State → W → Result A (End X) → State → W → Type 0
Values g meaning names state world result state' world' = Effects g meaning names state world result names state' world'

-- the same whatever names stand around
abbrev pub AnyNames : {W X A : Type 0} → world.Ghosts W X → (ℕ → Local → Run A) → State → W → Result A (End X) → State → W → Type 0
AnyNames g meaning state world result state' world' = (names : Names) → Values g meaning names state world result state' world'
