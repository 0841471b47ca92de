-- What runs code, and what a call of it ensures.
use Rattle.std.specs.Prelude.{◌≡◌, ℕ, Result}
use Rattle.rb_meaning_code.specs.State.{Names, Local}
use Rattle.rb_meaning_code.specs.Dialogue.{Run}
use Rattle.rb_engine.specs.Worlds.{Effects}
use Rattle.rb_engine.specs.declared.ends.End.{End}
use Rattle.rb_engine.specs.declared.machine.Machine.{Machine}
use Rattle.rb_engine.specs.declared.world.World as world

-- It has the same code, and is lent the same state and World.
pub record Keeps {W : Type 0} (before after : Machine W) : Type 0 where
  pub code : after.code ≡ before.code
  pub state : after.state.ghost_name ≡ before.state.ghost_name
  pub world : after.world.ghost_name ≡ before.world.ghost_name

-- The run leads from these names, with the state and World of the machine, to the result, and to what they are then.
abbrev pub Performs : {W X A : Type 0} → world.Ghosts W X → (ℕ → Local → Run A) → Machine W → Names → Result A (End X) → Machine W → Names → Type 0
Performs g meaning before names result after names' = Effects g meaning names before.state.now before.world.now result names' after.state.now after.world.now

-- the same where the names stay
abbrev pub Evaluates : {W X A : Type 0} → world.Ghosts W X → (ℕ → Local → Run A) → Names → Machine W → Result A (End X) → Machine W → Type 0
Evaluates g meaning names before result after = Performs g meaning before names result after names

-- the same whatever names stand around
abbrev pub EvaluatesAnywhere : {W X A : Type 0} → world.Ghosts W X → (ℕ → Local → Run A) → Machine W → Result A (End X) → Machine W → Type 0
EvaluatesAnywhere g meaning before result after = (names : Names) → Evaluates g meaning names before result after
