-- How a call of the engine stands to what code means.
use Rattle.std.specs.Prelude.{◌≡◌, ◌≤◌, ℕ, Result, Ok, Err}
use Rattle.rb_meaning_code.specs.State.{Names, Local}
use Rattle.rb_meaning_code.specs.Dialogue.{Gave, Faulted, Run, Surroundings, Follows}
use Rattle.rb_engine.specs.Locals.{local}
use Rattle.rb_engine.specs.declared.state.State.{State}
use Rattle.rb_engine.specs.declared.ends.End.{End}
use Rattle.rb_engine.specs.declared.ends.End.TheVariants.{NoMemory, Stopped}
use Rattle.rb_engine.specs.declared.ends.End.TheVariants as end

-- the local state of code, and its World
pub record Scene (W : Type 0) : Type 0 where
  pub local : Local
  pub world : W

abbrev pub scene : {W : Type 0} → Names → State → W → Scene W
scene names state world = record { local = local names state; world = world }

-- The World leads the run to this result, with this local state and World. Nothing is said after want of memory, nor
-- of the local state where the World cuts the run off.
abbrev pub Led : {W X A : Type 0} → Surroundings W X → Run A → W → Local → Result A (End X) → W → Type 0
Led R run w l (Ok a) w' = Follows R run w (Ok (Gave a l)) w'
Led R run w l (Err (end.Raised r)) w' = Follows R run w (Ok (Faulted r l)) w'
Led R run w l (Err NoMemory) w' = Unit {0}
Led R run w l (Err (Stopped x)) w' = Follows R run w (Err x) w'

-- The run, within any gas that is at least the fuel, leads from one scene to this result and the other scene. Fuel
-- doesn't rise, and the number of active calls is the same.
pub record Meets {W X A : Type 0} (R : Surroundings W X) (run : ℕ → Run A) (before : Scene W) (result : Result A (End X)) (after : Scene W) : Type 0 where
  pub fuel : after.local.fuel ≤ before.local.fuel
  pub depth : after.local.depth ≡ before.local.depth
  pub led : (gas : ℕ) → before.local.fuel ≤ gas → Led R (run gas) before.world after.local result after.world

-- the same of code that runs from the local state before
abbrev pub Runs : {W X A : Type 0} → Surroundings W X → (ℕ → Local → Run A) → Scene W → Result A (End X) → Scene W → Type 0
Runs R meaning before result after = Meets R (λ gas. meaning gas before.local) before result after
