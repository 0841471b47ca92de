-- How steps end early, as the code says it.
use Rattle.std.specs.Prelude.{◌≡◌, ◌⊎◌, ℕ, Result, Ok, Err, MatchResult}
use Rattle.rb_trees.specs.declared.forests.NodeFault.{NodeFault}
use Rattle.rb_meaning_code.specs.Remote.{Server, Reply}
use Rattle.rb_engine.specs.Misses.{AtPlace, Replied}
use Rattle.rb_engine.specs.declared.ends.Failure.{Failure}
use Rattle.rb_engine.specs.declared.misses.Miss.{Miss}
use Rattle.rb_engine.specs.declared.misses.Miss.TheVariants as miss
use Rattle.rb_exec.specs.declared.ends.Stop.{Stop}
use Rattle.rb_exec.specs.declared.ends.Stop.TheVariants as stop

-- Steps end by this fault of their node, or for want of memory.
abbrev pub StopsBy : NodeFault → Stop → Type 0
StopsBy f e = (e ≡ stop.Fault f) ⊎ (e ≡ stop.Memory)

-- what an expression gives to the step of a number, where only a fault may want memory
abbrev pub AtStep : {T : Type 0} → ℕ → Result T Miss → Result T Stop → Type 0
AtStep id (Ok a) result = result ≡ Ok a
AtStep id (Err (miss.Fault at f)) result = MatchResult result (λ a. ⊥) (StopsBy (record { step = id; at = at; fault = f }))
AtStep id (Err miss.Memory) result = result ≡ Err stop.Memory

-- what a rule gives to the step of a number at a position
pub record Ruled {A : Type 0} (id at : ℕ) (outcome : Result A Failure) (result : Result A Stop) : Type 0 where
  pub placed : Result A Miss
  pub at_place : AtPlace at outcome placed
  pub at_step : AtStep id placed result

-- what a step gets where an expression replies, and the server after it
pub record Gets {A : Type 0} (id : ℕ) (meant : Reply A) (result : Result A Stop) (server : Server) : Type 0 where
  pub outcome : Result A Miss
  pub replied : Replied meant outcome server
  pub so : AtStep id outcome result

-- This holds of what is given, unless memory ran out.
abbrev pub UnlessMemory : {T : Type 0} → Result T Stop → (T → Type 0) → Type 0
UnlessMemory result Holds = MatchResult result Holds (λ e. e ≡ stop.Memory)
