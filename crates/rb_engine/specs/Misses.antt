-- How expressions end early whose faults stand at positions, as the code says it.
use Rattle.std.specs.Prelude.{◌≡◌, ◌⊎◌, ℕ, Result, Ok, Err, MatchResult}
use Rattle.rb_trees.specs.declared.values.Fault.{Fault}
use Rattle.rb_meaning_code.specs.Remote.{Server, Reply, Got, Stopped}
use Rattle.rb_engine.specs.declared.ends.Failure.{Failure}
use Rattle.rb_engine.specs.declared.ends.Failure.TheVariants as failure
use Rattle.rb_engine.specs.declared.misses.Miss.{Miss}
use Rattle.rb_engine.specs.declared.misses.Miss.TheVariants as miss

-- A miss by this fault at a position, or for want of memory.
abbrev pub MissesBy : ℕ → Fault → Miss → Type 0
MissesBy at f m = (m ≡ miss.Fault at f) ⊎ (m ≡ miss.Memory)

-- what a rule gives at a position, where only a fault may want memory
abbrev pub AtPlace : {T : Type 0} → ℕ → Result T Failure → Result T Miss → Type 0
AtPlace at (Ok a) result = result ≡ Ok a
AtPlace at (Err (failure.Fault f)) result = MatchResult result (λ a. ⊥) (MissesBy at f)
AtPlace at (Err failure.Memory) result = result ≡ Err miss.Memory

-- The result is this reply, with the server after it, unless memory ran out.
abbrev pub Means : {A : Type 0} → Reply A → Result A Miss → Server → Type 0
Means meant (Ok a) s = meant ≡ Got a s
Means meant (Err (miss.Fault at f)) s = meant ≡ Stopped at f s
Means meant (Err miss.Memory) s = Unit {0}

-- the same, as a fact that lemmas take whole
pub record Replied {A : Type 0} (meant : Reply A) (result : Result A Miss) (server : Server) : Type 0 where
  pub means : Means meant result server
