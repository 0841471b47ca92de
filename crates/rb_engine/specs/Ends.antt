-- How code ends early, as the code says it.
use Rattle.std.specs.Prelude.{◌≡◌, ◌⊎◌, ℕ, Option, Some, None, Result, Ok, Err, MatchResult}
use Rattle.rb_trees.specs.Outcome.{Gives}
use Rattle.rb_trees.specs.declared.values.Fault.{Fault}
use Rattle.rb_trees.specs.declared.outcomes.Raised.{Raised}
use Rattle.rb_meaning_code.specs.Faults.{raised}
use Rattle.rb_engine.specs.declared.ends.Failure.{Failure}
use Rattle.rb_engine.specs.declared.ends.Failure.TheVariants as failure
use Rattle.rb_engine.specs.declared.ends.End.{End}
use Rattle.rb_engine.specs.declared.ends.End.TheVariants as end
use Rattle.rb_engine.specs.declared.world.Halt.{Halt}
use Rattle.rb_engine.specs.declared.world.Halt.TheVariants.{Memory, World}

-- the fault that a rule says, which want of memory isn't
abbrev pub fault_of : Failure → Option Fault
fault_of (failure.Fault fault) = Some fault
fault_of failure.Memory = None

-- There is an end, and it is such a one.
abbrev pub IsErrOf : {T X : Type 0} → (End X → Type 0) → Result T (End X) → Type 0
IsErrOf Holds result = MatchResult result (λ a. ⊥) Holds

-- Memory is wanting only where this holds.
abbrev pub WantsOnlyWhere : {T : Type 0} → Type 0 → Result T Failure → Type 0
WantsOnlyWhere Holds result = result ≡ Err failure.Memory → Holds

-- Memory is never wanting.
abbrev pub NeverWants : {T : Type 0} → Result T Failure → Type 0
NeverWants result = WantsOnlyWhere ⊥ result

-- Code ends by this fault, or for want of memory.
abbrev pub EndsBy : {X : Type 0} → Raised → End X → Type 0
EndsBy r e = (e ≡ end.Raised r) ⊎ (e ≡ end.NoMemory)

-- The World cuts the run off for this reason, or memory ran out.
abbrev pub StopsBy : {X : Type 0} → X → End X → Type 0
StopsBy x e = (e ≡ end.Stopped x) ⊎ (e ≡ end.NoMemory)

-- what a rule at a position gives to code
abbrev pub Lifts : {T X : Type 0} → ℕ → Result T Failure → Result T (End X) → Type 0
Lifts at (Ok value) result = result ≡ Ok value
Lifts at (Err (failure.Fault fault)) result = IsErrOf (EndsBy (raised fault at)) result
Lifts at (Err failure.Memory) result = result ≡ Err end.NoMemory

-- what a rule gives to code at a position, unless memory runs out
pub record GivesAt {T Y X : Type 0} (view : T → Y) (at : ℕ) (result : Result T (End X)) (rule : Result Y Fault) : Type 0 where
  pub outcome : Result T Failure
  pub gives : Gives view fault_of outcome rule
  pub lifts : Lifts at outcome result

-- a step with its kinds of end as one, unless memory runs out
abbrev pub Flattens : {T X : Type 0} → Result (Result T Raised) (Halt X) → Result T (End X) → Type 0
Flattens (Ok (Ok value)) result = result ≡ Ok value
Flattens (Ok (Err r)) result = IsErrOf (EndsBy r) result
Flattens (Err Memory) result = result ≡ Err end.NoMemory
Flattens (Err (World x)) result = IsErrOf (StopsBy x) result

-- a step with its kinds of end as one
abbrev pub flattened : {T X : Type 0} → Result (Result T Raised) (Halt X) → Result T (End X)
flattened (Ok (Ok value)) = Ok value
flattened (Ok (Err r)) = Err (end.Raised r)
flattened (Err Memory) = Err end.NoMemory
flattened (Err (World x)) = Err (end.Stopped x)

-- This holds of what is given, unless memory ran out.
abbrev pub UnlessMemory : {T X : Type 0} → Result T (End X) → (T → Type 0) → Type 0
UnlessMemory result Holds = MatchResult result Holds (λ e. e ≡ end.NoMemory)
