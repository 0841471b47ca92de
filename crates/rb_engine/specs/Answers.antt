-- What a World answers.
use Rattle.std.specs.Prelude.{Result, Ok, Err}
use Rattle.rb_trees.specs.declared.values.Value.{Value}
use Rattle.rb_trees.specs.declared.values.Value.TheVariants as value
use Rattle.rb_trees.specs.declared.outcomes.Raised.{Raised}
use Rattle.rb_meaning_code.specs.State.{Local}
use Rattle.rb_meaning_code.specs.Dialogue.{Outcome, Gave, Faulted}
use Rattle.rb_engine.specs.declared.world.Halt.{Halt}
use Rattle.rb_engine.specs.declared.world.Halt.TheVariants.{Memory, World}

-- a value or a fault; or the run is cut off
abbrev pub Answer : Type 0 → Type 0
Answer X = Result (Result Value Raised) X

-- how a batch ends; or the run is cut off
abbrev pub Performed : Type 0 → Type 0
Performed X = Result (Outcome (Unit {0})) X

-- The relation holds of what was answered, unless memory ran out.
abbrev pub Answered : {T X : Type 0} → Result T (Halt X) → (Result T X → Type 0) → Type 0
Answered (Ok a) Holds = Holds (Ok a)
Answered (Err Memory) Holds = Unit {0}
Answered (Err (World x)) Holds = Holds (Err x)

-- an answer that gives nothing, as one that gives Unit
abbrev pub as_value : {X : Type 0} → Result (Result (Unit {0}) Raised) (Halt X) → Result (Result Value Raised) (Halt X)
as_value (Ok (Ok u)) = Ok (Ok value.Unit)
as_value (Ok (Err raised)) = Ok (Err raised)
as_value (Err halt) = Err halt

-- a batch's end, with the local state that it leaves
abbrev pub performed : {X : Type 0} → Local → Result (Result (Unit {0}) Raised) (Halt X) → Result (Outcome (Unit {0})) (Halt X)
performed l (Ok (Ok u)) = Ok (Gave tt l)
performed l (Ok (Err raised)) = Ok (Faulted raised l)
performed l (Err halt) = Err halt
