-- What a part reads in what is open of a forest, and what is raised in its place.
use Rattle.std.specs.Prelude.{ℕ, List, Option, None, Some, Result, Ok, Err}
use Rattle.rb_trees.specs.declared.values.Value.{Value}
use Rattle.rb_trees.specs.declared.outcomes.Raised.{Raised}
use Rattle.rb_trees.specs.declared.forests.NodeFault.{NodeFault}
use Rattle.rb_meaning_split.specs.Replay.{at_step, missed}
use Rattle.rb_wire_forest.specs.CursorSteps.{next_fault, next_value}
use Rattle.rb_wire_forest.specs.Opens.{Open}

-- the fault of the innermost node, where it is at a step, and no entry is left
abbrev pub fault_open : ℕ → List Open → Option NodeFault
fault_open step os = at_step step (next_fault os)

-- what is raised in place of what a part reads at a step
abbrev pub missed_open : ℕ → List Open → Raised
missed_open step os = missed (fault_open step os)

-- a value with what is open behind it, or what is raised in its place
abbrev pub value_or : Raised → List Open → Option (Value × List Open) → Result Value Raised × List Open
value_or r os (Some x) = (Ok x.0, x.1)
value_or r os None = (Err r, os)

-- what a step kept, and what is open then
abbrev pub taken_open : ℕ → List Open → Result Value Raised × List Open
taken_open step os = value_or (missed_open step os) os (next_value os)
