-- How a remainder ends early, as the code says it.
use Rattle.std.specs.Prelude.{◌≡◌, ◌⊎◌, Result, Ok, Err}
use Rattle.rb_trees.specs.declared.outcomes.Raised.{Raised}
use Rattle.rb_base.specs.declared.sinks.Failed.{Failed}
use Rattle.rb_engine.specs.declared.ends.End.{End}
use Rattle.rb_engine.specs.declared.ends.End.TheVariants as end
use Rattle.rb_engine.specs.declared.world.Halt.{Halt}
use Rattle.rb_engine.specs.declared.world.Halt.TheVariants as halt
use Rattle.rb_client.specs.declared.early.Early.{Early}
use Rattle.rb_client.specs.declared.early.Early.TheVariants as early
use Rattle.rb_client.specs.declared.stops.RunStop.{RunStop}
use Rattle.rb_client.specs.declared.stops.RunStop.TheVariants as stops

-- a step with its kinds of end as one
abbrev pub flattened : {T : Type 0} → Result (Result T Raised) (Halt Failed) → Result T Early
flattened (Ok (Ok a)) = Ok a
flattened (Ok (Err r)) = Err (early.Raised r)
flattened (Err halt.Memory) = Err early.Memory
flattened (Err (halt.World stop)) = Err early.WriteFault

-- A remainder ends early by this fault, or for want of memory.
abbrev pub RaisesBy : Raised → Early → Type 0
RaisesBy r e = (e ≡ early.Raised r) ⊎ (e ≡ early.Memory)

-- how code ended, as the end of a part
abbrev pub early_of : {T : Type 0} → Result T (End Failed) → Result T Early
early_of (Ok a) = Ok a
early_of (Err (end.Raised r)) = Err (early.Raised r)
early_of (Err end.NoMemory) = Err early.Memory
early_of (Err (end.Stopped stop)) = Err early.WriteFault

-- how a remainder ended, as a step outside of it
abbrev pub stepped : Result (Unit {0}) Early → Result (Result (Unit {0}) Raised) (Halt RunStop)
stepped (Ok u) = Ok (Ok u)
stepped (Err (early.Raised r)) = Ok (Err r)
stepped (Err early.WriteFault) = Err (halt.World stops.WriteFault)
stepped (Err early.Memory) = Err halt.Memory

-- why a node isn't there, as a halt
abbrev pub halted : RunStop → Halt RunStop
halted stops.Memory = halt.Memory
halted stop = halt.World stop
