-- Remote calls, as the code makes them.
use Rattle.std.specs.Prelude.{◌≡◌, ℕ, List, map, Result, Ok, Err, IsErr}
use Rattle.rb_trees.specs.Outcome.{known}
use Rattle.rb_trees.specs.declared.values.Value.{Value, out-Value}
use Rattle.rb_trees.specs.declared.values.Fault.{Fault}
use Rattle.rb_trees.specs.declared.services.Object.{Object}
use Rattle.rb_trees.specs.declared.values.Value.TheVariants as value
use Rattle.rb_trees.specs.declared.declarations.Class as class
use Rattle.rb_trees.specs.declared.declarations.Method as method
use Rattle.rb_trees.specs.declared.declarations.Param as param
use Rattle.rb_trees.specs.mirror.Declarations.{Method, mirror_class, mirror_param}
use Rattle.rb_trees.specs.declared.outcomes.Raised.{Raised}
use Rattle.rb_trees.specs.declared.want.Memory.{Memory}
use Rattle.rb_meaning_code.specs.Faults.{raised_remotely, no_method, bad_arguments}
use Rattle.rb_meaning_code.specs.Dialogue.{Outcome, handle}
use Rattle.rb_meaning_code.specs.Calls.{method_of}
use Rattle.rb_meaning_code.specs.Bodies.{in_service}
use Rattle.rb_meaning_code.specs.Remote as rules
use Rattle.rb_meaning_code.specs.Remote.{Server, Reply, Got, Stopped, begun}
use Rattle.rb_engine.specs.Code.{found_run}
use Rattle.rb_engine.specs.declared.ends.Failure.{Failure}
use Rattle.rb_engine.specs.declared.ends.Failure.TheVariants as failure
use Rattle.rb_engine.specs.declared.state.State.{State}

-- the server of a state
abbrev pub server : State → Server
server state = record { table = state.heap; fuel = state.fuel }

-- The answer is this reply, unless memory ran out. Its fault stands at the position, and is remote.
abbrev pub RepliesAt : ℕ → Reply Value → Result (Result Value Raised) Memory → Server → Type 0
RepliesAt at meant (Ok (Ok v)) s = meant ≡ Got v s
RepliesAt at meant (Ok (Err r)) s = (meant ≡ Stopped at r.fault s) × (r ≡ raised_remotely r.fault at)
RepliesAt at meant (Err want) s = Unit {0}

-- what a rule gives, as the answer of a remote call
abbrev pub Answers : ℕ → Result Value Failure → Result (Result Value Raised) Memory → Type 0
Answers at (Ok v) answer = answer ≡ Ok (Ok v)
Answers at (Err (failure.Fault f)) answer = answer ≡ Ok (Err (raised_remotely f at))
Answers at (Err failure.Memory) answer = IsErr answer

-- the method of an object
abbrev pub method_found : List class.Class → List Object → ℕ → List ℕ → Result Method Fault
method_found classes table object name = known no_method (method_of (map mirror_class classes) table object name)

-- the arguments as the service sees them
abbrev pub arguments_taken : List Object → List param.Param → List Value → Result (List Value) Fault
arguments_taken table params args = known bad_arguments (rules.taken_all table (map mirror_param params) args)

-- what is checked before a call
abbrev pub call_checked : List class.Class → List Object → Value → List ℕ → List Value → Result (ℕ × List Value) Fault
call_checked classes table target name args = rules.checked (map mirror_class classes) table (out-Value target) name args

-- how a call of a method that was found ends as the service's own code makes it; the gas is the fuel, and enough
abbrev pub found_outcome : List class.Class → ℕ → ℕ → method.Method → List Value → Server → Outcome Value
found_outcome classes at object m args s = (handle in_service (found_run classes at m (value.Ref object) args s.fuel (begun s)) tt).0

-- the same, and its result at the client
abbrev pub found_served : List class.Class → ℕ → ℕ → ℕ → method.Method → List Value → Server → Reply Value
found_served classes at kind object m args s = rules.returned at kind (found_outcome classes at object m args s)

-- a remote call
abbrev pub call_invoked : List class.Class → ℕ → ℕ → Value → List ℕ → List Value → Server → Reply Value
call_invoked classes at kind target name args s = rules.invoke (map mirror_class classes) at kind (out-Value target) name args s
