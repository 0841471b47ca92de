-- What the server answers to the code of a batch.
use Rattle.std.specs.Prelude.{ℕ, ◌-◌, Result, Ok, Err}
use Rattle.rb_trees.specs.declared.values.Value.{Value, out-Value}
use Rattle.rb_trees.specs.declared.values.Value.TheVariants as value
use Rattle.rb_trees.specs.declared.outcomes.Raised.{Raised}
use Rattle.rb_trees.specs.mirror.Declarations.{Program}
use Rattle.rb_trees.specs.mirror.Services.{Service}
use Rattle.rb_meaning_code.specs.Faults.{kind, raised, raised_remotely}
use Rattle.rb_meaning_code.specs.Dialogue as ask
use Rattle.rb_meaning_code.specs.Dialogue.{Question}
use Rattle.rb_meaning_code.specs.Calls.{unit_due}
use Rattle.rb_meaning_code.specs.Remote.{Server, Reply, Got, Stopped, and_then, replies, invoke}
use Rattle.rb_meaning_types.specs.CallKinds.{call_kind}

-- A unit of remote fuel is due at a position. It gives nothing.
abbrev pub unit_of : ℕ → Server → Reply Value
unit_of at s = and_then (replies at (unit_due s.fuel) s) (λ u s1. Got value.Unit (record s1 { fuel = s1.fuel - 1 }))

-- a reply as an answer to code; its fault is remote
abbrev pub answer_of : Reply Value → Result Value Raised × Server
answer_of (Got v s) = (Ok v, s)
answer_of (Stopped at f s) = (Err (raised_remotely f at), s)

-- what is answered: a remote call is performed, and a turn over rows charged; the server is asked nothing else
abbrev pub remote_answer : Program → Service → Server → Question → Result Value Raised × Server
remote_answer p service s (ask.Invoke at target method args) =
    answer_of (invoke service.classes at (call_kind p at) (out-Value target) method args s)
remote_answer p service s (ask.Turn at) = answer_of (unit_of at s)
remote_answer p service s _ = (Err (raised kind 0), s)
