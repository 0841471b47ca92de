-- The World of the service's code leads the call to its end, and nothing else asks.
use Rattle.std.proofs.Common.{arith, sym, ap, ◌∙◌, Ok, []}
use Rattle.rb_meaning_code.specs.Faults.{raised_remotely}
use Rattle.rb_meaning_code.specs.Remote.{Stopped}
use Rattle.rb_engine.specs.Remote.{server}
use Rattle.rb_engine.proofs.Served.{value_served, fault_served}
use Rattle.rb_engine.proofs.remote.perform.Goals as goal

pub returns-in-Ok-Ok-clause-replies : goal.returns-in-Ok-Ok-clause-replies
returns-in-Ok-Ok-clause-replies c =
    value_served c.args.code.now c.args.at c.args.kind c.args.checked.object c.args.checked.method.now c.args.checked.args c.args.state.now c.call_found.new.state c.new-world.result c.call_found.new.world
    c.call_found.result c.in-Ok-Ok.value c.at_client.result c.answered.result c.requires.idle (c.in-Ok-Ok.is ∙ ap Ok c.in-Ok-Ok.field-0-is)
    ((c.call_found.ensures []).led c.args.state.now.fuel (omega arith)) c.at_client.ensures c.answered.ensures

pub returns-in-Ok-Ok-clause-depth : goal.returns-in-Ok-Ok-clause-depth
returns-in-Ok-Ok-clause-depth c = (c.call_found.ensures []).depth ∙ c.requires.idle

pub returns-in-Ok-Err-clause-replies : goal.returns-in-Ok-Err-clause-replies
returns-in-Ok-Err-clause-replies c = (
  fault_served c.args.code.now c.args.at c.args.kind c.args.checked.object c.args.checked.method.now c.args.checked.args c.args.state.now c.call_found.new.state c.new-world.result c.call_found.new.world
      c.call_found.result c.in-Ok-Err.raised c.requires.idle (c.in-Ok-Err.is ∙ ap Ok c.in-Ok-Err.field-0-is) ((c.call_found.ensures []).led c.args.state.now.fuel (omega arith))
      ∙ ap (λ r. Stopped c.args.at r.fault (server c.call_found.new.state)) (sym c.remotely.ensures),
  c.remotely.ensures ∙ ap (λ r. raised_remotely r.fault c.args.at) (sym c.remotely.ensures),
)

pub returns-in-Ok-Err-clause-depth : goal.returns-in-Ok-Err-clause-depth
returns-in-Ok-Err-clause-depth c = (c.call_found.ensures []).depth ∙ c.requires.idle

pub returns-in-Err-Memory-clause-depth : goal.returns-in-Err-Memory-clause-depth
returns-in-Err-Memory-clause-depth c = (c.call_found.ensures []).depth ∙ c.requires.idle

pub returns-in-Err-World-clause-depth : goal.returns-in-Err-World-clause-depth
returns-in-Err-World-clause-depth c = (c.call_found.ensures []).depth ∙ c.requires.idle
