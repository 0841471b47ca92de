-- The new binding stands last, and its variable leads to it.
use Rattle.std.proofs.Common.{rules}
use Rattle.rb_exec.specs.Places.{place_at}
use Rattle.rb_exec.proofs.Guided.{bound_more}
use Rattle.rb_exec.proofs.variables.Variables.bind.Goals as goal

pub invariant_of-self-in-Ok : goal.invariant_of-self-in-Ok
invariant_of-self-in-Ok c =
    bound_more c.self.inside.bindings.items c.push.new.self.items (record { number = c.args.number; value = c.args.value; before = c.find-before.result }) (place_at c.self.inside.places) (place_at c.set.new.self) c.len-place.result
    (search rules) (search rules) c.find-before.ensures c.self.invariant c.in-Ok.ensures.set
