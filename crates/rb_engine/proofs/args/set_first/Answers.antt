use Rattle.std.proofs.Common.{rules, ◌≡◌}
use Rattle.std.specs.Prelude.{None, slice_get}
use Rattle.rb_engine.proofs.Slotted.{unset}
use Rattle.rb_engine.proofs.args.set_first.Goals as goal

pub returns-in_default : goal.returns-in_default
returns-in_default c =
    let none : slice_get c.args.slots.now 0 ≡ None = search rules in
    unset c.args.slots.now c.args.named none
