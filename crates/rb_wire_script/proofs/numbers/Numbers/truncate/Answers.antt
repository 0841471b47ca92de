use Rattle.std.proofs.Common.{sym, subst}
use Rattle.std.specs.Ordering.{nat_cmp}
use Rattle.std.specs.BTreeMap.{get}
use Rattle.rb_wire_script.specs.Guesses.{Guides}
use Rattle.rb_wire_script.proofs.Guided.{guides_front}
use Rattle.rb_wire_script.proofs.numbers.Numbers.truncate.Goals as goal

pub invariant_of-self : goal.invariant_of-self
invariant_of-self c = subst (λ ws. Guides (get nat_cmp c.self.inside.places) ws) (sym c.truncate.ensures)
    (guides_front c.args.count c.self.inside.numbers (get nat_cmp c.self.inside.places) c.self.invariant)
