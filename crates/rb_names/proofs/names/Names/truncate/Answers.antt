use Rattle.std.proofs.Common.{nat_eq, sym, subst}
use Rattle.std.specs.HashMap.{get}
use Rattle.std.specs.Cmp.Lexicographic.{pointwise}
use Rattle.rb_names.specs.Guesses.{Guides}
use Rattle.rb_names.proofs.Guided.{guides_front}
use Rattle.rb_names.proofs.names.Names.truncate.Goals as goal

pub invariant_of-self : goal.invariant_of-self
invariant_of-self c = subst (λ ws. Guides (get (pointwise nat_eq) c.self.inside.places) ws) (sym c.truncate.ensures)
    (guides_front c.args.count c.self.inside.names (get (pointwise nat_eq) c.self.inside.places) c.self.invariant)
