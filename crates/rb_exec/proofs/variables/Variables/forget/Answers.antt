-- Without memory the places are as they were. Else they lead to what was bound before.
use Rattle.std.proofs.Common.{rules, reverse, ap, ◌∙◌}
use Rattle.rb_exec.specs.Bindings.{without_latest}
use Rattle.rb_exec.specs.Places.{place_at}
use Rattle.rb_exec.proofs.Guided.{guides_alike, bound_less, seen_less}
use Rattle.rb_exec.proofs.variables.Variables.forget.Goals as goal

pub invariant_of-self : goal.invariant_of-self
invariant_of-self c = guides_alike (reverse c.self.inside.bindings.items) (place_at c.self.inside.places) (place_at c.set.new.self) c.in_err-set.ensures.kept c.self.invariant

pub invariant_of-self-in-Some : goal.invariant_of-self-in-Some
invariant_of-self-in-Some c =
    bound_less c.self.inside.bindings.items c.drop_last.new.bindings.items (place_at c.self.inside.places) (place_at c.set.new.self) c.in-Some.number c.in-Some.before c.self.inside.bindings.len
    c.drop_last.ensures (search rules) (search rules) c.self.invariant c.in_ok-set.ensures.set

pub returns-in_ok-set : goal.returns-in_ok-set
returns-in_ok-set c =
    seen_less c.self.inside.bindings.items c.drop_last.new.bindings.items c.in-Some.number c.in-Some.before c.self.inside.bindings.len c.drop_last.ensures (search rules) (search rules)
    ∙ ap without_latest c.self.view_is
