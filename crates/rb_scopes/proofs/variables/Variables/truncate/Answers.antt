use Rattle.std.proofs.Common.{map, take, sym, ap, ◌∙◌}
use Rattle.std.proofs.lemmas.List.{take-map}
use Rattle.rb_scopes.proofs.variables.Variables.truncate.Goals as goal

pub invariant_of-self : goal.invariant_of-self
invariant_of-self c = c.truncate-2.ensures ∙ ap (take c.args.count) c.self.invariant ∙ take-map (λ v. v.name) c.args.count c.self.inside.items
    ∙ sym (ap (map (λ v. v.name)) c.truncate.ensures)
