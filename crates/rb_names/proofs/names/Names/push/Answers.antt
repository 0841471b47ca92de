use Rattle.std.proofs.Common.{◌≡◌, ℕ, List, length, nat_eq, cond, Option, None, Some, sym, subst, ap, ◌∙◌}
use Rattle.std.specs.HashMap.{get}
use Rattle.std.specs.Cmp.Lexicographic.{pointwise}
use Rattle.rb_names.specs.Guesses.{Guides, first_place}
use Rattle.rb_names.proofs.Guided.{guides_known, guides_noted, guides_added}
use Rattle.rb_names.proofs.names.Names.push.Goals as goal

pub invariant_of-self-in_err-push-in-None : goal.invariant_of-self-in_err-push-in-None
invariant_of-self-in_err-push-in-None c =
    let before : List ℕ → Option ℕ = get (pointwise nat_eq) c.self.inside.places in
    let noted : (q : List ℕ) → get (pointwise nat_eq) c.insert.new.self q ≡ cond (pointwise nat_eq c.args.name q) (Some c.len-place.result) (before q) = λ q. c.in_ok-_before-in-None.ensures.updates.0 q
    ∙ ap (λ k. cond (pointwise nat_eq k q) (Some c.len-place.result) (before q)) c.in_ok-key-in-None.ensures in
    subst (λ ws. Guides (get (pointwise nat_eq) c.insert.new.self) ws) (sym c.in_err-push-in-None.ensures.err)
    (guides_noted c.self.inside.names c.args.name c.len-place.result before (get (pointwise nat_eq) c.insert.new.self)
    (subst (λ ws. first_place c.args.name ws ≡ None) (sym c.self.view_is) (sym c.in-None.ensures)) c.self.invariant noted)

pub invariant_of-self-in-None : goal.invariant_of-self-in-None
invariant_of-self-in-None c =
    let before : List ℕ → Option ℕ = get (pointwise nat_eq) c.self.inside.places in
    let noted : (q : List ℕ) → get (pointwise nat_eq) c.insert.new.self q ≡ cond (pointwise nat_eq c.args.name q) (Some (length c.self.inside.names)) (before q) = λ q. c.in_ok-_before-in-None.ensures.updates.0 q
    ∙ ap (λ k. cond (pointwise nat_eq k q) (Some c.len-place.result) (before q)) c.in_ok-key-in-None.ensures
    ∙ ap (λ n. cond (pointwise nat_eq c.args.name q) (Some n) (before q)) c.len-place.ensures in
    subst (λ ws. Guides (get (pointwise nat_eq) c.insert.new.self) ws) (sym c.in_ok-push-in-None.ensures.ok)
    (guides_added c.self.inside.names c.args.name before (get (pointwise nat_eq) c.insert.new.self)
    (guides_noted c.self.inside.names c.args.name (length c.self.inside.names) before (get (pointwise nat_eq) c.insert.new.self)
    (subst (λ ws. first_place c.args.name ws ≡ None) (sym c.self.view_is) (sym c.in-None.ensures)) c.self.invariant noted)
    noted)

pub invariant_of-self-in-Some : goal.invariant_of-self-in-Some
invariant_of-self-in-Some c =
    subst (λ ws. Guides (get (pointwise nat_eq) c.self.inside.places) ws) (sym c.in_ok-push-in-Some.ensures.ok)
    (guides_known c.self.inside.names c.args.name c.in-Some._place (get (pointwise nat_eq) c.self.inside.places)
    (subst (λ ws. first_place c.args.name ws ≡ Some c.in-Some._place) (sym c.self.view_is) (sym c.in-Some.ensures)) c.self.invariant)
