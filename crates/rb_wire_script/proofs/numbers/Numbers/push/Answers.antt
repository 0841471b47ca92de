use Rattle.std.proofs.Common.{◌≡◌, ℕ, length, nat_eq, cond, Option, None, Some, sym, subst, ap, ◌∙◌}
use Rattle.std.specs.Ordering.{nat_cmp}
use Rattle.std.specs.BTreeMap.{get}
use Rattle.rb_wire_script.specs.Guesses.{Guides, first_place}
use Rattle.rb_wire_script.proofs.Guided.{guides_known, guides_noted, guides_added, told_one}
use Rattle.rb_wire_script.proofs.numbers.Numbers.push.Goals as goal

pub invariant_of-self-in_err-push-in-None : goal.invariant_of-self-in_err-push-in-None
invariant_of-self-in_err-push-in-None c =
    let before : ℕ → Option ℕ = get nat_cmp c.self.inside.places in
    let noted : (q : ℕ) → get nat_cmp c.insert.new.self q ≡ cond (nat_eq c.args.number q) (Some c.len-place.result) (before q) =
    told_one c.args.number c.len-place.result before (get nat_cmp c.insert.new.self) c.in_ok-_before-in-None.ensures.updates.0 in
    subst (λ ws. Guides (get nat_cmp c.insert.new.self) ws) (sym c.in_err-push-in-None.ensures.err)
    (guides_noted c.self.inside.numbers c.args.number c.len-place.result before (get nat_cmp c.insert.new.self)
    (subst (λ ws. first_place c.args.number ws ≡ None) (sym c.self.view_is) (sym c.in-None.ensures)) c.self.invariant noted)

pub invariant_of-self-in-None : goal.invariant_of-self-in-None
invariant_of-self-in-None c =
    let before : ℕ → Option ℕ = get nat_cmp c.self.inside.places in
    let noted : (q : ℕ) → get nat_cmp c.insert.new.self q ≡ cond (nat_eq c.args.number q) (Some (length c.self.inside.numbers)) (before q) = λ q.
    told_one c.args.number c.len-place.result before (get nat_cmp c.insert.new.self) c.in_ok-_before-in-None.ensures.updates.0 q
    ∙ ap (λ n. cond (nat_eq c.args.number q) (Some n) (before q)) c.len-place.ensures in
    subst (λ ws. Guides (get nat_cmp c.insert.new.self) ws) (sym c.in_ok-push-in-None.ensures.ok)
    (guides_added c.self.inside.numbers c.args.number before (get nat_cmp c.insert.new.self)
    (guides_noted c.self.inside.numbers c.args.number (length c.self.inside.numbers) before (get nat_cmp c.insert.new.self)
    (subst (λ ws. first_place c.args.number ws ≡ None) (sym c.self.view_is) (sym c.in-None.ensures)) c.self.invariant noted)
    noted)

pub invariant_of-self-in-Some : goal.invariant_of-self-in-Some
invariant_of-self-in-Some c =
    subst (λ ws. Guides (get nat_cmp c.self.inside.places) ws) (sym c.in_ok-push-in-Some.ensures.ok)
    (guides_known c.self.inside.numbers c.args.number c.in-Some._place (get nat_cmp c.self.inside.places)
    (subst (λ ws. first_place c.args.number ws ≡ Some c.in-Some._place) (sym c.self.view_is) (sym c.in-Some.ensures)) c.self.invariant)
