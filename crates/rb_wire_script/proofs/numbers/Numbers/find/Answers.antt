use Rattle.std.proofs.Common.{◌≡◌, None, Some, sym, subst}
use Rattle.std.specs.Ordering.{nat_cmp}
use Rattle.std.specs.BTreeMap.{get}
use Rattle.rb_wire_script.specs.Guesses.{first_place}
use Rattle.rb_wire_script.proofs.Guided.{tried_yes, tried_no, tried_past, untried}
use Rattle.rb_wire_script.proofs.numbers.Numbers.find.Goals as goal

pub returns-then-same_number : goal.returns-then-same_number
returns-then-same_number c =
    subst (λ ws. Some c.in-Some.place.now ≡ first_place c.args.number ws) c.self.view_is
    (sym (tried_yes c.self.inside.numbers c.args.number (get nat_cmp c.self.inside.places) c.self.invariant c.in-Some.place.now c.in-Some-get.other.now
    (sym c.in-Some.ensures.value) (sym c.in-Some-get.ensures.value) (sym c.if-same_number.ensures)))

pub returns-else-same_number : goal.returns-else-same_number
returns-else-same_number c =
    subst (λ ws. None ≡ first_place c.args.number ws) c.self.view_is
    (sym (tried_no c.self.inside.numbers c.args.number (get nat_cmp c.self.inside.places) c.self.invariant c.in-Some.place.now c.in-Some-get.other.now
    (sym c.in-Some.ensures.value) (sym c.in-Some-get.ensures.value) (sym c.if-same_number.ensures)))

pub returns-in-None-get : goal.returns-in-None-get
returns-in-None-get c =
    subst (λ ws. None ≡ first_place c.args.number ws) c.self.view_is
    (sym (tried_past c.self.inside.numbers c.args.number (get nat_cmp c.self.inside.places) c.self.invariant c.in-Some.place.now
    (sym c.in-Some.ensures.value) (sym c.in-None-get.ensures.value)))

pub returns-in-None : goal.returns-in-None
returns-in-None c =
    subst (λ ws. None ≡ first_place c.args.number ws) c.self.view_is
    (sym (untried c.self.inside.numbers c.args.number (get nat_cmp c.self.inside.places) c.self.invariant (sym c.in-None.ensures.value)))
