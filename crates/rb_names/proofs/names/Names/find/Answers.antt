use Rattle.std.proofs.Common.{◌≡◌, nat_eq, None, Some, sym, subst}
use Rattle.std.specs.HashMap.{get}
use Rattle.std.specs.Cmp.Lexicographic.{pointwise}
use Rattle.rb_names.specs.Guesses.{first_place}
use Rattle.rb_names.proofs.Guided.{tried_yes, tried_no, tried_past}
use Rattle.rb_names.proofs.names.Names.find.Goals as goal

pub returns-then-same_name : goal.returns-then-same_name
returns-then-same_name c =
    subst (λ ws. Some c.in-Some.place.now ≡ first_place c.args.name.now ws) c.self.view_is
    (sym (tried_yes c.self.inside.names c.args.name.now (get (pointwise nat_eq) c.self.inside.places) c.self.invariant c.in-Some.place.now c.in-Some-get.other.now
    (sym c.in-Some.ensures.value) (sym c.in-Some-get.ensures.value) (sym c.if-same_name.ensures)))

pub returns-else-same_name : goal.returns-else-same_name
returns-else-same_name c =
    subst (λ ws. None ≡ first_place c.args.name.now ws) c.self.view_is
    (sym (tried_no c.self.inside.names c.args.name.now (get (pointwise nat_eq) c.self.inside.places) c.self.invariant c.in-Some.place.now c.in-Some-get.other.now
    (sym c.in-Some.ensures.value) (sym c.in-Some-get.ensures.value) (sym c.if-same_name.ensures)))

pub returns-in-None-get : goal.returns-in-None-get
returns-in-None-get c =
    subst (λ ws. None ≡ first_place c.args.name.now ws) c.self.view_is
    (sym (tried_past c.self.inside.names c.args.name.now (get (pointwise nat_eq) c.self.inside.places) c.self.invariant c.in-Some.place.now
    (sym c.in-Some.ensures.value) (sym c.in-None-get.ensures.value)))
