use Rattle.std.proofs.Common.{rules, ◌≡◌, nat_eq, sym, ap, ◌∙◌}
use Rattle.std.specs.Prelude.{Some, None, option_and_then, slice_get}
use Rattle.std.specs.HashMap.{get}
use Rattle.rb_client.specs.Splits.{split_at}
use Rattle.rb_client.proofs.Found.{found_at}
use Rattle.rb_client.proofs.divisions.Divisions.find.Goals as goal

pub returns-in-Some : goal.returns-in-Some
returns-in-Some c =
    let place : get nat_eq c.self.inside.places c.args.at ≡ Some c.in-Some.place.now = search rules in
    c.get-in-Some.ensures.value ∙ ap (λ o. option_and_then (λ p. slice_get c.self.inside.splits.now p) o) (sym place)
    ∙ found_at c.self.inside.splits.now (λ at. get nat_eq c.self.inside.places at) c.args.at c.self.invariant ∙ ap (λ ss. split_at ss c.args.at) c.self.view_is

pub returns-in-None : goal.returns-in-None
returns-in-None c =
    let place : get nat_eq c.self.inside.places c.args.at ≡ None = search rules in
    ap (λ o. option_and_then (λ p. slice_get c.self.inside.splits.now p) o) (sym place)
    ∙ found_at c.self.inside.splits.now (λ at. get nat_eq c.self.inside.places at) c.args.at c.self.invariant ∙ ap (λ ss. split_at ss c.args.at) c.self.view_is
