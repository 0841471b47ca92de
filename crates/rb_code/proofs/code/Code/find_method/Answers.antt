use Rattle.std.proofs.Common.{option_and_then, sym, ap, ◌∙◌}
use Rattle.rb_trees.specs.Classes.{method_named}
use Rattle.rb_code.specs.Places.{place_of, names_of_classes}
use Rattle.rb_code.proofs.Placed.{class_found, class_missing}
use Rattle.rb_code.proofs.code.Code.find_method.Goals as goal

pub returns-in-Some : goal.returns-in-Some
returns-in-Some c =
    let named = c.self.invariant.1 ∙ ap names_of_classes c.self.view_is in
    c.method_at.ensures ∙ ap (option_and_then (λ k. method_named k.methods c.args.name.now))
    (sym (class_found c.args.self.now c.args.class.now c.in-Some.place (sym (c.in-Some.ensures ∙ ap (place_of c.args.class.now) named))))

pub returns-in-None : goal.returns-in-None
returns-in-None c =
    let named = c.self.invariant.1 ∙ ap names_of_classes c.self.view_is in
    sym (ap (option_and_then (λ k. method_named k.methods c.args.name.now)) (class_missing c.args.self.now c.args.class.now (sym (c.in-None.ensures ∙ ap (place_of c.args.class.now) named))))
