use Rattle.std.proofs.Common.{slice_get, sym, ap, ◌∙◌}
use Rattle.std.specs.Option.{option_map}
use Rattle.rb_trees.specs.mirror.Declarations.{mirror_class}
use Rattle.rb_code.specs.Places.{place_of, names_of_classes}
use Rattle.rb_code.proofs.Placed.{class_found, class_missing, slice_viewed}
use Rattle.rb_code.proofs.code.Code.find_class.Goals as goal

pub returns-in-Some : goal.returns-in-Some
returns-in-Some c =
    let named = c.self.invariant.1 ∙ ap names_of_classes c.self.view_is in
    let at = c.get.ensures.value ∙ ap (λ all. slice_get all c.in-Some.place) c.self.view_is in
    ap (option_map mirror_class) at ∙ sym (slice_viewed mirror_class c.args.self.now c.in-Some.place)
    ∙ sym (class_found c.args.self.now c.args.name.now c.in-Some.place (sym (c.in-Some.ensures ∙ ap (place_of c.args.name.now) named)))

pub returns-in-None : goal.returns-in-None
returns-in-None c =
    let named = c.self.invariant.1 ∙ ap names_of_classes c.self.view_is in
    sym (class_missing c.args.self.now c.args.name.now (sym (c.in-None.ensures ∙ ap (place_of c.args.name.now) named)))
