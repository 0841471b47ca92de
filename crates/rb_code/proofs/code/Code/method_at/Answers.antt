use Rattle.std.proofs.Common.{slice_get, sym, ap, ◌∙◌}
use Rattle.std.specs.Option.{option_map, option_copied}
use Rattle.rb_trees.specs.mirror.Declarations.{mirror_method}
use Rattle.rb_code.specs.Places.{place_of}
use Rattle.rb_code.proofs.Placed.{methods_at, method_found, method_missing, found_at}
use Rattle.rb_code.proofs.code.Code.method_at.Goals as goal

pub returns-in_err-find : goal.returns-in_err-find
returns-in_err-find c =
    let class = c.in_ok-class.class.now in
    let at = c.in_ok-class.ensures.value ∙ ap (λ all. slice_get all c.args.place) c.self.view_is in
    let named = methods_at c.self.inside.classes c.self.inside.method_names c.args.place class c.in_ok-names.names.now c.self.invariant.2 c.in_ok-class.ensures.value c.in_ok-names.ensures.value in
    found_at c.args.self.now c.args.place class c.args.name.now _ at
    (ap (λ r. option_map mirror_method (option_copied r)) c.from_residual-in_err-find.ensures
    ∙ sym (method_missing class.methods c.args.name.now (sym (c.in_err-find.ensures ∙ ap (place_of c.args.name.now) named))))

pub returns : goal.returns
returns c =
    let class = c.in_ok-class.class.now in
    let at = c.in_ok-class.ensures.value ∙ ap (λ all. slice_get all c.args.place) c.self.view_is in
    let named = methods_at c.self.inside.classes c.self.inside.method_names c.args.place class c.in_ok-names.names.now c.self.invariant.2 c.in_ok-class.ensures.value c.in_ok-names.ensures.value in
    found_at c.args.self.now c.args.place class c.args.name.now _ at
    (ap (option_map mirror_method) c.get-3.ensures.value
    ∙ sym (method_found class.methods c.args.name.now c.in_ok-find.field-0 (sym (c.in_ok-find.ensures ∙ ap (place_of c.args.name.now) named))))
