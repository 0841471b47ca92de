-- Classes are typed whatever the positions are.
use Rattle.std.proofs.Common.{◌≡◌, ℕ, List, [], ◌∷◌, ◌++◌, map, false, not, Ok, refl, sym, ap, subst, ◌∙◌}
use Rattle.rb_trees.specs.mirror.Declarations.{Param, Signature, Method, Class}
use Rattle.rb_trees.specs.printing.Unplaced.{unplaced_type, unplaced_param, unplaced_signature, unplaced_method, unplaced_body, unplaced_class}
use Rattle.rb_meaning_types.specs.Declared.{of_service}
use Rattle.rb_meaning_types.specs.Violations.{NameTaken, NotAllowedHere}
use Rattle.rb_meaning_types.specs.Names.{is_new}
use Rattle.rb_meaning_types.specs.Scopes.{parameters}
use Rattle.rb_meaning_types.specs.Bodies.{check_body, check_method_body, check_method_bodies, check_class_bodies}
use Rattle.rb_meaning_types.specs.Declarations.{new_name, check_params, check_signature, check_method, check_methods, check_class, check_classes}
use Rattle.rb_meaning_types.specs.Programs.{check_service}
use Rattle.rb_law_tables.proofs.alike.Checks.{Alike, pass, Same, then_alike, must_alike, passes_too, other_way}
use Rattle.rb_law_tables.proofs.alike.Names.{bare, parameters_bare, parameter_alike, result_alike}
use Rattle.rb_law_tables.proofs.alike.Members.{There}
use Rattle.rb_law_tables.proofs.alike.Stmts.{body_alike}

new_alike : (before : List (List ℕ)) (at here : ℕ) (name : List ℕ) → Alike Same (new_name before at name) (new_name before here name)
new_alike before at here name = must_alike (is_new name before) (is_new name before) (NameTaken at) (NameTaken here) refl

module _ (cs : List Class) where
  params_alike : (before : List (List ℕ)) (ps : List Param) → Alike Same (check_params false (of_service cs) before ps) (check_params false (of_service (bare cs)) before (map unplaced_param ps))
  params_alike before [] = pass refl
  params_alike before (p ∷ ps) = then_alike (then_alike (new_alike before p.at 0 p.name) (parameter_alike cs p.kind)) (params_alike (before ++ p.name ∷ []) ps)

  signature_alike : (s : Signature) → Alike Same (check_signature false (of_service cs) s) (check_signature false (of_service (bare cs)) (unplaced_signature s))
  signature_alike s = then_alike (params_alike [] s.params) (result_alike cs s.result)

  method_alike : (m : Method) → Alike Same (check_method (of_service cs) m) (check_method (of_service (bare cs)) (unplaced_method m))
  method_alike m = then_alike (signature_alike m.signature) (must_alike (not m.remote) (not m.remote) (NotAllowedHere m.signature.at) (NotAllowedHere 0) refl)

  methods_alike : (before : List (List ℕ)) (ms : List Method) → Alike Same (check_methods (of_service cs) before ms) (check_methods (of_service (bare cs)) before (map unplaced_method ms))
  methods_alike before [] = pass refl
  methods_alike before (m ∷ ms) = then_alike (then_alike (new_alike before m.signature.at 0 m.signature.name) (method_alike m)) (methods_alike (before ++ m.signature.name ∷ []) ms)

  class_alike : (c : Class) → Alike Same (check_class (of_service cs) c) (check_class (of_service (bare cs)) (unplaced_class c))
  class_alike c = then_alike (params_alike [] c.fields) (methods_alike [] c.methods)

  classes_alike : (before : List (List ℕ)) (ds : List Class) → Alike Same (check_classes (of_service cs) before ds) (check_classes (of_service (bare cs)) before (bare ds))
  classes_alike before [] = pass refl
  classes_alike before (d ∷ ds) = then_alike (then_alike (new_alike before d.at 0 d.name) (class_alike d)) (classes_alike (before ++ d.name ∷ []) ds)

  method_body_alike : (class : List ℕ) (m : Method) → Alike Same (check_method_body (of_service cs) class m) (check_method_body (of_service (bare cs)) class (unplaced_method m))
  method_body_alike class m =
      subst (λ scope. Alike Same (check_method_body (of_service cs) class m) (check_body (There cs class m.remote) scope 0 (unplaced_type m.signature.result) (unplaced_body m.body))) (sym (parameters_bare m.signature.params))
      (body_alike cs class m.remote (parameters m.signature.params) m.signature.at 0 m.signature.result m.body)

  bodies_alike : (class : List ℕ) (ms : List Method) → Alike Same (check_method_bodies (of_service cs) class ms) (check_method_bodies (of_service (bare cs)) class (map unplaced_method ms))
  bodies_alike class [] = pass refl
  bodies_alike class (m ∷ ms) = then_alike (method_body_alike class m) (bodies_alike class ms)

  class_bodies_alike : (ds : List Class) → Alike Same (check_class_bodies (of_service cs) ds) (check_class_bodies (of_service (bare cs)) (bare ds))
  class_bodies_alike [] = pass refl
  class_bodies_alike (d ∷ ds) = then_alike (bodies_alike d.name d.methods) (class_bodies_alike ds)

  service_alike : Alike Same (check_service cs) (check_service (bare cs))
  service_alike = then_alike (then_alike (pass refl) (classes_alike [] cs)) (class_bodies_alike cs)

-- Classes that are the same but for positions are typed alike.
pub typed_too : (cs ds : List Class) → bare ds ≡ bare cs → check_service cs ≡ Ok tt → check_service ds ≡ Ok tt
typed_too cs ds e h =
    let a = passes_too (service_alike cs) h in
    let b = passes_too (other_way (service_alike ds)) (ap check_service e ∙ a.1) in
    b.1
