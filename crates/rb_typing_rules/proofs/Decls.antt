-- The rules on declarations, bodies and programs agree with what is computed.
use Rattle.std.proofs.Common.{◌≡◌, ℕ, List, [], map, Bool as Truth, true, false, not, ◌&&◌, Ok, refl, ap, ◌∙◌}
use Rattle.rb_trees.specs.mirror.Types.{TypeTree, Int, Bool, Text, Unit as UnitType, Named, ListOf, RowsOf, type_at}
use Rattle.rb_trees.specs.mirror.Declarations.{Param, Signature, Interface, Method, Class}
use Rattle.rb_meaning_types.specs.Declared.{Declarations, is_class, is_declared}
use Rattle.rb_meaning_types.specs.Violations.{UnknownName, TypeNotHere, NotAllowedHere}
use Rattle.rb_trees.specs.Outcome.{◌>>◌, must}
use Rattle.rb_meaning_types.specs.Places.{declared_type, value_type, value_result, is_remote_value, is_remote_result, is_main_result, parameter_type, result_type, main_type}
use Rattle.rb_meaning_types.specs.Declarations.{check_params, check_signature, check_signatures, check_method, check_methods, check_interfaces, check_class, check_classes, check_declarations}
use Rattle.rb_typing_rules.specs.Programs.{IsKnown, IsValueType, IsValueResult, IsParameterType, IsResultType, AreParams, IsSignature, AreSignatures, IsMethod, AreMethods, AreInterfaces, IsClass, AreClasses, AreDeclared}
use Rattle.rb_typing_rules.proofs.Steps.{then_ok, must_ok}
use Rattle.rb_typing_rules.proofs.Members.{members_so, so_members}
use Rattle.rb_typing_rules.proofs.Stmts.{not_so}

pub known_so : (d : Declarations) (t : TypeTree) → declared_type d t ≡ Ok tt → IsKnown d t
known_so d (Int at) h = tt
known_so d (Bool at) h = tt
known_so d (Text at) h = tt
known_so d (UnitType at) h = tt
known_so d (Named at name) h = must_ok (is_declared d name) (UnknownName at) h
known_so d (ListOf at item) h = known_so d item h
known_so d (RowsOf at row) h = known_so d row h

pub so_known : (d : Declarations) (t : TypeTree) → IsKnown d t → declared_type d t ≡ Ok tt
so_known d (Int at) h = refl
so_known d (Bool at) h = refl
so_known d (Text at) h = refl
so_known d (UnitType at) h = refl
so_known d (Named at name) h = rw h refl
so_known d (ListOf at item) h = so_known d item h
so_known d (RowsOf at row) h = so_known d row h

value_so : (d : Declarations) (t : TypeTree) → value_type d t ≡ Ok tt → IsValueType d t
value_so d (Int at) h = tt
value_so d (Bool at) h = tt
value_so d (Text at) h = tt
value_so d (UnitType at) h = cc
value_so d (Named at name) h = must_ok (is_class d name) (TypeNotHere at) h
value_so d (ListOf at item) h = value_so d item h
value_so d (RowsOf at row) h = cc

so_value : (d : Declarations) (t : TypeTree) → IsValueType d t → value_type d t ≡ Ok tt
so_value d (Int at) h = refl
so_value d (Bool at) h = refl
so_value d (Text at) h = refl
so_value d (UnitType at) h = absurd h
so_value d (Named at name) h = rw h refl
so_value d (ListOf at item) h = so_value d item h
so_value d (RowsOf at row) h = absurd h

result_so : (d : Declarations) (t : TypeTree) → value_result d t ≡ Ok tt → IsValueResult d t
result_so d (Int at) h = tt
result_so d (Bool at) h = tt
result_so d (Text at) h = tt
result_so d (UnitType at) h = tt
result_so d (Named at name) h = value_so d (Named at name) h
result_so d (ListOf at item) h = value_so d (ListOf at item) h
result_so d (RowsOf at row) h = cc

so_result : (d : Declarations) (t : TypeTree) → IsValueResult d t → value_result d t ≡ Ok tt
so_result d (Int at) h = refl
so_result d (Bool at) h = refl
so_result d (Text at) h = refl
so_result d (UnitType at) h = refl
so_result d (Named at name) h = rw h refl
so_result d (ListOf at item) h = so_value d item h
so_result d (RowsOf at row) h = absurd h

pub parameter_so : (remote : Truth) (d : Declarations) (t : TypeTree) → parameter_type remote d t ≡ Ok tt → IsParameterType remote d t
parameter_so true d t h = let s = then_ok (declared_type d t) (must (is_remote_value d t) (TypeNotHere (type_at t))) tt h in
    (known_so d t s.0, must_ok (is_remote_value d t) (TypeNotHere (type_at t)) s.1)
parameter_so false d t h = let s = then_ok (declared_type d t) (value_type d t) tt h in (known_so d t s.0, value_so d t s.1)

pub so_parameter : (remote : Truth) (d : Declarations) (t : TypeTree) → IsParameterType remote d t → parameter_type remote d t ≡ Ok tt
so_parameter true d t h = rw (so_known d t h.0) (rw h.1 refl)
so_parameter false d t h = rw (so_known d t h.0) (so_value d t h.1)

pub results_so : (remote : Truth) (d : Declarations) (t : TypeTree) → result_type remote d t ≡ Ok tt → IsResultType remote d t
results_so true d t h = let s = then_ok (declared_type d t) (must (is_remote_result d t) (TypeNotHere (type_at t))) tt h in
    (known_so d t s.0, must_ok (is_remote_result d t) (TypeNotHere (type_at t)) s.1)
results_so false d t h = let s = then_ok (declared_type d t) (value_result d t) tt h in (known_so d t s.0, result_so d t s.1)

pub so_results : (remote : Truth) (d : Declarations) (t : TypeTree) → IsResultType remote d t → result_type remote d t ≡ Ok tt
so_results true d t h = rw (so_known d t h.0) (rw h.1 refl)
so_results false d t h = rw (so_known d t h.0) (so_result d t h.1)

pub params_so : (remote : Truth) (d : Declarations) (before : List (List ℕ)) (ps : List Param) → check_params remote d before ps ≡ Ok tt → AreParams remote d before ps
params_so remote d = members_so (λ p. p.at) (λ p. p.name) (λ p. IsParameterType remote d p.kind)
    (λ p. parameter_type remote d p.kind) (check_params remote d) (λ before p ps. refl) (λ p h. parameter_so remote d p.kind h)

pub so_params : (remote : Truth) (d : Declarations) (before : List (List ℕ)) (ps : List Param) → AreParams remote d before ps → check_params remote d before ps ≡ Ok tt
so_params remote d = so_members (λ p. p.at) (λ p. p.name) (λ p. IsParameterType remote d p.kind)
    (λ p. parameter_type remote d p.kind) (check_params remote d) (λ before. refl) (λ before p ps. refl) (λ p h. so_parameter remote d p.kind h)

pub signature_so : (remote : Truth) (d : Declarations) (s : Signature) → check_signature remote d s ≡ Ok tt → IsSignature remote d s
signature_so remote d s h = let t = then_ok (check_params remote d [] s.params) (result_type remote d s.result) tt h in
    (params_so remote d [] s.params t.0, results_so remote d s.result t.1)

pub so_signature : (remote : Truth) (d : Declarations) (s : Signature) → IsSignature remote d s → check_signature remote d s ≡ Ok tt
so_signature remote d s h = ap (λ r. r >> result_type remote d s.result) (so_params remote d [] s.params h.0) ∙ so_results remote d s.result h.1

pub signatures_so : (d : Declarations) (before : List (List ℕ)) (ss : List Signature) → check_signatures d before ss ≡ Ok tt → AreSignatures d before ss
signatures_so d = members_so (λ s. s.at) (λ s. s.name) (IsSignature true d)
    (check_signature true d) (check_signatures d) (λ before s ss. refl) (signature_so true d)

pub so_signatures : (d : Declarations) (before : List (List ℕ)) (ss : List Signature) → AreSignatures d before ss → check_signatures d before ss ≡ Ok tt
so_signatures d = so_members (λ s. s.at) (λ s. s.name) (IsSignature true d)
    (check_signature true d) (check_signatures d) (λ before. refl) (λ before s ss. refl) (so_signature true d)

pub method_so : (d : Declarations) (m : Method) → check_method d m ≡ Ok tt → IsMethod d m
method_so d m h =
    let s = then_ok (check_signature false d m.signature) (must (not (d.service && m.remote)) (NotAllowedHere m.signature.at)) tt h in
    (signature_so false d m.signature s.0, not_so (d.service && m.remote) (must_ok (not (d.service && m.remote)) (NotAllowedHere m.signature.at) s.1))

pub so_method : (d : Declarations) (m : Method) → IsMethod d m → check_method d m ≡ Ok tt
so_method d m h =
    ap (λ r. r >> must (not (d.service && m.remote)) (NotAllowedHere m.signature.at)) (so_signature false d m.signature h.0)
    ∙ ap (λ b. must (not b) (NotAllowedHere m.signature.at)) h.1

pub methods_so : (d : Declarations) (before : List (List ℕ)) (ms : List Method) → check_methods d before ms ≡ Ok tt → AreMethods d before ms
methods_so d = members_so (λ m. m.signature.at) (λ m. m.signature.name) (IsMethod d)
    (check_method d) (check_methods d) (λ before m ms. refl) (method_so d)

pub so_methods : (d : Declarations) (before : List (List ℕ)) (ms : List Method) → AreMethods d before ms → check_methods d before ms ≡ Ok tt
so_methods d = so_members (λ m. m.signature.at) (λ m. m.signature.name) (IsMethod d)
    (check_method d) (check_methods d) (λ before. refl) (λ before m ms. refl) (so_method d)

pub interfaces_so : (d : Declarations) (before : List (List ℕ)) (js : List Interface) → check_interfaces d before js ≡ Ok tt → AreInterfaces d before js
interfaces_so d = members_so (λ i. i.at) (λ i. i.name) (λ i. AreSignatures d [] i.methods)
    (λ i. check_signatures d [] i.methods) (check_interfaces d) (λ before i is. refl) (λ i h. signatures_so d [] i.methods h)

pub so_interfaces : (d : Declarations) (before : List (List ℕ)) (js : List Interface) → AreInterfaces d before js → check_interfaces d before js ≡ Ok tt
so_interfaces d = so_members (λ i. i.at) (λ i. i.name) (λ i. AreSignatures d [] i.methods)
    (λ i. check_signatures d [] i.methods) (check_interfaces d) (λ before. refl) (λ before i is. refl) (λ i h. so_signatures d [] i.methods h)

pub class_so : (d : Declarations) (c : Class) → check_class d c ≡ Ok tt → IsClass d c
class_so d c h = let s = then_ok (check_params false d [] c.fields) (check_methods d [] c.methods) tt h in
    (params_so false d [] c.fields s.0, methods_so d [] c.methods s.1)

pub so_class : (d : Declarations) (c : Class) → IsClass d c → check_class d c ≡ Ok tt
so_class d c h = ap (λ r. r >> check_methods d [] c.methods) (so_params false d [] c.fields h.0) ∙ so_methods d [] c.methods h.1

classes_so : (d : Declarations) (before : List (List ℕ)) (ds : List Class) → check_classes d before ds ≡ Ok tt → AreClasses d before ds
classes_so d = members_so (λ c. c.at) (λ c. c.name) (IsClass d) (check_class d) (check_classes d) (λ before c cs. refl) (class_so d)

so_classes : (d : Declarations) (before : List (List ℕ)) (ds : List Class) → AreClasses d before ds → check_classes d before ds ≡ Ok tt
so_classes d = so_members (λ c. c.at) (λ c. c.name) (IsClass d)
    (check_class d) (check_classes d) (λ before. refl) (λ before c cs. refl) (so_class d)

pub declared_so : (d : Declarations) → check_declarations d ≡ Ok tt → AreDeclared d
declared_so d h = let s = then_ok (check_interfaces d [] d.interfaces) (check_classes d (map (λ i. i.name) d.interfaces) d.classes) tt h in
    (interfaces_so d [] d.interfaces s.0, classes_so d (map (λ i. i.name) d.interfaces) d.classes s.1)

pub so_declared : (d : Declarations) → AreDeclared d → check_declarations d ≡ Ok tt
so_declared d h = ap (λ r. r >> check_classes d (map (λ i. i.name) d.interfaces) d.classes) (so_interfaces d [] d.interfaces h.0) ∙ so_classes d (map (λ i. i.name) d.interfaces) d.classes h.1

pub main_so : (d : Declarations) (at : ℕ) (t : TypeTree) → main_type d at t ≡ Ok tt → IsKnown d t × (is_main_result at t ≡ true)
main_so d at t h = let s = then_ok (declared_type d t) (must (is_main_result at t) (TypeNotHere (type_at t))) tt h in
    (known_so d t s.0, must_ok (is_main_result at t) (TypeNotHere (type_at t)) s.1)

pub so_main : (d : Declarations) (at : ℕ) (t : TypeTree) → IsKnown d t → is_main_result at t ≡ true → main_type d at t ≡ Ok tt
so_main d at t known fits = rw (so_known d t known) (rw fits refl)
