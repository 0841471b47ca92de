-- The first violation of a program or a service is the one that is computed.
use Rattle.std.proofs.Common.{◌≡◌, ℕ, List, [], map, Bool as Truth, true, false, not, ◌&&◌, Option, Some, None, Ok, Err, refl, ap, ◌∙◌}
use Rattle.rb_trees.specs.mirror.Types.{TypeTree}
use Rattle.rb_trees.specs.mirror.Code.{Expr, expr_at}
use Rattle.rb_trees.specs.mirror.Declarations.{Param, Signature, Interface, Body, Method, Class, Program}
use Rattle.rb_meaning_types.specs.Kinds.{Kind, kind_of, is_unit, same_kind}
use Rattle.rb_meaning_types.specs.Declared.{Declarations, Context, of_program, of_service, method_context, main_context}
use Rattle.rb_meaning_types.specs.Violations.{Violation, MissingReturn, NotAllowedHere, WrongType}
use Rattle.rb_trees.specs.Outcome.{◌>>◌, must}
use Rattle.rb_meaning_types.specs.Scopes.{Scope, parameters}
use Rattle.rb_meaning_types.specs.Places.{parameter_type, result_type, main_type}
use Rattle.rb_meaning_types.specs.Expressions.{type_of}
use Rattle.rb_meaning_types.specs.Statements.{check_stmts}
use Rattle.rb_meaning_types.specs.Bodies.{return_fits, check_return, check_body, check_method_body, check_method_bodies, check_class_bodies}
use Rattle.rb_meaning_types.specs.Declarations.{check_params, check_signature, check_signatures, check_method, check_methods, check_interfaces, check_class, check_classes, check_declarations}
use Rattle.rb_meaning_types.specs.Programs.{check_main, check_program, check_service}
use Rattle.rb_typing_rules.specs.Programs.{IsParameterType, AreParams, IsSignature, AreSignatures, IsMethod, AreInterfaces, IsClass, AreDeclared, IsMethodBody, AreMethodBodies}
use Rattle.rb_typing_rules.specs.BrokenTypes.{BrokenParameter, BrokenResult}
use Rattle.rb_typing_rules.specs.BrokenPrograms.{BrokenParams, BrokenSignature, BrokenSignatures, BrokenMethod, BrokenMethods, BrokenInterfaces, BrokenClass, BrokenClasses, BrokenDeclarations, BrokenReturn, BrokenBody, BrokenMethodBody, BrokenMethodBodies, BrokenClassBodies, FirstViolation, FirstViolationOfService, in_signature, remote_method, in_returned, unit_returned, other_returned, no_return, in_statements, in_return, in_declarations, in_methods, in_main_result, in_main}
use Rattle.rb_typing_rules.proofs.Steps.{same_sound}
use Rattle.rb_typing_rules.proofs.Exprs.{typed_has, has_typed}
use Rattle.rb_typing_rules.proofs.Stmts.{all_lead, lead_all}
use Rattle.rb_typing_rules.proofs.Decls as right
use Rattle.rb_typing_rules.proofs.Wholes.{body_so, so_body, methods_so, so_methods, bodies_so, so_bodies}
use Rattle.rb_typing_rules.proofs.Stops.{Stops, ends, passes, weaker, bind_stops, then_stops, placed_stops, must_stop, order_stops, so_order, list_stops, so_list, members_stop, so_members, differs, undecided, in_order}
use Rattle.rb_typing_rules.proofs.BrokenTypes.{parameter_stops, so_parameter, results_stops, so_results, main_stops, so_main}
use Rattle.rb_typing_rules.proofs.BrokenExprs.{expr_stops, so_broken}
use Rattle.rb_typing_rules.proofs.BrokenStmts.{stmts_stops, so_stmts, not_false}

params_stop : (remote : Truth) (d : Declarations) (before : List (List ℕ)) (ps : List Param) → Stops (BrokenParams remote d before ps) (check_params remote d before ps)
params_stop remote d = members_stop (λ p. p.at) (λ p. p.name) (λ p. IsParameterType remote d p.kind) (λ p. BrokenParameter remote d p.kind)
    (λ p. parameter_type remote d p.kind) (check_params remote d) (λ before. refl) (λ before p ps. refl) (λ p. parameter_stops remote d p.kind) (λ p e. right.parameter_so remote d p.kind e)

so_params : (remote : Truth) (d : Declarations) (before : List (List ℕ)) (ps : List Param) (v : Violation) → BrokenParams remote d before ps v → check_params remote d before ps ≡ Err v
so_params remote d = so_members (λ p. p.at) (λ p. p.name) (λ p. IsParameterType remote d p.kind) (λ p. BrokenParameter remote d p.kind)
    (λ p. parameter_type remote d p.kind) (check_params remote d) (λ before p ps. refl) (λ p v b. so_parameter remote d p.kind v b) (λ p h. right.so_parameter remote d p.kind h)

signature_stops : (remote : Truth) (d : Declarations) (s : Signature) → Stops (BrokenSignature remote d s) (check_signature remote d s)
signature_stops remote d s = order_stops (BrokenParams remote d [] s.params) (AreParams remote d [] s.params) (BrokenResult remote d s.result)
    (check_params remote d [] s.params) (result_type remote d s.result) (params_stop remote d [] s.params) (right.params_so remote d [] s.params) (results_stops remote d s.result)

so_signature : (remote : Truth) (d : Declarations) (s : Signature) (v : Violation) → BrokenSignature remote d s v → check_signature remote d s ≡ Err v
so_signature remote d s = so_order (BrokenParams remote d [] s.params) (AreParams remote d [] s.params) (BrokenResult remote d s.result)
    (check_params remote d [] s.params) (result_type remote d s.result) (so_params remote d [] s.params) (right.so_params remote d [] s.params) (so_results remote d s.result)

signatures_stop : (d : Declarations) (before : List (List ℕ)) (ss : List Signature) → Stops (BrokenSignatures d before ss) (check_signatures d before ss)
signatures_stop d = members_stop (λ s. s.at) (λ s. s.name) (IsSignature true d) (BrokenSignature true d)
    (check_signature true d) (check_signatures d) (λ before. refl) (λ before s ss. refl) (signature_stops true d) (right.signature_so true d)

so_signatures : (d : Declarations) (before : List (List ℕ)) (ss : List Signature) (v : Violation) → BrokenSignatures d before ss v → check_signatures d before ss ≡ Err v
so_signatures d = so_members (λ s. s.at) (λ s. s.name) (IsSignature true d) (BrokenSignature true d)
    (check_signature true d) (check_signatures d) (λ before s ss. refl) (so_signature true d) (right.so_signature true d)

method_stops : (d : Declarations) (m : Method) → Stops (BrokenMethod d m) (check_method d m)
method_stops d m =
    let local = must (not (d.service && m.remote)) (NotAllowedHere m.signature.at) in
    then_stops _ (check_signature false d m.signature) local (weaker _ _ (check_signature false d m.signature) (λ v b. in_signature v b) (signature_stops false d m.signature))
    (λ e. must_stop _ (not (d.service && m.remote)) (NotAllowedHere m.signature.at) (λ f. remote_method (right.signature_so false d m.signature e) (not_false (d.service && m.remote) f)))

so_method : (d : Declarations) (m : Method) (v : Violation) → BrokenMethod d m v → check_method d m ≡ Err v
so_method d m _ (in_signature v b) = ap (λ r. r >> must (not (d.service && m.remote)) (NotAllowedHere m.signature.at)) (so_signature false d m.signature v b)
so_method d m _ (remote_method h f) = ap (λ r. r >> must (not (d.service && m.remote)) (NotAllowedHere m.signature.at)) (right.so_signature false d m.signature h)
    ∙ ap (λ b. must (not b) (NotAllowedHere m.signature.at)) f

methods_stop : (d : Declarations) (before : List (List ℕ)) (ms : List Method) → Stops (BrokenMethods d before ms) (check_methods d before ms)
methods_stop d = members_stop (λ m. m.signature.at) (λ m. m.signature.name) (IsMethod d) (BrokenMethod d)
    (check_method d) (check_methods d) (λ before. refl) (λ before m ms. refl) (method_stops d) (right.method_so d)

so_all_methods : (d : Declarations) (before : List (List ℕ)) (ms : List Method) (v : Violation) → BrokenMethods d before ms v → check_methods d before ms ≡ Err v
so_all_methods d = so_members (λ m. m.signature.at) (λ m. m.signature.name) (IsMethod d) (BrokenMethod d)
    (check_method d) (check_methods d) (λ before m ms. refl) (so_method d) (right.so_method d)

interfaces_stop : (d : Declarations) (before : List (List ℕ)) (is : List Interface) → Stops (BrokenInterfaces d before is) (check_interfaces d before is)
interfaces_stop d = members_stop (λ i. i.at) (λ i. i.name) (λ i. AreSignatures d [] i.methods) (λ i. BrokenSignatures d [] i.methods)
    (λ i. check_signatures d [] i.methods) (check_interfaces d) (λ before. refl) (λ before i is. refl) (λ i. signatures_stop d [] i.methods) (λ i e. right.signatures_so d [] i.methods e)

so_interfaces : (d : Declarations) (before : List (List ℕ)) (is : List Interface) (v : Violation) → BrokenInterfaces d before is v → check_interfaces d before is ≡ Err v
so_interfaces d = so_members (λ i. i.at) (λ i. i.name) (λ i. AreSignatures d [] i.methods) (λ i. BrokenSignatures d [] i.methods)
    (λ i. check_signatures d [] i.methods) (check_interfaces d) (λ before i is. refl) (λ i v b. so_signatures d [] i.methods v b) (λ i h. right.so_signatures d [] i.methods h)

class_stops : (d : Declarations) (c : Class) → Stops (BrokenClass d c) (check_class d c)
class_stops d c = order_stops (BrokenParams false d [] c.fields) (AreParams false d [] c.fields) (BrokenMethods d [] c.methods)
    (check_params false d [] c.fields) (check_methods d [] c.methods) (params_stop false d [] c.fields) (right.params_so false d [] c.fields) (methods_stop d [] c.methods)

so_class : (d : Declarations) (c : Class) (v : Violation) → BrokenClass d c v → check_class d c ≡ Err v
so_class d c = so_order (BrokenParams false d [] c.fields) (AreParams false d [] c.fields) (BrokenMethods d [] c.methods)
    (check_params false d [] c.fields) (check_methods d [] c.methods) (so_params false d [] c.fields) (right.so_params false d [] c.fields) (so_all_methods d [] c.methods)

classes_stop : (d : Declarations) (before : List (List ℕ)) (cs : List Class) → Stops (BrokenClasses d before cs) (check_classes d before cs)
classes_stop d = members_stop (λ c. c.at) (λ c. c.name) (IsClass d) (BrokenClass d)
    (check_class d) (check_classes d) (λ before. refl) (λ before c cs. refl) (class_stops d) (right.class_so d)

so_classes : (d : Declarations) (before : List (List ℕ)) (cs : List Class) (v : Violation) → BrokenClasses d before cs v → check_classes d before cs ≡ Err v
so_classes d = so_members (λ c. c.at) (λ c. c.name) (IsClass d) (BrokenClass d)
    (check_class d) (check_classes d) (λ before c cs. refl) (so_class d) (right.so_class d)

declarations_stop : (d : Declarations) → Stops (BrokenDeclarations d) (check_declarations d)
declarations_stop d =
    let names = map (λ i. i.name) d.interfaces in
    order_stops (BrokenInterfaces d [] d.interfaces) (AreInterfaces d [] d.interfaces) (BrokenClasses d names d.classes)
    (check_interfaces d [] d.interfaces) (check_classes d names d.classes) (interfaces_stop d [] d.interfaces) (right.interfaces_so d [] d.interfaces) (classes_stop d names d.classes)

so_declarations : (d : Declarations) (v : Violation) → BrokenDeclarations d v → check_declarations d ≡ Err v
so_declarations d =
    let names = map (λ i. i.name) d.interfaces in
    so_order (BrokenInterfaces d [] d.interfaces) (AreInterfaces d [] d.interfaces) (BrokenClasses d names d.classes)
    (check_interfaces d [] d.interfaces) (check_classes d names d.classes) (so_interfaces d [] d.interfaces) (right.so_interfaces d [] d.interfaces) (so_classes d names d.classes)

-- a `return` whose type doesn't fit
fits_stops : (x : Context) (scope : Scope) (at : ℕ) (kind : Kind) (e : Expr) (found : Kind) (typed : type_of x scope e ≡ Ok found) (unit same : Truth) → is_unit kind ≡ unit → same_kind kind found ≡ same
    → Stops (BrokenReturn x scope at kind (Some e)) (must (not unit && same) (WrongType (expr_at e) found))
fits_stops x scope at kind e found typed true same u s = ends _ (WrongType (expr_at e) found) (unit_returned e found (typed_has x scope e found typed) u)
fits_stops x scope at kind e found typed false true u s = passes _ tt
fits_stops x scope at kind e found typed false false u s = ends _ (WrongType (expr_at e) found) (other_returned e found (typed_has x scope e found typed) (differs kind found s))

return_stops : (x : Context) (scope : Scope) (at : ℕ) (kind : Kind) (r : Option Expr) → Stops (BrokenReturn x scope at kind r) (check_return x scope at kind r)
return_stops x scope at kind (Some e) =
    placed_stops _ (expr_at e) (type_of x scope e) (λ p. return_fits kind p) (weaker _ _ (type_of x scope e) (λ v b. in_returned e v b) (expr_stops x scope e))
    (λ found typed. fits_stops x scope at kind e found typed (is_unit kind) (same_kind kind found) refl refl)
return_stops x scope at kind None = must_stop _ (is_unit kind) (MissingReturn at) (λ e. no_return e)

and_false : (a : Truth) → (a && false) ≡ false
and_false true = refl
and_false false = refl

so_no_return : (x : Context) (scope : Scope) (at : ℕ) (kind : Kind) (r : Option Expr) (v : Violation) → BrokenReturn x scope at kind r v → check_return x scope at kind r ≡ Err v
so_no_return x scope at kind _ _ (in_returned e v b) = rw (so_broken x scope e v b) refl
so_no_return x scope at kind _ _ (unit_returned e found typed u) = rw (has_typed x scope e found typed) (rw u refl)
so_no_return x scope at kind _ _ (other_returned e found typed d) =
    rw (has_typed x scope e found typed) (rw (undecided (same_kind kind found) (λ s. d (same_sound kind found s))) (rw (and_false (not (is_unit kind))) refl))
so_no_return x scope at kind _ _ (no_return u) = rw u refl

body_stops : (x : Context) (scope : Scope) (at : ℕ) (result : TypeTree) (body : Body) → Stops (BrokenBody x scope at (kind_of result) body) (check_body x scope at result body)
body_stops x scope at result body =
    bind_stops _ (check_stmts x scope body.statements) (λ after. check_return x after at (kind_of result) body.result)
    (weaker _ _ (check_stmts x scope body.statements) (λ v b. in_statements v b) (stmts_stops x scope body.statements))
    (λ after h. weaker _ _ (check_return x after at (kind_of result) body.result) (λ v b. in_return after v (all_lead x scope body.statements after h) b)
    (return_stops x after at (kind_of result) body.result))

so_broken_body : (x : Context) (scope : Scope) (at : ℕ) (result : TypeTree) (body : Body) (v : Violation) → BrokenBody x scope at (kind_of result) body v → check_body x scope at result body ≡ Err v
so_broken_body x scope at result body _ (in_statements v b) = rw (so_stmts x scope body.statements v b) refl
so_broken_body x scope at result body _ (in_return after v leads b) = rw (lead_all x scope body.statements after leads) (so_no_return x after at (kind_of result) body.result v b)

method_bodies_stop : (d : Declarations) (class : List ℕ) (ms : List Method) → Stops (BrokenMethodBodies d class ms) (check_method_bodies d class ms)
method_bodies_stop d class = list_stops (IsMethodBody d class) (BrokenMethodBody d class) (check_method_body d class) (check_method_bodies d class) refl (λ m ms. refl)
    (λ m. body_stops (method_context d class m.remote) (parameters m.signature.params) m.signature.at m.signature.result m.body)
    (λ m e. body_so (method_context d class m.remote) (parameters m.signature.params) m.signature.at m.signature.result m.body e)

so_method_bodies : (d : Declarations) (class : List ℕ) (ms : List Method) (v : Violation) → BrokenMethodBodies d class ms v → check_method_bodies d class ms ≡ Err v
so_method_bodies d class = so_list (IsMethodBody d class) (BrokenMethodBody d class) (check_method_body d class) (check_method_bodies d class) (λ m ms. refl)
    (λ m v b. so_broken_body (method_context d class m.remote) (parameters m.signature.params) m.signature.at m.signature.result m.body v b)
    (λ m h. so_body (method_context d class m.remote) (parameters m.signature.params) m.signature.at m.signature.result m.body h)

class_bodies_stop : (d : Declarations) (cs : List Class) → Stops (BrokenClassBodies d cs) (check_class_bodies d cs)
class_bodies_stop d = list_stops (λ c. AreMethodBodies d c.name c.methods) (λ c. BrokenMethodBodies d c.name c.methods) (λ c. check_method_bodies d c.name c.methods) (check_class_bodies d)
    refl (λ c cs. refl) (λ c. method_bodies_stop d c.name c.methods) (λ c e. methods_so d c.name c.methods e)

so_class_bodies : (d : Declarations) (cs : List Class) (v : Violation) → BrokenClassBodies d cs v → check_class_bodies d cs ≡ Err v
so_class_bodies d = so_list (λ c. AreMethodBodies d c.name c.methods) (λ c. BrokenMethodBodies d c.name c.methods) (λ c. check_method_bodies d c.name c.methods) (check_class_bodies d)
    (λ c cs. refl) (λ c v b. so_method_bodies d c.name c.methods v b) (λ c h. so_methods d c.name c.methods h)

program_stops : (p : Program) → Stops (FirstViolation p) (check_program p)
program_stops p =
    let d = of_program p in
    let body = check_body (main_context d) [] p.at p.result p.body in
    let result = main_type d p.at p.result in
    in_order _ (check_declarations d) (check_class_bodies d p.classes) (result >> body)
    (then_stops _ (check_declarations d) (check_class_bodies d p.classes >> (result >> body)) (weaker _ _ (check_declarations d) (λ v b. in_declarations v b) (declarations_stop d))
    (λ e. then_stops _ (check_class_bodies d p.classes) (result >> body)
    (weaker _ _ (check_class_bodies d p.classes) (λ v b. in_methods v (right.declared_so d e) b) (class_bodies_stop d p.classes))
    (λ f. then_stops _ result body
    (weaker _ _ result (λ v b. in_main_result v (right.declared_so d e) (bodies_so d p.classes f) b) (main_stops d p.at p.result))
    (λ g. let s = right.main_so d p.at p.result g in
    weaker _ _ body (λ v b. in_main v (right.declared_so d e) (bodies_so d p.classes f) s.0 s.1 b) (body_stops (main_context d) [] p.at p.result p.body)))))

pub first_program : (p : Program) (v : Violation) → FirstViolation p v → check_program p ≡ Err v
first_program p _ (in_declarations v b) = ap (λ r. r >> check_class_bodies (of_program p) p.classes >> check_main p) (so_declarations (of_program p) v b)
first_program p _ (in_methods v h b) =
    ap (λ r. r >> check_class_bodies (of_program p) p.classes >> check_main p) (right.so_declared (of_program p) h)
    ∙ ap (λ r. r >> check_main p) (so_class_bodies (of_program p) p.classes v b)
first_program p _ (in_main_result v h k b) =
    let body = check_body (main_context (of_program p)) [] p.at p.result p.body in
    ap (λ r. r >> check_class_bodies (of_program p) p.classes >> check_main p) (right.so_declared (of_program p) h)
    ∙ ap (λ r. r >> check_main p) (so_bodies (of_program p) p.classes k) ∙ ap (λ r. r >> body) (so_main (of_program p) p.at p.result v b)
first_program p _ (in_main v h k known fits b) =
    let body = check_body (main_context (of_program p)) [] p.at p.result p.body in
    ap (λ r. r >> check_class_bodies (of_program p) p.classes >> check_main p) (right.so_declared (of_program p) h)
    ∙ ap (λ r. r >> check_main p) (so_bodies (of_program p) p.classes k) ∙ ap (λ r. r >> body) (right.so_main (of_program p) p.at p.result known fits)
    ∙ so_broken_body (main_context (of_program p)) [] p.at p.result p.body v b

service_stops : (cs : List Class) → Stops (FirstViolationOfService cs) (check_service cs)
service_stops cs = let d = of_service cs in
    order_stops (BrokenDeclarations d) (AreDeclared d) (BrokenClassBodies d cs) (check_declarations d) (check_class_bodies d cs) (declarations_stop d) (right.declared_so d) (class_bodies_stop d cs)

pub program_first : (p : Program) (v : Violation) → check_program p ≡ Err v → FirstViolation p v
program_first p v e = let s = program_stops p in s.by v e

pub service_first : (cs : List Class) (v : Violation) → check_service cs ≡ Err v → FirstViolationOfService cs v
service_first cs v e = let s = service_stops cs in s.by v e

pub first_service : (cs : List Class) (v : Violation) → FirstViolationOfService cs v → check_service cs ≡ Err v
first_service cs = let d = of_service cs in
    so_order (BrokenDeclarations d) (AreDeclared d) (BrokenClassBodies d cs) (check_declarations d) (check_class_bodies d cs) (so_declarations d) (right.so_declared d) (so_class_bodies d cs)
