-- What is known of typed declarations: the classes, fields and methods that are found by name.
use Rattle.std.proofs.Common.{◌≡◌, refl, sym, ap, ◌∙◌, subst, ℕ, List, [], ◌∷◌, ◌++◌, map, append_assoc, append-nil, Bool as Truth, true, false, not, ◌&&◌, cond, All, Option, Some, None, Ok}
use Rattle.std.specs.Str.{bytes_eq}
use Rattle.std.specs.Option.{is_some}
use Rattle.std.proofs.lemmas.Slice.Eq.{bytes_eq-Decides}
use Rattle.std.proofs.lemmas.List.Elements.{All-nil, All-cons, All-head, All-tail}
use Rattle.rb_trees.specs.Named.{first_named}
use Rattle.rb_trees.specs.Outcome.{◌>>◌, must}
use Rattle.rb_trees.specs.mirror.Types as tree
use Rattle.rb_trees.specs.mirror.Types.{TypeTree, type_at}
use Rattle.rb_trees.specs.mirror.Declarations.{Param, Signature, Interface, Method, Class}
use Rattle.rb_meaning_types.specs.Kinds.{kind_of}
use Rattle.rb_meaning_types.specs.Names.{is_new, interface_named, class_named, method_named}
use Rattle.rb_meaning_types.specs.Violations.{TypeNotHere, NotAllowedHere}
use Rattle.rb_meaning_types.specs.Declared.{Declarations, is_class}
use Rattle.rb_meaning_types.specs.Places.{declared_type, value_type, value_result, is_remote_value, is_remote_result, parameter_type, result_type}
use Rattle.rb_meaning_types.specs.Bodies.{check_method_body, check_method_bodies, check_class_bodies}
use Rattle.rb_meaning_types.specs.Declarations.{new_name, check_params, check_signature, check_signatures, check_method, check_methods, check_interfaces, check_class, check_classes}
use Rattle.rb_law_types.specs.Formed.{IsFormedMethod, IsFormedClass, AreFormed}
use Rattle.rb_law_types.specs.Own.{IsOwnKind, IsFarItem, IsFarKind}
use Rattle.rb_law_types.specs.Code.{AreTyped}
use Rattle.rb_law_types.proofs.Checks.{then_ok, must_ok}

-- what is found by name

pub found_one : {A : Type 0} (P : A → Type 0) (name_of : A → List ℕ) (xs : List A) (name : List ℕ) (x : A) → first_named name_of xs name ≡ Some x → All P xs → P x
found_one P name_of [] name x e h = absurd (cc (e))
found_one P name_of (y ∷ ys) name x e h = by (bytes_eq (name_of y) name) e (λ e'. found_one P name_of ys name x e' (All-tail P y ys h))
  where
    by : (t : Truth) → cond t (Some y) (first_named name_of ys name) ≡ Some x → (first_named name_of ys name ≡ Some x → P x) → P x
    by true e' more = let same : y ≡ x = cc (e') in subst P same (All-head P y ys h)
    by false e' more = more e'

pub found_name : {A : Type 0} (name_of : A → List ℕ) (xs : List A) (name : List ℕ) (x : A) → first_named name_of xs name ≡ Some x → name_of x ≡ name
found_name name_of [] name x e = absurd (cc (e))
found_name name_of (y ∷ ys) name x e = by (bytes_eq (name_of y) name) refl e (found_name name_of ys name x)
  where
    by : (t : Truth) → bytes_eq (name_of y) name ≡ t → cond t (Some y) (first_named name_of ys name) ≡ Some x → (first_named name_of ys name ≡ Some x → name_of x ≡ name) → name_of x ≡ name
    by true is e' more = let same : y ≡ x = cc (e') in ap name_of (sym same) ∙ (bytes_eq-Decides (name_of y) name).0 is
    by false is e' more = more e'

new_less : (name : List ℕ) (before more : List (List ℕ)) → is_new name (before ++ more) ≡ true → is_new name before ≡ true
new_less name [] more h = refl
new_less name (other ∷ before) more h = by (bytes_eq other name) h (new_less name before more)
  where
    by : (t : Truth) → cond t false (is_new name (before ++ more)) ≡ true → (is_new name (before ++ more) ≡ true → is_new name before ≡ true) → cond t false (is_new name before) ≡ true
    by true h' rest = h'
    by false h' rest = rest h'

no_interface : (name : List ℕ) (is : List Interface) → is_new name (map (λ i. i.name) is) ≡ true → interface_named is name ≡ None
no_interface name [] h = refl
no_interface name (i ∷ is) h = by (bytes_eq i.name name) h (no_interface name is)
  where
    by : (t : Truth) → cond t false (is_new name (map (λ j. j.name) is)) ≡ true → (is_new name (map (λ j. j.name) is) ≡ true → interface_named is name ≡ None) → cond t (Some i) (interface_named is name) ≡ None
    by true h' rest = absurd (cc (h'))
    by false h' rest = rest h'

-- types of the own side

class_own : (d : Declarations) (name : List ℕ) → is_class d name ≡ true → interface_named d.interfaces name ≡ None
class_own d name h = by (interface_named d.interfaces name) h
  where
    by : (o : Option Interface) → cond (is_some o) false (is_some (class_named d.classes name)) ≡ true → o ≡ None
    by None h' = refl
    by (Some i) h' = absurd (cc (h'))

pub value_own : (d : Declarations) (t : TypeTree) → value_type d t ≡ Ok tt → IsOwnKind d.interfaces (kind_of t)
value_own d (tree.Int at) h = tt
value_own d (tree.Bool at) h = tt
value_own d (tree.Text at) h = tt
value_own d (tree.Unit at) h = tt
value_own d (tree.Named at name) h = class_own d name (must_ok (is_class d name) (TypeNotHere at) h)
value_own d (tree.ListOf at item) h = value_own d item h
value_own d (tree.RowsOf at row) h = absurd (cc (h))

result_own : (d : Declarations) (t : TypeTree) → value_result d t ≡ Ok tt → IsOwnKind d.interfaces (kind_of t)
result_own d (tree.Int at) h = tt
result_own d (tree.Bool at) h = tt
result_own d (tree.Text at) h = tt
result_own d (tree.Unit at) h = tt
result_own d (tree.Named at name) h = value_own d (tree.Named at name) h
result_own d (tree.ListOf at item) h = value_own d (tree.ListOf at item) h
result_own d (tree.RowsOf at row) h = absurd (cc (h))

abbrev pub IsOwnParam : Declarations → Param → Type 0
IsOwnParam d p = IsOwnKind d.interfaces (kind_of p.kind)

params_own : (d : Declarations) (before : List (List ℕ)) (ps : List Param) → check_params false d before ps ≡ Ok tt → All (IsOwnParam d) ps
params_own d before [] h = All-nil (IsOwnParam d)
params_own d before (p ∷ ps) h =
    let s = then_ok (new_name before p.at p.name >> parameter_type false d p.kind) (check_params false d (before ++ p.name ∷ []) ps) tt h in
    let t = then_ok (new_name before p.at p.name) (parameter_type false d p.kind) tt s.0 in
    let u = then_ok (declared_type d p.kind) (value_type d p.kind) tt t.1 in
    All-cons (IsOwnParam d) p ps (value_own d p.kind u.1) (params_own d (before ++ p.name ∷ []) ps s.1)

pub record IsOwnMethod (d : Declarations) (m : Method) : Type 0 where
  pub params : All (IsOwnParam d) m.signature.params
  pub result : IsOwnKind d.interfaces (kind_of m.signature.result)

method_own : (d : Declarations) (m : Method) → check_method d m ≡ Ok tt → IsOwnMethod d m
method_own d m h =
    let s = then_ok (check_signature false d m.signature) (must (not (d.service && m.remote)) (NotAllowedHere m.signature.at)) tt h in
    let t = then_ok (check_params false d [] m.signature.params) (result_type false d m.signature.result) tt s.0 in
    let u = then_ok (declared_type d m.signature.result) (value_result d m.signature.result) tt t.1 in
    record { params = params_own d [] m.signature.params t.0; result = result_own d m.signature.result u.1 }

methods_own : (d : Declarations) (before : List (List ℕ)) (ms : List Method) → check_methods d before ms ≡ Ok tt → All (IsOwnMethod d) ms
methods_own d before [] h = All-nil (IsOwnMethod d)
methods_own d before (m ∷ ms) h =
    let s = then_ok (new_name before m.signature.at m.signature.name >> check_method d m) (check_methods d (before ++ m.signature.name ∷ []) ms) tt h in
    let t = then_ok (new_name before m.signature.at m.signature.name) (check_method d m) tt s.0 in
    All-cons (IsOwnMethod d) m ms (method_own d m t.1) (methods_own d (before ++ m.signature.name ∷ []) ms s.1)

-- what is known of a class: it is no interface, and its members are of the own side
pub record IsOwnClass (d : Declarations) (c : Class) : Type 0 where
  pub own : interface_named d.interfaces c.name ≡ None
  pub fields : All (IsOwnParam d) c.fields
  pub methods : All (IsOwnMethod d) c.methods

classes_own : (d : Declarations) (more : List (List ℕ)) (cs : List Class) → check_classes d (map (λ i. i.name) d.interfaces ++ more) cs ≡ Ok tt → All (IsOwnClass d) cs
classes_own d more [] h = All-nil (IsOwnClass d)
classes_own d more (c ∷ cs) h =
    let before = map (λ i. i.name) d.interfaces ++ more in
    let s = then_ok (new_name before c.at c.name >> check_class d c) (check_classes d (before ++ c.name ∷ []) cs) tt h in
    let t = then_ok (new_name before c.at c.name) (check_class d c) tt s.0 in
    let u = then_ok (check_params false d [] c.fields) (check_methods d [] c.methods) tt t.1 in
    All-cons (IsOwnClass d) c cs
    (record {
      own = no_interface c.name d.interfaces (new_less c.name (map (λ i. i.name) d.interfaces) more (must_ok (is_new c.name before) _ t.0));
      fields = params_own d [] c.fields u.0;
      methods = methods_own d [] c.methods u.1;
    })
    (classes_own d (more ++ c.name ∷ []) cs (subst (λ names. check_classes d names cs ≡ Ok tt) (append_assoc (map (λ i. i.name) d.interfaces) more (c.name ∷ [])) s.1))

-- results of interfaces' methods

item_far : (d : Declarations) (t : TypeTree) → is_remote_value d t ≡ true → IsFarItem d.interfaces (kind_of t)
item_far d (tree.Int at) h = tt
item_far d (tree.Bool at) h = tt
item_far d (tree.Text at) h = tt
item_far d (tree.Unit at) h = absurd (cc (h))
item_far d (tree.Named at name) h = h
item_far d (tree.ListOf at item) h = absurd (cc (h))
item_far d (tree.RowsOf at row) h = absurd (cc (h))

result_far : (d : Declarations) (t : TypeTree) → is_remote_result d t ≡ true → IsFarKind d.interfaces (kind_of t)
result_far d (tree.Int at) h = tt
result_far d (tree.Bool at) h = tt
result_far d (tree.Text at) h = tt
result_far d (tree.Unit at) h = tt
result_far d (tree.Named at name) h = h
result_far d (tree.ListOf at item) h = absurd (cc (h))
result_far d (tree.RowsOf at row) h = item_far d row h

abbrev pub GivesFar : Declarations → Signature → Type 0
GivesFar d s = IsFarKind d.interfaces (kind_of s.result)

signatures_far : (d : Declarations) (before : List (List ℕ)) (ss : List Signature) → check_signatures d before ss ≡ Ok tt → All (GivesFar d) ss
signatures_far d before [] h = All-nil (GivesFar d)
signatures_far d before (s ∷ ss) h =
    let a = then_ok (new_name before s.at s.name >> check_signature true d s) (check_signatures d (before ++ s.name ∷ []) ss) tt h in
    let b = then_ok (new_name before s.at s.name) (check_signature true d s) tt a.0 in
    let c = then_ok (check_params true d [] s.params) (result_type true d s.result) tt b.1 in
    let e = then_ok (declared_type d s.result) (must (is_remote_result d s.result) (TypeNotHere (type_at s.result))) tt c.1 in
    All-cons (GivesFar d) s ss (result_far d s.result (must_ok (is_remote_result d s.result) (TypeNotHere (type_at s.result)) e.1)) (signatures_far d (before ++ s.name ∷ []) ss a.1)

abbrev pub AllGiveFar : Declarations → Interface → Type 0
AllGiveFar d i = All (GivesFar d) i.methods

interfaces_far : (d : Declarations) (before : List (List ℕ)) (is : List Interface) → check_interfaces d before is ≡ Ok tt → All (AllGiveFar d) is
interfaces_far d before [] h = All-nil (AllGiveFar d)
interfaces_far d before (i ∷ is) h =
    let a = then_ok (new_name before i.at i.name >> check_signatures d [] i.methods) (check_interfaces d (before ++ i.name ∷ []) is) tt h in
    let b = then_ok (new_name before i.at i.name) (check_signatures d [] i.methods) tt a.0 in
    All-cons (AllGiveFar d) i is (signatures_far d [] i.methods b.1) (interfaces_far d (before ++ i.name ∷ []) is a.1)

-- bodies

abbrev HasBody : Declarations → List ℕ → Method → Type 0
HasBody d class m = check_method_body d class m ≡ Ok tt

methods_checked : (d : Declarations) (class : List ℕ) (ms : List Method) → check_method_bodies d class ms ≡ Ok tt → All (HasBody d class) ms
methods_checked d class [] h = All-nil (HasBody d class)
methods_checked d class (m ∷ ms) h =
    let s = then_ok (check_method_body d class m) (check_method_bodies d class ms) tt h in
    All-cons (HasBody d class) m ms s.0 (methods_checked d class ms s.1)

abbrev HasBodies : Declarations → Class → Type 0
HasBodies d c = All (HasBody d c.name) c.methods

classes_checked : (d : Declarations) (cs : List Class) → check_class_bodies d cs ≡ Ok tt → All (HasBodies d) cs
classes_checked d [] h = All-nil (HasBodies d)
classes_checked d (c ∷ cs) h =
    let s = then_ok (check_method_bodies d c.name c.methods) (check_class_bodies d cs) tt h in
    All-cons (HasBodies d) c cs (methods_checked d c.name c.methods s.0) (classes_checked d cs s.1)

-- what is known of declarations
pub record Known (d : Declarations) : Type 0 where
  pub classes : All (IsOwnClass d) d.classes
  pub bodies : All (HasBodies d) d.classes
  pub formed : AreFormed d.classes
  pub alone : d.service ≡ true → d.interfaces ≡ []
  pub interfaces : All (AllGiveFar d) d.interfaces

pub typed_known : (d : Declarations) → AreTyped d → Known d
typed_known d h =
    let s = then_ok (check_interfaces d [] d.interfaces) (check_classes d (map (λ i. i.name) d.interfaces) d.classes) tt h.declared in
    record {
      classes = classes_own d [] d.classes (subst (λ names. check_classes d names d.classes ≡ Ok tt) (sym (append-nil (map (λ i. i.name) d.interfaces))) s.1);
      bodies = classes_checked d d.classes h.bodies;
      formed = h.formed;
      alone = h.alone;
      interfaces = interfaces_far d [] d.interfaces s.0;
    }

-- a class that is found by name
pub record IsKnown (d : Declarations) (name : List ℕ) (c : Class) : Type 0 where
  pub named : c.name ≡ name
  pub class : IsOwnClass d c
  pub bodies : HasBodies d c
  pub formed : IsFormedClass c

pub class_known : (d : Declarations) → Known d → (name : List ℕ) (c : Class) → class_named d.classes name ≡ Some c → IsKnown d name c
class_known d k name c e = record {
  named = found_name (λ y. y.name) d.classes name c e;
  class = found_one (IsOwnClass d) (λ y. y.name) d.classes name c e k.classes;
  bodies = found_one (HasBodies d) (λ y. y.name) d.classes name c e k.bodies;
  formed = found_one IsFormedClass (λ y. y.name) d.classes name c e k.formed;
}

pub class_apart : (d : Declarations) → Known d → (name : List ℕ) (c : Class) → class_named d.classes name ≡ Some c → interface_named d.interfaces name ≡ None
class_apart d k name c e = let known' = class_known d k name c e in subst (λ n. interface_named d.interfaces n ≡ None) known'.named known'.class.own

-- a method of such a class
pub record IsMethod (d : Declarations) (class : List ℕ) (m : Method) : Type 0 where
  pub own : IsOwnMethod d m
  pub body : check_method_body d class m ≡ Ok tt
  pub formed : IsFormedMethod m

pub method_known : (d : Declarations) (class : List ℕ) (c : Class) → IsKnown d class c → (name : List ℕ) (m : Method) → method_named c.methods name ≡ Some m → IsMethod d class m
method_known d class c k name m e = record {
  own = found_one (IsOwnMethod d) (λ y. y.signature.name) c.methods name m e k.class.methods;
  body = subst (λ n. check_method_body d n m ≡ Ok tt) k.named (found_one (HasBody d c.name) (λ y. y.signature.name) c.methods name m e k.bodies);
  formed = found_one IsFormedMethod (λ y. y.signature.name) c.methods name m e k.formed;
}
