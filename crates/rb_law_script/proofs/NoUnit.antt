-- No part of a typed expression is of type Unit, and neither is what a statement does something with.
use Rattle.std.proofs.Common.{◌≡◌, refl, subst, arith, ℕ, suc, List, [], ◌∷◌, ◌++◌, map, length, Bool as Truth, true, false, not, ◌&&◌, cond, nat_eq, Some, None, Ok, Err}
use Rattle.std.specs.Str.{bytes_eq}
use Rattle.std.specs.List.{AllByRecursion}
use Rattle.std.proofs.lemmas.Bool.{eqb-true}
use Rattle.rb_trees.specs.Classes.{class_named, method_named}
use Rattle.rb_trees.specs.Outcome.{◌>>◌, known, must}
use Rattle.rb_trees.specs.declared.code.UnOp.{UnOp}
use Rattle.rb_trees.specs.declared.code.UnOp.TheVariants as un
use Rattle.rb_trees.specs.declared.code.BinOp.{BinOp}
use Rattle.rb_trees.specs.declared.code.BinOp.TheVariants as bin
use Rattle.rb_trees.specs.mirror.Types as tree
use Rattle.rb_trees.specs.mirror.Types.{TypeTree}
use Rattle.rb_trees.specs.mirror.Declarations.{Param, Method, Class}
use Rattle.rb_meaning_types.specs.Kinds as kind
use Rattle.rb_meaning_types.specs.Kinds.{Kind, kind_of, is_unit}
use Rattle.rb_meaning_types.specs.Names.{field_named}
use Rattle.rb_meaning_types.specs.Violations.{Checked, Placed, UnknownName, NotAllowedHere, WrongCount, wanted, wrong_type}
use Rattle.rb_meaning_types.specs.Declared.{Declarations, Context}
use Rattle.rb_meaning_types.specs.Declarations.{new_name, check_params, check_signature, check_method, check_methods, check_interfaces, check_class, check_classes, check_declarations}
use Rattle.rb_meaning_types.specs.Places.{declared_type, value_type, item_type, parameter_type, result_type}
use Rattle.rb_meaning_types.specs.Operators.{takes_operand, takes_left, unary_kind, binary_kind, binary_result, unary_result, item_of, index_kind}
use Rattle.rb_meaning_types.specs.Members.{arguments_wanted, arguments_fit, receiver_class, field_kind, signature_kind, call_on, receiver_interface, call_kind, new_kind}
use Rattle.rb_meaning_types.specs.Expressions.{all_wanted, items_kind, with_first}
use Rattle.rb_law_types.proofs.Checks.{bind_ok, then_ok, known_ok, must_ok, wanted_ok}

abbrev pub NoUnit : Kind → Type 0
NoUnit k = is_unit k ≡ false

abbrev pub AllNoUnit : List Placed → Type 0
AllNoUnit ps = AllByRecursion (λ p. NoUnit p.kind) ps

-- types that are written

value_no_unit : (d : Declarations) (t : TypeTree) → value_type d t ≡ Ok tt → NoUnit (kind_of t)
value_no_unit d (tree.Int at) h = refl
value_no_unit d (tree.Bool at) h = refl
value_no_unit d (tree.Text at) h = refl
value_no_unit d (tree.Unit at) h = absurd (cc (h))
value_no_unit d (tree.Named at name) h = refl
value_no_unit d (tree.ListOf at item) h = refl
value_no_unit d (tree.RowsOf at row) h = refl

abbrev Params : List Param → Type 0
Params ps = AllByRecursion (λ p. NoUnit (kind_of p.kind)) ps

params_no_unit : (d : Declarations) (before : List (List ℕ)) (ps : List Param) → check_params false d before ps ≡ Ok tt → Params ps
params_no_unit d before [] h = tt
params_no_unit d before (p ∷ ps) h =
    let s = then_ok (new_name before p.at p.name >> parameter_type false d p.kind) (check_params false d (before ++ p.name ∷ []) ps) tt h in
    let t = then_ok (new_name before p.at p.name) (parameter_type false d p.kind) tt s.0 in
    let u = then_ok (declared_type d p.kind) (value_type d p.kind) tt t.1 in
    (value_no_unit d p.kind u.1, params_no_unit d (before ++ p.name ∷ []) ps s.1)

class_checked : (d : Declarations) (before : List (List ℕ)) (cs : List Class) (name : List ℕ) (c : Class) → check_classes d before cs ≡ Ok tt → class_named cs name ≡ Some c → check_class d c ≡ Ok tt
class_checked d before [] name c h e = absurd (cc (e))
class_checked d before (b ∷ cs) name c h e =
    let s = then_ok (new_name before b.at b.name >> check_class d b) (check_classes d (before ++ b.name ∷ []) cs) tt h in
    let t = then_ok (new_name before b.at b.name) (check_class d b) tt s.0 in
    by (bytes_eq b.name name) e t.1 (λ k. class_checked d (before ++ b.name ∷ []) cs name c s.1 k)
  where
    by : (q : Truth) → cond q (Some b) (class_named cs name) ≡ Some c → check_class d b ≡ Ok tt → (class_named cs name ≡ Some c → check_class d c ≡ Ok tt) → check_class d c ≡ Ok tt
    by true k first rest = let same : b ≡ c = cc (k) in subst (λ z. check_class d z ≡ Ok tt) same first
    by false k first rest = rest k

method_checked : (d : Declarations) (before : List (List ℕ)) (ms : List Method) (name : List ℕ) (m : Method) → check_methods d before ms ≡ Ok tt → method_named ms name ≡ Some m → check_method d m ≡ Ok tt
method_checked d before [] name m h e = absurd (cc (e))
method_checked d before (b ∷ ms) name m h e =
    let s = then_ok (new_name before b.signature.at b.signature.name >> check_method d b) (check_methods d (before ++ b.signature.name ∷ []) ms) tt h in
    let t = then_ok (new_name before b.signature.at b.signature.name) (check_method d b) tt s.0 in
    by (bytes_eq b.signature.name name) e t.1 (λ k. method_checked d (before ++ b.signature.name ∷ []) ms name m s.1 k)
  where
    by : (q : Truth) → cond q (Some b) (method_named ms name) ≡ Some m → check_method d b ≡ Ok tt → (method_named ms name ≡ Some m → check_method d m ≡ Ok tt) → check_method d m ≡ Ok tt
    by true k first rest = let same : b ≡ m = cc (k) in subst (λ z. check_method d z ≡ Ok tt) same first
    by false k first rest = rest k

field_no_unit : (fields : List Param) (name : List ℕ) (p : Param) → Params fields → field_named fields name ≡ Some p → NoUnit (kind_of p.kind)
field_no_unit [] name p h e = absurd (cc (e))
field_no_unit (q ∷ fields) name p h e = by (bytes_eq q.name name) e (λ k. field_no_unit fields name p h.1 k)
  where
    by : (t : Truth) → cond t (Some q) (field_named fields name) ≡ Some p → (field_named fields name ≡ Some p → NoUnit (kind_of p.kind)) → NoUnit (kind_of p.kind)
    by true k rest = let same : q ≡ p = cc (k) in subst (λ z. NoUnit (kind_of z.kind)) same h.0
    by false k rest = rest k

-- arguments that are wanted

wanted_no_unit : (k : Kind) (p : Placed) → NoUnit k → wanted k p ≡ Ok tt → NoUnit p.kind
wanted_no_unit k p h w = subst NoUnit (wanted_ok k p w) h

more_than_none : (n : ℕ) → suc n ≡ 0 → ⊥
more_than_none n h = omega (arith, h)

one_less : (n m : ℕ) → suc n ≡ suc m → n ≡ m
one_less n m h = omega (arith, h)

arguments_no_unit : (params : List Param) (args : List Placed) → Params params → length args ≡ length params → arguments_wanted params args ≡ Ok tt → AllNoUnit args
arguments_no_unit [] [] h n w = tt
arguments_no_unit [] (a ∷ args) h n w = absurd (more_than_none (length args) n)
arguments_no_unit (p ∷ ps) [] h n w = tt
arguments_no_unit (p ∷ ps) (a ∷ args) h n w =
    let s = then_ok (wanted (kind_of p.kind) a) (arguments_wanted ps args) tt w in
    (wanted_no_unit (kind_of p.kind) a h.0 s.0, arguments_no_unit ps args h.1 (one_less (length args) (length ps) n) s.1)

fit_no_unit : (at : ℕ) (params : List Param) (args : List Placed) → Params params → arguments_fit at params args ≡ Ok tt → AllNoUnit args
fit_no_unit at params args h e =
    let s = then_ok (must (nat_eq (length args) (length params)) (WrongCount at)) (arguments_wanted params args) tt e in
    arguments_no_unit params args h (eqb-true (length args) (length params) (must_ok (nat_eq (length args) (length params)) (WrongCount at) s.0)) s.1

all_wanted_no_unit : (k : Kind) (ps : List Placed) → NoUnit k → all_wanted k ps ≡ Ok tt → AllNoUnit ps
all_wanted_no_unit k [] h e = tt
all_wanted_no_unit k (p ∷ ps) h e =
    let s = then_ok (wanted k p) (all_wanted k ps) tt e in
    (wanted_no_unit k p h s.0, all_wanted_no_unit k ps h s.1)

-- operators

unit_operand : (op : UnOp) → takes_operand op kind.Unit ≡ true → ⊥
unit_operand un.Not h = absurd (cc (h))
unit_operand un.Neg h = absurd (cc (h))
unit_operand un.Len h = absurd (cc (h))
unit_operand un.Str h = absurd (cc (h))

unit_left : (op : BinOp) → takes_left op kind.Unit ≡ true → ⊥
unit_left bin.Add h = absurd (cc (h))
unit_left bin.Sub h = absurd (cc (h))
unit_left bin.Mul h = absurd (cc (h))
unit_left bin.Div h = absurd (cc (h))
unit_left bin.Rem h = absurd (cc (h))
unit_left bin.Eq h = absurd (cc (h))
unit_left bin.Ne h = absurd (cc (h))
unit_left bin.Lt h = absurd (cc (h))
unit_left bin.Le h = absurd (cc (h))
unit_left bin.Gt h = absurd (cc (h))
unit_left bin.Ge h = absurd (cc (h))
unit_left bin.And h = absurd (cc (h))
unit_left bin.Or h = absurd (cc (h))

-- what isn't so of Unit
unless_unit : (P : Kind → Truth) (k : Kind) → (P kind.Unit ≡ true → ⊥) → P k ≡ true → NoUnit k
unless_unit P kind.Unit f h = absurd (f h)
unless_unit P kind.Int f h = refl
unless_unit P kind.Bool f h = refl
unless_unit P kind.Text f h = refl
unless_unit P (kind.Named name) f h = refl
unless_unit P (kind.ListOf item) f h = refl
unless_unit P (kind.RowsOf row) f h = refl

pub operand_no_unit : (op : UnOp) (p : Placed) (k : Kind) → unary_kind op p ≡ Ok k → NoUnit p.kind
operand_no_unit op p k h =
    let s = then_ok (must (takes_operand op p.kind) (wrong_type p)) (Ok (unary_result op)) k h in
    unless_unit (takes_operand op) p.kind (unit_operand op) (must_ok (takes_operand op p.kind) (wrong_type p) s.0)

pub operands_no_unit : (op : BinOp) (p q : Placed) (k : Kind) → binary_kind op p q ≡ Ok k → NoUnit p.kind × NoUnit q.kind
operands_no_unit op p q k h =
    let s = then_ok (must (takes_left op p.kind) (wrong_type p) >> wanted p.kind q) (Ok (binary_result op p.kind)) k h in
    let t = then_ok (must (takes_left op p.kind) (wrong_type p)) (wanted p.kind q) tt s.0 in
    let left = unless_unit (takes_left op) p.kind (unit_left op) (must_ok (takes_left op p.kind) (wrong_type p) t.0) in
    (left, wanted_no_unit p.kind q left t.1)

of_list : (at : ℕ) (k item : Kind) → item_of (record { at = at; kind = k }) k ≡ Ok item → NoUnit k
of_list at kind.Unit item h = absurd (cc (h))
of_list at kind.Int item h = refl
of_list at kind.Bool item h = refl
of_list at kind.Text item h = refl
of_list at (kind.Named name) item h = refl
of_list at (kind.ListOf i) item h = refl
of_list at (kind.RowsOf row) item h = refl

pub index_no_unit : (at : ℕ) (l : Kind) (q : Placed) (k : Kind) → index_kind (record { at = at; kind = l }) q ≡ Ok k → NoUnit l × NoUnit q.kind
index_no_unit at l q k h =
    let s = bind_ok (item_of (record { at = at; kind = l }) l) _ k h in
    let t = then_ok (wanted kind.Int q) (Ok s.0) k s.2 in
    (of_list at l s.0 s.1, wanted_no_unit kind.Int q refl t.0)

receiver_no_unit : (d : Declarations) (p : Placed) (k : Kind) (c : Class) → receiver_class d p k ≡ Ok c → NoUnit k
receiver_no_unit d p kind.Unit c h = absurd (cc (h))
receiver_no_unit d p kind.Int c h = refl
receiver_no_unit d p kind.Bool c h = refl
receiver_no_unit d p kind.Text c h = refl
receiver_no_unit d p (kind.Named name) c h = refl
receiver_no_unit d p (kind.ListOf i) c h = refl
receiver_no_unit d p (kind.RowsOf row) c h = refl

class_found : (d : Declarations) (p : Placed) (k : Kind) (c : Class) → receiver_class d p k ≡ Ok c → (name : List ℕ) × (class_named d.classes name ≡ Some c)
class_found d p (kind.Named name) c h = (name, known_ok (wrong_type p) (class_named d.classes name) c h)
class_found d p kind.Unit c h = absurd (cc (h))
class_found d p kind.Int c h = absurd (cc (h))
class_found d p kind.Bool c h = absurd (cc (h))
class_found d p kind.Text c h = absurd (cc (h))
class_found d p (kind.ListOf i) c h = absurd (cc (h))
class_found d p (kind.RowsOf row) c h = absurd (cc (h))

module _ (d : Declarations) (declared : check_declarations d ≡ Ok tt) where
  -- a class of the declarations has passed its check
  of_class : (name : List ℕ) (c : Class) → class_named d.classes name ≡ Some c → check_class d c ≡ Ok tt
  of_class name c e =
      let s = then_ok (check_interfaces d [] d.interfaces) (check_classes d (map (λ i. i.name) d.interfaces) d.classes) tt declared in
      class_checked d (map (λ i. i.name) d.interfaces) d.classes name c s.1 e

  fields_no_unit : (name : List ℕ) (c : Class) → class_named d.classes name ≡ Some c → Params c.fields
  fields_no_unit name c e =
      let u = then_ok (check_params false d [] c.fields) (check_methods d [] c.methods) tt (of_class name c e) in
      params_no_unit d [] c.fields u.0

  methods_no_unit : (name : List ℕ) (c : Class) (method : List ℕ) (m : Method) → class_named d.classes name ≡ Some c → method_named c.methods method ≡ Some m → Params m.signature.params
  methods_no_unit name c method m e f =
      let u = then_ok (check_params false d [] c.fields) (check_methods d [] c.methods) tt (of_class name c e) in
      let s = then_ok (check_signature false d m.signature) (must (not (d.service && m.remote)) (NotAllowedHere m.signature.at)) tt (method_checked d [] c.methods method m u.1 f) in
      let t = then_ok (check_params false d [] m.signature.params) (result_type false d m.signature.result) tt s.0 in
      params_no_unit d [] m.signature.params t.0

  pub field_kind_no_unit : (at : ℕ) (name : List ℕ) (p : Placed) (k : Kind) → field_kind d at name p ≡ Ok k → NoUnit p.kind × NoUnit k
  field_kind_no_unit at name p k h =
      let s = bind_ok (receiver_class d p p.kind) _ k h in
      let t = bind_ok (known (UnknownName at) (field_named s.0.fields name)) _ k s.2 in
      let found = class_found d p p.kind s.0 s.1 in
      let same : kind_of t.0.kind ≡ k = cc (t.2) in
      (receiver_no_unit d p p.kind s.0 s.1, subst NoUnit same (field_no_unit s.0.fields name t.0 (fields_no_unit found.0 s.0 found.1) (known_ok (UnknownName at) (field_named s.0.fields name) t.0 t.1)))

  pub new_no_unit : (at : ℕ) (name : List ℕ) (ps : List Placed) (k : Kind) → new_kind d at name ps ≡ Ok k → AllNoUnit ps
  new_no_unit at name ps k h =
      let s = bind_ok (known (UnknownName at) (class_named d.classes name)) _ k h in
      let t = then_ok (arguments_fit at s.0.fields ps) (Ok (kind.Named name)) k s.2 in
      fit_no_unit at s.0.fields ps (fields_no_unit name s.0 (known_ok (UnknownName at) (class_named d.classes name) s.0 s.1)) t.0

  pub items_no_unit : (item : TypeTree) (ps : List Placed) (k : Kind) → items_kind d item ps ≡ Ok k → AllNoUnit ps
  items_no_unit item ps k h =
      let s = then_ok (item_type d item >> all_wanted (kind_of item) ps) (Ok (kind.ListOf (kind_of item))) k h in
      let t = then_ok (item_type d item) (all_wanted (kind_of item) ps) tt s.0 in
      let u = then_ok (declared_type d item) (value_type d item) tt t.0 in
      all_wanted_no_unit (kind_of item) ps (value_no_unit d item u.1) t.1

  -- a call on an object of the own side
  pub own_call_no_unit : (x : Context) → x.declared ≡ d → (at : ℕ) (method : List ℕ) (p : Placed) (ps : List Placed) (k : Kind) → receiver_interface x.declared p.kind ≡ None → call_kind x at method p ps ≡ Ok k → AllNoUnit ps
  own_call_no_unit x same at method p ps k own h =
      let none : call_on x at method p ps None ≡ Ok k = subst (λ o. call_on x at method p ps o ≡ Ok k) own h in
      let s = bind_ok (receiver_class x.declared p p.kind) _ k none in
      let t = bind_ok (known (UnknownName at) (method_named s.0.methods method)) _ k s.2 in
      let u = bind_ok (signature_kind at t.0.signature ps) _ k t.2 in
      let w = then_ok (arguments_fit at t.0.signature.params ps) (Ok (kind_of t.0.signature.result)) u.0 u.1 in
      let found = class_found x.declared p p.kind s.0 s.1 in
      fit_no_unit at t.0.signature.params ps
      (methods_no_unit found.0 s.0 method t.0 (subst (λ e. class_named e.classes found.0 ≡ Some s.0) same found.1) (known_ok (UnknownName at) (method_named s.0.methods method) t.0 t.1)) w.0

-- a receiver
pub called_no_unit : (x : Context) (at place : ℕ) (method : List ℕ) (l : Kind) (ps : List Placed) (k : Kind) → call_kind x at method (record { at = place; kind = l }) ps ≡ Ok k → NoUnit l
called_no_unit x at place method kind.Unit ps k h = absurd (cc (h))
called_no_unit x at place method kind.Int ps k h = refl
called_no_unit x at place method kind.Bool ps k h = refl
called_no_unit x at place method kind.Text ps k h = refl
called_no_unit x at place method (kind.Named name) ps k h = refl
called_no_unit x at place method (kind.ListOf i) ps k h = refl
called_no_unit x at place method (kind.RowsOf row) ps k h = refl

pub first_typed : (p : Placed) (r : Checked (List Placed)) (ps : List Placed) → with_first p r ≡ Ok ps → (qs : List Placed) × (r ≡ Ok qs) × (p ∷ qs ≡ ps)
first_typed p (Ok qs) ps h = (qs, refl, cc (h))
first_typed p (Err fault) ps h = absurd (cc (h))
