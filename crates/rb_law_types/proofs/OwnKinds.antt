-- At a place of the own side each expression's type is of the own side.
use Rattle.std.proofs.Common.{◌≡◌, ◌⊎◌, inl, inr, refl, subst, ℕ, List, [], ◌∷◌, ◌++◌, Bool as Truth, true, false, not, ◌||◌, cond, All, Option, Some, None, Ok}
use Rattle.std.specs.Str.{bytes_eq}
use Rattle.std.proofs.lemmas.List.Elements.{All-head, All-tail}
use Rattle.rb_trees.specs.Outcome.{◌>>=◌, ◌>>◌, known, must}
use Rattle.rb_trees.specs.declared.values.Value.{Value}
use Rattle.rb_trees.specs.declared.values.Value.TheOpen.{Value-F}
use Rattle.rb_trees.specs.declared.values.Value.TheViews.{out-Value}
use Rattle.rb_trees.specs.declared.code.BinOp.{BinOp}
use Rattle.rb_trees.specs.declared.code.BinOp.TheVariants as bin
use Rattle.rb_trees.specs.declared.code.UnOp.{UnOp}
use Rattle.rb_trees.specs.declared.code.UnOp.TheVariants as un
use Rattle.rb_trees.specs.mirror.Types.{TypeTree}
use Rattle.rb_trees.specs.mirror.Code.{Expr, Lit, Name, This, Unary, Binary, Field, Call, Index, New, Items, Taken, expr_at}
use Rattle.rb_trees.specs.mirror.Declarations.{Param, Interface, Method, Class}
use Rattle.rb_meaning_types.specs.Kinds as kind
use Rattle.rb_meaning_types.specs.Kinds.{Kind, kind_of}
use Rattle.rb_meaning_types.specs.Names.{interface_named, class_named, method_named, field_named, signature_named}
use Rattle.rb_meaning_types.specs.Violations.{Placed, UnknownName, NotAllowedHere, wanted, wrong_type}
use Rattle.rb_meaning_types.specs.Declared.{Declarations, Context}
use Rattle.rb_meaning_types.specs.Scopes.{Scope, Variable, variable_named, parameters}
use Rattle.rb_meaning_types.specs.Literals.{literal_form, literal_kind}
use Rattle.rb_meaning_types.specs.Operators.{takes_operand, unary_result, takes_left, binary_result, item_of}
use Rattle.rb_meaning_types.specs.Members.{arguments_fit, receiver_class, field_kind, signature_kind, interface_call, class_call, call_on, receiver_interface, call_kind, new_kind}
use Rattle.rb_meaning_types.specs.Places.{declared_type, value_type, item_type}
use Rattle.rb_meaning_types.specs.Expressions.{this_kind, all_wanted, items_kind, type_of, types_of}
use Rattle.rb_meaning_types.specs.Fits.{frame_scope}
use Rattle.rb_law_types.specs.Own.{IsOwnKind, IsOwnScope, IsOwnPlace, IsFarKind}
use Rattle.rb_law_types.proofs.Checks.{bind_ok, then_ok, known_ok, must_ok, placed_ok}
use Rattle.rb_law_types.proofs.Known.{Known, GivesFar, AllGiveFar, IsOwnParam, class_known, class_apart, method_known, found_one, value_own}

-- what look-ups of members tell

pub receiver_ok : (d : Declarations) (p : Placed) (k : Kind) (c : Class) → receiver_class d p k ≡ Ok c → (name : List ℕ) × (k ≡ kind.Named name) × (class_named d.classes name ≡ Some c)
receiver_ok d p (kind.Named name) c h = (name, refl, known_ok (wrong_type p) (class_named d.classes name) c h)
receiver_ok d p kind.Int c h = absurd (cc (h))
receiver_ok d p _ c h = absurd (cc (h))

-- a field of an object of a class
pub record IsField (d : Declarations) (name : List ℕ) (p : Placed) (k : Kind) : Type 0 where
  pub class : List ℕ
  pub of_class : Class
  pub field : Param
  pub receiver : p.kind ≡ kind.Named class
  pub found : class_named d.classes class ≡ Some of_class
  pub there : field_named of_class.fields name ≡ Some field
  pub same : kind_of field.kind ≡ k

pub field_ok : (d : Declarations) (at : ℕ) (name : List ℕ) (p : Placed) (k : Kind) → field_kind d at name p ≡ Ok k → IsField d name p k
field_ok d at name p k h =
    let s = bind_ok (receiver_class d p p.kind) _ k h in
    let t = bind_ok (known (UnknownName at) (field_named (s.0).fields name)) _ k s.2 in
    let r = receiver_ok d p p.kind s.0 s.1 in
    record { class = r.0; of_class = s.0; field = t.0; receiver = r.1; found = r.2; there = known_ok (UnknownName at) (field_named (s.0).fields name) t.0 t.1; same = cc (t.2) }

-- a call of a method of a class
pub record IsCall (d : Declarations) (remote : Truth) (at : ℕ) (name : List ℕ) (p : Placed) (args : List Placed) (k : Kind) : Type 0 where
  pub class : List ℕ
  pub of_class : Class
  pub method : Method
  pub receiver : p.kind ≡ kind.Named class
  pub found : class_named d.classes class ≡ Some of_class
  pub there : method_named of_class.methods name ≡ Some method
  pub args_fit : arguments_fit at method.signature.params args ≡ Ok tt
  pub allowed : (remote || not method.remote) ≡ true
  pub same : kind_of method.signature.result ≡ k

class_call_ok : (x : Context) (at : ℕ) (name : List ℕ) (p : Placed) (args : List Placed) (k : Kind)
    → (receiver_class x.declared p p.kind >>= λ c. class_call x at name c args) ≡ Ok k → IsCall x.declared x.remote at name p args k
class_call_ok x at name p args k h =
    let s = bind_ok (receiver_class x.declared p p.kind) (λ c. class_call x at name c args) k h in
    let t = bind_ok (known (UnknownName at) (method_named (s.0).methods name)) _ k s.2 in
    let u = bind_ok (signature_kind at (t.0).signature args) _ k t.2 in
    let v = then_ok (arguments_fit at (t.0).signature.params args) (Ok (kind_of (t.0).signature.result)) u.0 u.1 in
    let w = then_ok (must (x.remote || not (t.0).remote) (NotAllowedHere at)) (Ok u.0) k u.2 in
    let r = receiver_ok x.declared p p.kind s.0 s.1 in
    record { class = r.0; of_class = s.0; method = t.0; receiver = r.1; found = r.2; there = known_ok (UnknownName at) (method_named (s.0).methods name) t.0 t.1; args_fit = v.0; allowed = must_ok (x.remote || not (t.0).remote) (NotAllowedHere at) w.0; same = cc (v.1, w.1) }

no_receiver : (d : Declarations) (k : Kind) → IsOwnKind d.interfaces k → receiver_interface d k ≡ None
no_receiver d kind.Int h = refl
no_receiver d kind.Bool h = refl
no_receiver d kind.Text h = refl
no_receiver d kind.Unit h = refl
no_receiver d (kind.Named name) h = h
no_receiver d (kind.ListOf item) h = refl
no_receiver d (kind.RowsOf row) h = absurd h

pub call_ok : (x : Context) (at : ℕ) (name : List ℕ) (p : Placed) (args : List Placed) (k : Kind) → IsOwnKind x.declared.interfaces p.kind → call_kind x at name p args ≡ Ok k → IsCall x.declared x.remote at name p args k
call_ok x at name p args k own h = class_call_ok x at name p args k (subst (λ o. call_on x at name p args o ≡ Ok k) (no_receiver x.declared p.kind own) h)

-- a call on an object of the service
pub record IsFarCall (d : Declarations) (k : Kind) : Type 0 where
  pub name : List ℕ
  pub interface : Interface
  pub receiver : k ≡ kind.Named name
  pub found : interface_named d.interfaces name ≡ Some interface

receiver_far : (d : Declarations) (k : Kind) (i : Interface) → receiver_interface d k ≡ Some i → (name : List ℕ) × (k ≡ kind.Named name) × (interface_named d.interfaces name ≡ Some i)
receiver_far d (kind.Named name) i e = (name, refl, e)
receiver_far d kind.Int i e = absurd (cc (e))
receiver_far d _ i e = absurd (cc (e))

-- its result is one that comes from a remote object
pub far_result : (d : Declarations) → Known d → (at : ℕ) (name : List ℕ) (i : Interface) (args : List Placed) (k : Kind) → AllGiveFar d i → interface_call at name i args ≡ Ok k → IsFarKind d.interfaces k
far_result d known' at name i args k all h =
    let s = bind_ok (known (UnknownName at) (signature_named i.methods name)) _ k h in
    let t = then_ok (arguments_fit at (s.0).params args) (Ok (kind_of (s.0).result)) k s.2 in
    let same : kind_of (s.0).result ≡ k = cc (t.1) in
    subst (IsFarKind d.interfaces) same (found_one (GivesFar d) (λ y. y.name) i.methods name s.0 (known_ok (UnknownName at) (signature_named i.methods name) s.0 s.1) all)

-- a call is on an own object or on a remote one
pub call_how : (x : Context) → Known x.declared → (at : ℕ) (name : List ℕ) (p : Placed) (args : List Placed) (k : Kind) → call_kind x at name p args ≡ Ok k
    → IsCall x.declared x.remote at name p args k ⊎ (IsFarCall x.declared p.kind × IsFarKind x.declared.interfaces k)
call_how x known' at name p args k h = by (receiver_interface x.declared p.kind) refl h
  where
    by : (o : Option Interface) → receiver_interface x.declared p.kind ≡ o → call_on x at name p args o ≡ Ok k → IsCall x.declared x.remote at name p args k ⊎ (IsFarCall x.declared p.kind × IsFarKind x.declared.interfaces k)
    by None e h' = inl (class_call_ok x at name p args k h')
    by (Some i) e h' =
        let f = receiver_far x.declared p.kind i e in
        let all = found_one (AllGiveFar x.declared) (λ y. y.name) x.declared.interfaces f.0 i f.2 known'.interfaces in
        inr (record { name = f.0; interface = i; receiver = f.1; found = f.2 }, far_result x.declared known' at name i args k all h')

pub not_far : (d : Declarations) (k : Kind) → IsOwnKind d.interfaces k → IsFarCall d k → ⊥
not_far d k own far = let none : interface_named d.interfaces far.name ≡ None = subst (IsOwnKind d.interfaces) far.receiver own in absurd (cc (none, far.found))

-- a new object
pub record IsNew (d : Declarations) (at : ℕ) (name : List ℕ) (args : List Placed) (k : Kind) : Type 0 where
  pub of_class : Class
  pub found : class_named d.classes name ≡ Some of_class
  pub args_fit : arguments_fit at of_class.fields args ≡ Ok tt
  pub same : kind.Named name ≡ k

pub new_ok : (d : Declarations) (at : ℕ) (name : List ℕ) (args : List Placed) (k : Kind) → new_kind d at name args ≡ Ok k → IsNew d at name args k
new_ok d at name args k h =
    let s = bind_ok (known (UnknownName at) (class_named d.classes name)) _ k h in
    let t = then_ok (arguments_fit at (s.0).fields args) (Ok (kind.Named name)) k s.2 in
    record { of_class = s.0; found = known_ok (UnknownName at) (class_named d.classes name) s.0 s.1; args_fit = t.0; same = cc (t.1) }

-- a list by its items
pub record IsItems (d : Declarations) (item : TypeTree) (ps : List Placed) (k : Kind) : Type 0 where
  pub placed : item_type d item ≡ Ok tt
  pub wanted_all : all_wanted (kind_of item) ps ≡ Ok tt
  pub same : kind.ListOf (kind_of item) ≡ k

pub items_ok : (d : Declarations) (item : TypeTree) (ps : List Placed) (k : Kind) → items_kind d item ps ≡ Ok k → IsItems d item ps k
items_ok d item ps k h =
    let s = then_ok (item_type d item >> all_wanted (kind_of item) ps) (Ok (kind.ListOf (kind_of item))) k h in
    let t = then_ok (item_type d item) (all_wanted (kind_of item) ps) tt s.0 in
    record { placed = t.0; wanted_all = t.1; same = cc (s.1) }

-- own types

literal_own : (is : List Interface) (w : Value-F Value) → IsOwnKind is (literal_form w)
literal_own is (Value-F.Int n) = tt
literal_own is (Value-F.Bool b) = tt
literal_own is (Value-F.Text t) = tt
literal_own is Value-F.Unit = tt
literal_own is _ = tt

scope_own : (is : List Interface) (scope : Scope) (name : List ℕ) (v : Variable) → IsOwnScope is scope → variable_named scope name ≡ Some v → IsOwnKind is v.kind
scope_own is [] name v h e = absurd (cc (e))
scope_own is (w ∷ ws) name v h e = by (bytes_eq w.name name) e (scope_own is ws name v h.1)
  where
    by : (t : Truth) → cond t (Some w) (variable_named ws name) ≡ Some v → (variable_named ws name ≡ Some v → IsOwnKind is v.kind) → IsOwnKind is v.kind
    by true e' more = let same : w ≡ v = cc (e') in subst (λ u. IsOwnKind is u.kind) same h.0
    by false e' more = more e'

place_scope : (is : List Interface) (this : Option (List ℕ)) (scope : Scope) → IsOwnScope is (frame_scope this scope) → IsOwnScope is scope
place_scope is None scope h = h
place_scope is (Some class) scope h = h.1

this_own : (is : List Interface) (this : Option (List ℕ)) (scope : Scope) (at : ℕ) (k : Kind) → IsOwnScope is (frame_scope this scope) → this_kind this at ≡ Ok k → IsOwnKind is k
this_own is (Some class) scope at k h e = let same : kind.Named class ≡ k = cc (e) in subst (IsOwnKind is) same h.0
this_own is None scope at k h e = absurd (cc (e))

unary_own : (is : List Interface) (o : UnOp) → IsOwnKind is (unary_result o)
unary_own is un.Not = tt
unary_own is un.Neg = tt
unary_own is un.Len = tt
unary_own is un.Str = tt

binary_own : (is : List Interface) (o : BinOp) (k : Kind) → IsOwnKind is k → IsOwnKind is (binary_result o k)
binary_own is bin.Add k h = h
binary_own is bin.Sub k h = tt
binary_own is _ k h = tt

item_own : (is : List Interface) (p : Placed) (list k : Kind) → IsOwnKind is list → item_of p list ≡ Ok k → IsOwnKind is k
item_own is p (kind.ListOf item) k h e = let same : item ≡ k = cc (e) in subst (IsOwnKind is) same h
item_own is p kind.Int k h e = absurd (cc (e))
item_own is p _ k h e = absurd (cc (e))

module _ (x : Context) (known' : Known x.declared) (scope : Scope) (own : IsOwnPlace x scope) where
  pub type_own : (e : Expr) (k : Kind) → type_of x scope e ≡ Ok k → IsOwnKind x.declared.interfaces k
  unfolding literal_kind
  type_own (Lit at v) k h = let same : literal_form (out-Value v) ≡ k = cc (h) in subst (IsOwnKind x.declared.interfaces) same (literal_own x.declared.interfaces (out-Value v))
  type_own (Name at name) k h =
      let s = bind_ok (known (UnknownName at) (variable_named scope name)) _ k h in
      let same : (s.0).kind ≡ k = cc (s.2) in
      subst (IsOwnKind x.declared.interfaces) same (scope_own x.declared.interfaces scope name s.0 (place_scope x.declared.interfaces x.this scope own) (known_ok (UnknownName at) (variable_named scope name) s.0 s.1))
  type_own (This at) k h = this_own x.declared.interfaces x.this scope at k own h
  type_own (Unary at o a) k h =
      let s = placed_ok (expr_at a) (type_of x scope a) _ k h in
      let t = then_ok (must (takes_operand o s.0) (wrong_type (record { at = expr_at a; kind = s.0 }))) (Ok (unary_result o)) k s.2 in
      let same : unary_result o ≡ k = cc (t.1) in
      subst (IsOwnKind x.declared.interfaces) same (unary_own x.declared.interfaces o)
  type_own (Binary at o a b) k h =
      let s = placed_ok (expr_at a) (type_of x scope a) _ k h in
      let u = placed_ok (expr_at b) (type_of x scope b) _ k s.2 in
      let t = then_ok (must (takes_left o s.0) (wrong_type (record { at = expr_at a; kind = s.0 })) >> wanted s.0 (record { at = expr_at b; kind = u.0 })) (Ok (binary_result o s.0)) k u.2 in
      let same : binary_result o s.0 ≡ k = cc (t.1) in
      subst (IsOwnKind x.declared.interfaces) same (binary_own x.declared.interfaces o s.0 (type_own a s.0 s.1))
  type_own (Field at a name) k h =
      let s = placed_ok (expr_at a) (type_of x scope a) _ k h in
      let f = field_ok x.declared at name (record { at = expr_at a; kind = s.0 }) k s.2 in
      let c = class_known x.declared known' f.class f.of_class f.found in
      subst (IsOwnKind x.declared.interfaces) f.same (found_one (IsOwnParam x.declared) (λ y. y.name) f.of_class.fields name f.field f.there c.class.fields)
  type_own (Call at a name args) k h =
      let s = placed_ok (expr_at a) (type_of x scope a) _ k h in
      let ts = bind_ok (types_of x scope args) _ k s.2 in
      let f = call_ok x at name (record { at = expr_at a; kind = s.0 }) ts.0 k (type_own a s.0 s.1) ts.2 in
      let m = method_known x.declared f.class f.of_class (class_known x.declared known' f.class f.of_class f.found) name f.method f.there in
      subst (IsOwnKind x.declared.interfaces) f.same m.own.result
  type_own (Index at a b) k h =
      let s = placed_ok (expr_at a) (type_of x scope a) _ k h in
      let u = placed_ok (expr_at b) (type_of x scope b) _ k s.2 in
      let t = bind_ok (item_of (record { at = expr_at a; kind = s.0 }) s.0) (λ item. wanted kind.Int (record { at = expr_at b; kind = u.0 }) >> Ok item) k u.2 in
      let v = then_ok (wanted kind.Int (record { at = expr_at b; kind = u.0 })) (Ok t.0) k t.2 in
      let same : t.0 ≡ k = cc (v.1) in
      subst (IsOwnKind x.declared.interfaces) same (item_own x.declared.interfaces (record { at = expr_at a; kind = s.0 }) s.0 t.0 (type_own a s.0 s.1) t.1)
  type_own (New at name args) k h =
      let ts = bind_ok (types_of x scope args) _ k h in
      let f = new_ok x.declared at name ts.0 k ts.2 in
      subst (IsOwnKind x.declared.interfaces) f.same (class_apart x.declared known' name f.of_class f.found)
  type_own (Items at item items) k h =
      let ts = bind_ok (types_of x scope items) _ k h in
      let f = items_ok x.declared item ts.0 k ts.2 in
      let t = then_ok (declared_type x.declared item) (value_type x.declared item) tt f.placed in
      subst (IsOwnKind x.declared.interfaces) f.same (value_own x.declared item t.1)
  type_own (Taken at step) k h = absurd (cc (h))

-- scopes of the own side

own_added : (is : List Interface) (scope : Scope) (v : Variable) → IsOwnScope is scope → IsOwnKind is v.kind → IsOwnScope is (scope ++ v ∷ [])
own_added is [] v h k = (k, tt)
own_added is (w ∷ ws) v h k = (h.0, own_added is ws v h.1 k)

pub place_added : (x : Context) (scope : Scope) (v : Variable) → IsOwnPlace x scope → IsOwnKind x.declared.interfaces v.kind → IsOwnPlace x (scope ++ v ∷ [])
place_added x scope v own k = by x.this own
  where
    by : (this : Option (List ℕ)) → IsOwnScope x.declared.interfaces (frame_scope this scope) → IsOwnScope x.declared.interfaces (frame_scope this (scope ++ v ∷ []))
    by None h = own_added x.declared.interfaces scope v h k
    by (Some class) h = (h.0, own_added x.declared.interfaces scope v h.1 k)

pub own_parameters : (d : Declarations) (ps : List Param) → All (IsOwnParam d) ps → IsOwnScope d.interfaces (parameters ps)
own_parameters d [] h = tt
own_parameters d (p ∷ ps) h = (All-head (IsOwnParam d) p ps h, own_parameters d ps (All-tail (IsOwnParam d) p ps h))
