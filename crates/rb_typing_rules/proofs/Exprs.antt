-- The rules on expressions and the type that is computed agree.
use Rattle.std.proofs.Common.{◌≡◌, ℕ, List, [], ◌∷◌, not, ◌||◌, Option, Some, None, Ok, Err, refl, ap, sym, subst}
use Rattle.rb_trees.specs.mirror.Code.{Expr, Exprs, Lit, Name, This, Unary, Binary, Field, Call, Index, New, Items, Taken, NoExprs, MoreExprs, expr_at}
use Rattle.rb_trees.specs.mirror.Declarations.{Signature, Interface}
use Rattle.rb_meaning_types.specs.Kinds.{Kind, Int, Bool, Text, Unit as UnitKind, Named, ListOf, RowsOf, kind_of}
use Rattle.rb_meaning_types.specs.Names.{class_named, field_named, signature_named, method_named}
use Rattle.rb_meaning_types.specs.Violations.{Checked, Placed, UnknownName, NotAllowedHere, wrong_type}
use Rattle.rb_trees.specs.Outcome.{◌>>◌, known, must}
use Rattle.rb_meaning_types.specs.Scopes.{Scope, variable_named}
use Rattle.rb_meaning_types.specs.Literals.{literal_kind}
use Rattle.rb_meaning_types.specs.Places.{item_type}
use Rattle.rb_meaning_types.specs.Members.{arguments_fit, receiver_class, signature_kind, class_call, receiver_interface, call_on}
use Rattle.rb_meaning_types.specs.Declared.{Context}
use Rattle.rb_meaning_types.specs.Expressions.{type_of, types_of, with_first, all_wanted}
use Rattle.rb_typing_rules.specs.Rules.{HasType, HaveTypes, kinds_of, AreAll, literal, variable, this, unary, binary, field, interface_call as on_interface, class_call as on_class, index, new, items, none, more}
use Rattle.rb_typing_rules.proofs.Steps.{bind_ok, then_ok, known_ok, must_ok, placed_ok, same_refl}
use Rattle.rb_typing_rules.proofs.Groups.{kinds_placed, this_ok, unary_ok, binary_ok, index_ok, fit_ok, fit_so, all_ok, all_so, receiver_ok}

abbrev pub placed_at : ℕ → Kind → Placed
placed_at at kind = record { at = at; kind = kind }

first_ok : (p : Placed) (r : Checked (List Placed)) (ps : List Placed) → with_first p r ≡ Ok ps → (qs : List Placed) × (r ≡ Ok qs) × (p ∷ qs ≡ ps)
first_ok p (Ok qs) ps h = (qs, refl, cc)
first_ok p (Err e) ps h = absurd (cc)

signature_so : (x : Context) (scope : Scope) (at : ℕ) (s : Signature) (ps : List Placed) (kind : Kind) → signature_kind at s ps ≡ Ok kind → (kinds_placed ps ≡ kinds_of s.params) × (kind_of s.result ≡ kind)
signature_so x scope at s ps kind h =
    let t = then_ok (arguments_fit at s.params ps) (Ok (kind_of s.result)) kind h in
    (fit_ok at s.params ps t.0, let e = t.1 in cc)

-- a call, by the interface that its receiver may have
call_has : (x : Context) (scope : Scope) (at : ℕ) (a : Expr) (method : List ℕ) (args : Exprs) (receiver : Kind) (ps : List Placed) (kind : Kind)
    → HasType x scope a receiver → HaveTypes x scope args (kinds_placed ps)
    → (found : Option Interface) → receiver_interface x.declared receiver ≡ found → call_on x at method (placed_at (expr_at a) receiver) ps found ≡ Ok kind
    → HasType x scope (Call at a method args) kind
call_has x scope at a method args (Named name) ps kind typed typed_args (Some interface) is h =
    let s = bind_ok (known (UnknownName at) (signature_named interface.methods method)) (λ s. signature_kind at s ps) kind h in
    let t = signature_so x scope at s.0 ps kind s.2 in
    subst (HasType x scope (Call at a method args)) t.1
    (on_interface at a method args name interface s.0 typed (subst (HaveTypes x scope args) t.0 typed_args) is (known_ok (UnknownName at) (signature_named interface.methods method) s.0 s.1))
call_has x scope at a method args (Named name) ps kind typed typed_args None is h =
    let p = placed_at (expr_at a) (Named name) in
    let s = bind_ok (receiver_class x.declared p (Named name)) (λ class. class_call x at method class ps) kind h in
    let found = known_ok (wrong_type p) (class_named x.declared.classes name) s.0 s.1 in
    let t = bind_ok (known (UnknownName at) (method_named s.0.methods method)) _ kind s.2 in
    let u = bind_ok (signature_kind at t.0.signature ps) _ kind t.2 in
    let v = then_ok (must (x.remote || not t.0.remote) (NotAllowedHere at)) (Ok u.0) kind u.2 in
    let w = signature_so x scope at t.0.signature ps u.0 u.1 in
    let same : kind_of t.0.signature.result ≡ kind = (let e = v.1 in let f = w.1 in cc) in
    subst (HasType x scope (Call at a method args)) same
    (on_class at a method args name s.0 t.0 typed (subst (HaveTypes x scope args) w.0 typed_args) is found
    (known_ok (UnknownName at) (method_named s.0.methods method) t.0 t.1) (must_ok (x.remote || not t.0.remote) (NotAllowedHere at) v.0))
call_has x scope at a method args Int ps kind typed typed_args (Some interface) is h = absurd (cc)
call_has x scope at a method args Int ps kind typed typed_args None is h = absurd (cc)
call_has x scope at a method args Bool ps kind typed typed_args (Some interface) is h = absurd (cc)
call_has x scope at a method args Bool ps kind typed typed_args None is h = absurd (cc)
call_has x scope at a method args Text ps kind typed typed_args (Some interface) is h = absurd (cc)
call_has x scope at a method args Text ps kind typed typed_args None is h = absurd (cc)
call_has x scope at a method args UnitKind ps kind typed typed_args (Some interface) is h = absurd (cc)
call_has x scope at a method args UnitKind ps kind typed typed_args None is h = absurd (cc)
call_has x scope at a method args (ListOf item) ps kind typed typed_args (Some interface) is h = absurd (cc)
call_has x scope at a method args (ListOf item) ps kind typed typed_args None is h = absurd (cc)
call_has x scope at a method args (RowsOf row) ps kind typed typed_args (Some interface) is h = absurd (cc)
call_has x scope at a method args (RowsOf row) ps kind typed typed_args None is h = absurd (cc)

mutual
  pub typed_has : (x : Context) (scope : Scope) (e : Expr) (kind : Kind) → type_of x scope e ≡ Ok kind → HasType x scope e kind
  typed_has x scope (Lit at value) kind h = let e : literal_kind value ≡ kind = cc in subst (HasType x scope (Lit at value)) e (literal at value)
  typed_has x scope (Name at name) kind h =
      let s = bind_ok (known (UnknownName at) (variable_named scope name)) (λ v. Ok v.kind) kind h in
      let e : s.0.kind ≡ kind = (let f = s.2 in cc) in
      subst (HasType x scope (Name at name)) e (variable at name s.0 (known_ok (UnknownName at) (variable_named scope name) s.0 s.1))
  typed_has x scope (This at) kind h = let s = this_ok x.this at kind h in subst (HasType x scope (This at)) s.2 (this at s.0 s.1)
  typed_has x scope (Unary at op a) kind h =
      let s = placed_ok (expr_at a) (type_of x scope a) _ kind h in
      let t = unary_ok op (placed_at (expr_at a) s.0) kind s.2 in
      subst (HasType x scope (Unary at op a)) t.1 (unary at op a s.0 (typed_has x scope a s.0 s.1) t.0)
  typed_has x scope (Binary at op a b) kind h =
      let s = placed_ok (expr_at a) (type_of x scope a) _ kind h in
      let t = placed_ok (expr_at b) (type_of x scope b) _ kind s.2 in
      let u = binary_ok op (placed_at (expr_at a) s.0) (placed_at (expr_at b) t.0) kind t.2 in
      subst (HasType x scope (Binary at op a b)) u.2
      (binary at op a b s.0 (typed_has x scope a s.0 s.1) u.0 (subst (HasType x scope b) (sym u.1) (typed_has x scope b t.0 t.1)))
  typed_has x scope (Field at a name) kind h =
      let s = placed_ok (expr_at a) (type_of x scope a) _ kind h in
      let t = bind_ok (receiver_class x.declared (placed_at (expr_at a) s.0) s.0) _ kind s.2 in
      let r = receiver_ok x.declared (placed_at (expr_at a) s.0) s.0 t.0 t.1 in
      let u = bind_ok (known (UnknownName at) (field_named t.0.fields name)) (λ f. Ok (kind_of f.kind)) kind t.2 in
      let e : kind_of u.0.kind ≡ kind = (let f = u.2 in cc) in
      subst (HasType x scope (Field at a name)) e
      (field at a name r.0 t.0 u.0 (subst (HasType x scope a) r.1 (typed_has x scope a s.0 s.1)) r.2 (known_ok (UnknownName at) (field_named t.0.fields name) u.0 u.1))
  typed_has x scope (Call at a method args) kind h =
      let s = placed_ok (expr_at a) (type_of x scope a) _ kind h in
      let t = bind_ok (types_of x scope args) _ kind s.2 in
      call_has x scope at a method args s.0 t.0 kind (typed_has x scope a s.0 s.1) (typed_have x scope args t.0 t.1) (receiver_interface x.declared s.0) refl t.2
  typed_has x scope (Index at a b) kind h =
      let s = placed_ok (expr_at a) (type_of x scope a) _ kind h in
      let t = placed_ok (expr_at b) (type_of x scope b) _ kind s.2 in
      let u = index_ok (placed_at (expr_at a) s.0) (placed_at (expr_at b) t.0) kind t.2 in
      index at a b kind (subst (HasType x scope a) u.0 (typed_has x scope a s.0 s.1)) (subst (HasType x scope b) (sym u.1) (typed_has x scope b t.0 t.1))
  typed_has x scope (New at name args) kind h =
      let s = bind_ok (types_of x scope args) _ kind h in
      let t = bind_ok (known (UnknownName at) (class_named x.declared.classes name)) _ kind s.2 in
      let u = then_ok (arguments_fit at t.0.fields s.0) (Ok (Named name)) kind t.2 in
      let e : Named name ≡ kind = (let f = u.1 in cc) in
      subst (HasType x scope (New at name args)) e
      (new at name args t.0 (known_ok (UnknownName at) (class_named x.declared.classes name) t.0 t.1) (subst (HaveTypes x scope args) (fit_ok at t.0.fields s.0 u.0) (typed_have x scope args s.0 s.1)))
  typed_has x scope (Items at item es) kind h =
      let s = bind_ok (types_of x scope es) _ kind h in
      let t = then_ok (item_type x.declared item >> all_wanted (kind_of item) s.0) (Ok (ListOf (kind_of item))) kind s.2 in
      let u = then_ok (item_type x.declared item) (all_wanted (kind_of item) s.0) tt t.0 in
      let e : ListOf (kind_of item) ≡ kind = (let f = t.1 in cc) in
      subst (HasType x scope (Items at item es)) e (items at item es (kinds_placed s.0) (typed_have x scope es s.0 s.1) u.0 (all_ok (kind_of item) s.0 u.1))
  typed_has x scope (Taken at step) kind h = absurd (cc)

  pub typed_have : (x : Context) (scope : Scope) (es : Exprs) (ps : List Placed) → types_of x scope es ≡ Ok ps → HaveTypes x scope es (kinds_placed ps)
  typed_have x scope NoExprs ps h = let e : [] ≡ ps = cc in subst (λ qs. HaveTypes x scope NoExprs (kinds_placed qs)) e none
  typed_have x scope (MoreExprs e es) ps h =
      let s = placed_ok (expr_at e) (type_of x scope e) _ ps h in
      let t = first_ok (placed_at (expr_at e) s.0) (types_of x scope es) ps s.2 in
      subst (λ qs. HaveTypes x scope (MoreExprs e es) (kinds_placed qs)) t.2 (more e es s.0 (kinds_placed t.0) (typed_has x scope e s.0 s.1) (typed_have x scope es t.0 t.1))

mutual
  pub has_typed : (x : Context) (scope : Scope) (e : Expr) (kind : Kind) → HasType x scope e kind → type_of x scope e ≡ Ok kind
  has_typed x scope _ _ (literal at value) = refl
  has_typed x scope _ _ (variable at name v is) = rw is refl
  has_typed x scope _ _ (this at class is) = rw is refl
  has_typed x scope _ _ (unary at op a kind typed takes) = rw (has_typed x scope a kind typed) (rw takes refl)
  has_typed x scope _ _ (binary at op a b kind first takes second) =
      rw (has_typed x scope a kind first) (rw (has_typed x scope b kind second) (rw takes (rw (same_refl kind) refl)))
  has_typed x scope _ _ (field at a name object class f typed found is) = rw (has_typed x scope a (Named object) typed) (rw found (rw is refl))
  has_typed x scope _ _ (on_interface at a method args receiver interface s typed typed_args found is) =
      let ps = have_typed x scope args (kinds_of s.params) typed_args in
      rw (has_typed x scope a (Named receiver) typed) (rw ps.1 (rw found (rw is (rw (fit_so at s.params ps.0 ps.2) refl))))
  has_typed x scope _ _ (on_class at a method args receiver class m typed typed_args absent found is may) =
      let ps = have_typed x scope args (kinds_of m.signature.params) typed_args in
      rw (has_typed x scope a (Named receiver) typed) (rw ps.1 (rw absent (rw found (rw is (rw (fit_so at m.signature.params ps.0 ps.2) (rw may refl))))))
  has_typed x scope _ _ (index at a b kind list number) = rw (has_typed x scope a (ListOf kind) list) (rw (has_typed x scope b Int number) refl)
  has_typed x scope _ _ (new at name args class found typed_args) =
      let ps = have_typed x scope args (kinds_of class.fields) typed_args in
      rw ps.1 (rw found (rw (fit_so at class.fields ps.0 ps.2) refl))
  has_typed x scope _ _ (items at item es kinds typed may all) =
      let ps = have_typed x scope es kinds typed in
      rw ps.1 (rw may (rw (all_so (kind_of item) ps.0 (subst (AreAll (kind_of item)) (sym ps.2) all)) refl))

  pub have_typed : (x : Context) (scope : Scope) (es : Exprs) (kinds : List Kind) → HaveTypes x scope es kinds → (ps : List Placed) × (types_of x scope es ≡ Ok ps) × (kinds_placed ps ≡ kinds)
  have_typed x scope _ _ none = ([], refl, refl)
  have_typed x scope _ _ (more e es kind kinds first rest) =
      let ps = have_typed x scope es kinds rest in
      (placed_at (expr_at e) kind ∷ ps.0, rw (has_typed x scope e kind first) (rw ps.1 refl), ap (λ ks. kind ∷ ks) ps.2)
