-- Where values of the types of remote objects and of rows come from: names, and remote calls.
use Rattle.std.proofs.Common.{◌≡◌, ◌⊎◌, inl, inr, refl, ap, subst, ℕ, List, [], ◌∷◌, ◌++◌, Bool as Truth, true, false, ◌||◌, cond, Option, Some, None, is_some, Ok}
use Rattle.std.specs.Str.{bytes_eq}
use Rattle.rb_trees.specs.Outcome.{◌>>◌, known, must}
use Rattle.rb_trees.specs.declared.values.Value.{Value}
use Rattle.rb_trees.specs.declared.values.Value.TheOpen.{Value-F}
use Rattle.rb_trees.specs.declared.values.Value.TheViews.{out-Value}
use Rattle.rb_trees.specs.declared.code.BinOp.{BinOp}
use Rattle.rb_trees.specs.declared.code.BinOp.TheVariants as bin
use Rattle.rb_trees.specs.declared.code.UnOp.{UnOp}
use Rattle.rb_trees.specs.declared.code.UnOp.TheVariants as un
use Rattle.rb_trees.specs.mirror.Code.{Expr, Lit, Name, This, Unary, Binary, Field, Call, Index, New, Items, Taken, expr_at}
use Rattle.rb_trees.specs.mirror.Declarations.{Interface}
use Rattle.rb_meaning_types.specs.Kinds as kind
use Rattle.rb_meaning_types.specs.Kinds.{Kind}
use Rattle.rb_meaning_types.specs.Names.{interface_named}
use Rattle.rb_meaning_types.specs.Violations.{Placed, UnknownName, wanted, wrong_type}
use Rattle.rb_meaning_types.specs.Declared.{Declarations, Context}
use Rattle.rb_meaning_types.specs.Scopes.{Scope, Variable, variable_named}
use Rattle.rb_meaning_types.specs.Literals.{literal_form, literal_kind}
use Rattle.rb_meaning_types.specs.Operators.{takes_operand, unary_result, takes_left, binary_result, item_of}
use Rattle.rb_meaning_types.specs.Places.{declared_type, value_type}
use Rattle.rb_meaning_types.specs.Expressions.{this_kind, type_of, types_of}
use Rattle.rb_law_types.specs.Own.{IsOwnKind, IsFarKind}
use Rattle.rb_law_types.proofs.Checks.{bind_ok, then_ok, known_ok, must_ok, placed_ok}
use Rattle.rb_law_types.proofs.Known.{Known, IsOwnParam, class_known, class_apart, method_known, found_one, value_own}
use Rattle.rb_law_types.proofs.OwnKinds.{field_ok, IsFarCall, call_how, new_ok, items_ok}
use Rattle.rb_law_local.specs.Shown.{is_far}
use Rattle.rb_law_local.specs.Admitted.{IsKnownKind, AreKnownKinds}

pub own_near : (d : Declarations) (k : Kind) → IsOwnKind d.interfaces k → is_far d k ≡ false
own_near d kind.Int h = refl
own_near d kind.Bool h = refl
own_near d kind.Text h = refl
own_near d kind.Unit h = refl
own_near d (kind.Named name) h = ap (λ o. is_some o || false) h
own_near d (kind.ListOf item) h = refl
own_near d (kind.RowsOf row) h = absurd h

literal_own : (is : List Interface) (w : Value-F Value) → IsOwnKind is (literal_form w)
literal_own is (Value-F.Int n) = tt
literal_own is (Value-F.Bool b) = tt
literal_own is (Value-F.Text t) = tt
literal_own is Value-F.Unit = tt
literal_own is _ = tt

unary_own : (is : List Interface) (o : UnOp) → IsOwnKind is (unary_result o)
unary_own is un.Not = tt
unary_own is un.Neg = tt
unary_own is un.Len = tt
unary_own is un.Str = tt

-- what `+` takes is of the own side
added_own : (is : List Interface) (k : Kind) → takes_left bin.Add k ≡ true → IsKnownKind is k → IsOwnKind is k
added_own is kind.Int t h = tt
added_own is kind.Text t h = tt
added_own is (kind.ListOf item) t (inl h) = h
added_own is (kind.ListOf item) t (inr h) = absurd h
added_own is kind.Bool t h = tt
added_own is kind.Unit t h = tt
added_own is (kind.Named name) t h = absurd (cc (t))
added_own is (kind.RowsOf row) t h = absurd (cc (t))

binary_own : (is : List Interface) (o : BinOp) (k : Kind) → takes_left o k ≡ true → IsKnownKind is k → IsOwnKind is (binary_result o k)
binary_own is bin.Add k t h = added_own is k t h
binary_own is bin.Sub k t h = tt
binary_own is _ k t h = tt

pub item_own : (is : List Interface) (item : Kind) → IsKnownKind is (kind.ListOf item) → IsOwnKind is item
item_own is item (inl h) = h
item_own is item (inr h) = absurd h

indexed_own : (is : List Interface) (p : Placed) (list k : Kind) → IsKnownKind is list → item_of p list ≡ Ok k → IsOwnKind is k
indexed_own is p (kind.ListOf item) k h e = let same : item ≡ k = cc (e) in subst (IsOwnKind is) same (item_own is item h)
indexed_own is p kind.Int k h e = absurd (cc (e))
indexed_own is p _ k h e = absurd (cc (e))

scope_known : (is : List Interface) (scope : Scope) (name : List ℕ) (v : Variable) → AreKnownKinds is scope → variable_named scope name ≡ Some v → IsKnownKind is v.kind
scope_known is [] name v h e = absurd (cc (e))
scope_known is (w ∷ ws) name v h e = by (bytes_eq w.name name) e (scope_known is ws name v h.1)
  where
    by : (t : Truth) → cond t (Some w) (variable_named ws name) ≡ Some v → (variable_named ws name ≡ Some v → IsKnownKind is v.kind) → IsKnownKind is v.kind
    by true e' more = let same : w ≡ v = cc (e') in subst (λ u. IsKnownKind is u.kind) same h.0
    by false e' more = more e'

pub known_added : (is : List Interface) (scope : Scope) (v : Variable) → AreKnownKinds is scope → IsKnownKind is v.kind → AreKnownKinds is (scope ++ v ∷ [])
known_added is [] v h k = (k, tt)
known_added is (w ∷ ws) v h k = (h.0, known_added is ws v h.1 k)

not_interface : (o : Option Interface) → (is_some o || false) ≡ false → o ≡ None
not_interface None h = refl
not_interface (Some i) h = absurd (cc (h))

module _ (x : Context) (known' : Known x.declared) (near_this : (class : List ℕ) → x.this ≡ Some class → is_far x.declared (kind.Named class) ≡ false) (scope : Scope) (kinds : AreKnownKinds x.declared.interfaces scope) where
  abbrev is : List Interface
  is = x.declared.interfaces

  -- a name, or a remote call
  abbrev pub IsOrigin : Expr → Type 0
  IsOrigin (Name at name) = Unit {0}
  IsOrigin (Call at a method args) = (q : Kind) × (type_of x scope a ≡ Ok q) × IsFarCall x.declared q
  IsOrigin _ = ⊥

  this_own : (at : ℕ) (k : Kind) (t : Option (List ℕ)) → x.this ≡ t → this_kind t at ≡ Ok k → IsOwnKind is k
  this_own at k (Some class) same e = let is_named : kind.Named class ≡ k = cc (e) in subst (IsOwnKind is) is_named (not_interface (interface_named is class) (near_this class same))
  this_own at k None same e = absurd (cc (e))

  known_kind : (e : Expr) (k : Kind) → IsOwnKind is k ⊎ (IsFarKind is k × IsOrigin e) → IsKnownKind is k
  known_kind e k (inl h) = inl h
  known_kind e k (inr h) = inr h.0

  -- a value of an expression is of the own side, or it comes from a name or a remote call
  pub origin : (e : Expr) (k : Kind) → type_of x scope e ≡ Ok k → IsOwnKind is k ⊎ (IsFarKind is k × IsOrigin e)
  unfolding literal_kind
  origin (Lit at v) k h = let same : literal_form (out-Value v) ≡ k = cc (h) in inl (subst (IsOwnKind is) same (literal_own is (out-Value v)))
  origin (Name at name) k h =
      let s = bind_ok (known (UnknownName at) (variable_named scope name)) _ k h in
      let same : (s.0).kind ≡ k = cc (s.2) in
      elim (subst (IsKnownKind is) same (scope_known is scope name s.0 kinds (known_ok (UnknownName at) (variable_named scope name) s.0 s.1))) [ inl own ↦ inl own | inr far ↦ inr (far, tt) ]
  origin (This at) k h = inl (this_own at k x.this refl h)
  origin (Unary at o a) k h =
      let s = placed_ok (expr_at a) (type_of x scope a) _ k h in
      let t = then_ok (must (takes_operand o s.0) (wrong_type (record { at = expr_at a; kind = s.0 }))) (Ok (unary_result o)) k s.2 in
      let same : unary_result o ≡ k = cc (t.1) in
      inl (subst (IsOwnKind is) same (unary_own is o))
  origin (Binary at o a b) k h =
      let s = placed_ok (expr_at a) (type_of x scope a) _ k h in
      let u = placed_ok (expr_at b) (type_of x scope b) _ k s.2 in
      let p : Placed = record { at = expr_at a; kind = s.0 } in
      let q : Placed = record { at = expr_at b; kind = u.0 } in
      let t = then_ok (must (takes_left o s.0) (wrong_type p) >> wanted s.0 q) (Ok (binary_result o s.0)) k u.2 in
      let w = then_ok (must (takes_left o s.0) (wrong_type p)) (wanted s.0 q) tt t.0 in
      let same : binary_result o s.0 ≡ k = cc (t.1) in
      inl (subst (IsOwnKind is) same (binary_own is o s.0 (must_ok (takes_left o s.0) (wrong_type p) w.0) (known_kind a s.0 (origin a s.0 s.1))))
  origin (Field at a name) k h =
      let s = placed_ok (expr_at a) (type_of x scope a) _ k h in
      let f = field_ok x.declared at name (record { at = expr_at a; kind = s.0 }) k s.2 in
      let c = class_known x.declared known' f.class f.of_class f.found in
      inl (subst (IsOwnKind is) f.same (found_one (IsOwnParam x.declared) (λ y. y.name) f.of_class.fields name f.field f.there c.class.fields))
  origin (Call at a name args) k h =
      let s = placed_ok (expr_at a) (type_of x scope a) _ k h in
      let ts = bind_ok (types_of x scope args) _ k s.2 in
      elim (call_how x known' at name (record { at = expr_at a; kind = s.0 }) ts.0 k ts.2) [
        | inl f ↦ inl (subst (IsOwnKind is) f.same (method_known x.declared f.class f.of_class (class_known x.declared known' f.class f.of_class f.found) name f.method f.there).own.result)
        | inr f ↦ inr (f.1, (s.0, s.1, f.0))
      ]
  origin (Index at a b) k h =
      let s = placed_ok (expr_at a) (type_of x scope a) _ k h in
      let u = placed_ok (expr_at b) (type_of x scope b) _ k s.2 in
      let t = bind_ok (item_of (record { at = expr_at a; kind = s.0 }) s.0) (λ item. wanted kind.Int (record { at = expr_at b; kind = u.0 }) >> Ok item) k u.2 in
      let v = then_ok (wanted kind.Int (record { at = expr_at b; kind = u.0 })) (Ok t.0) k t.2 in
      let same : t.0 ≡ k = cc (v.1) in
      inl (subst (IsOwnKind is) same (indexed_own is (record { at = expr_at a; kind = s.0 }) s.0 t.0 (known_kind a s.0 (origin a s.0 s.1)) t.1))
  origin (New at name args) k h =
      let ts = bind_ok (types_of x scope args) _ k h in
      let f = new_ok x.declared at name ts.0 k ts.2 in
      inl (subst (IsOwnKind is) f.same (class_apart x.declared known' name f.of_class f.found))
  origin (Items at item items) k h =
      let ts = bind_ok (types_of x scope items) _ k h in
      let f = items_ok x.declared item ts.0 k ts.2 in
      let t = then_ok (declared_type x.declared item) (value_type x.declared item) tt f.placed in
      inl (subst (IsOwnKind is) f.same (value_own x.declared item t.1))
  origin (Taken at step) k h = absurd (cc (h))

  pub kind_known : (e : Expr) (k : Kind) → type_of x scope e ≡ Ok k → IsKnownKind is k
  kind_known e k h = known_kind e k (origin e k h)
