-- The names of the walk over a batch's remote part: each portable variable and each constant list has a value of its type there.
use Rattle.std.proofs.Common.{◌≡◌, inl, inr, refl, sym, ◌∙◌, subst, arith, ℕ, List, [], ◌∷◌, ◌++◌, length, Bool as Truth, true, false, cond, option_map, Option, Some, None}
use Rattle.std.specs.Str.{bytes_eq}
use Rattle.std.specs.Option.{is_some}
use Rattle.std.proofs.lemmas.Bool.{or_cases}
use Rattle.std.proofs.lemmas.List.Elements.{All-weaker}
use Rattle.rb_trees.specs.Named.{first_named, lookup}
use Rattle.rb_trees.specs.declared.values.Value.{Value}
use Rattle.rb_trees.specs.declared.values.Value.TheOpen.{Value-F}
use Rattle.rb_trees.specs.declared.values.Value.TheViews.{out-Value}
use Rattle.rb_trees.specs.mirror.Declarations.{Interface}
use Rattle.rb_meaning_types.specs.Kinds as kind
use Rattle.rb_meaning_types.specs.Kinds.{Kind, is_primitive}
use Rattle.rb_meaning_types.specs.Names.{interface_named}
use Rattle.rb_meaning_types.specs.Scopes as typed
use Rattle.rb_meaning_types.specs.Fits.{AreItems, AreRows, FitsNamed, Fits, this_name, frame_scope, NamesFit}
use Rattle.rb_meaning_code.specs.State.{Names}
use Rattle.rb_meaning_flow.specs.Facts.{has_primitive_items}
use Rattle.rb_meaning_flow.specs.declared.scopes.Role.{Role}
use Rattle.rb_meaning_flow.specs.declared.scopes.Variable.{Variable}
use Rattle.rb_meaning_flow.specs.Scopes.{Scope, variable_named, with_variable, role_in, role_of, is_list_role, is_portable_role}
use Rattle.rb_law_types.specs.Own.{IsFarItem, IsFarKind}
use Rattle.rb_law_unsplit.proofs.Agreed.{is_read_role, IsReadKind, portable_read, Agree}

-- a value of a type that may come from a remote object holds no object of the own side

named_free : (o : Option Interface) (cs : List (List ℕ)) (name : List ℕ) (w : Value-F Value) → is_some o ≡ true → FitsNamed o cs name w → FitsNamed o [] name w
named_free (Some i) cs name w e h = h
named_free None cs name w e h = absurd (cc (e))

item_free : (is : List Interface) (cs : List (List ℕ)) (k : Kind) (v : Value) → IsFarItem is k → Fits is cs k v → Fits is [] k v
item_free is cs kind.Int v far h = h
item_free is cs kind.Bool v far h = h
item_free is cs kind.Text v far h = h
item_free is cs kind.Unit v far h = absurd far
item_free is cs (kind.Named name) v far h = named_free (interface_named is name) cs name (out-Value v) far h
item_free is cs (kind.ListOf item) v far h = absurd far
item_free is cs (kind.RowsOf row) v far h = absurd far

rows_free : (is : List Interface) (cs : List (List ℕ)) (k : Kind) (w : Value-F Value) → IsFarItem is k → AreRows (Fits is cs k) w → AreRows (Fits is [] k) w
rows_free is cs k (Value-F.Rows rows) far h = All-weaker (Fits is cs k) (Fits is [] k) (λ v m. item_free is cs k v far m) rows h
rows_free is cs k Value-F.Unit far h = absurd h
rows_free is cs k _ far h = absurd h

far_free : (is : List Interface) (cs : List (List ℕ)) (k : Kind) (v : Value) → IsFarKind is k → Fits is cs k v → Fits is [] k v
far_free is cs kind.Int v far h = h
far_free is cs kind.Bool v far h = h
far_free is cs kind.Text v far h = h
far_free is cs kind.Unit v far h = h
far_free is cs (kind.Named name) v far h = named_free (interface_named is name) cs name (out-Value v) far h
far_free is cs (kind.ListOf item) v far h = absurd far
far_free is cs (kind.RowsOf row) v far h = rows_free is cs row (out-Value v) far h

-- a primitive value is of its type whatever the objects of the own side are, and so are a list and rows of such
primitive_item : (is : List Interface) (k : Kind) → is_primitive k ≡ true → IsFarItem is k
primitive_item is kind.Int h = tt
primitive_item is kind.Bool h = tt
primitive_item is kind.Text h = tt
primitive_item is kind.Unit h = absurd (cc (h))
primitive_item is _ h = absurd (cc (h))

items_free : (is : List Interface) (cs : List (List ℕ)) (k : Kind) (w : Value-F Value) → IsFarItem is k → AreItems (Fits is cs k) w → AreItems (Fits is [] k) w
items_free is cs k (Value-F.List items) far h = (h.0, All-weaker (Fits is cs k) (Fits is [] k) (λ v m. item_free is cs k v far m) items h.1)
items_free is cs k Value-F.Unit far h = absurd h
items_free is cs k _ far h = absurd h

list_free : (is : List Interface) (cs : List (List ℕ)) (k : Kind) (v : Value) → has_primitive_items k ≡ true → Fits is cs k v → Fits is [] k v
list_free is cs (kind.ListOf item) v e h = items_free is cs item (out-Value v) (primitive_item is item e) h
list_free is cs (kind.RowsOf row) v e h = rows_free is cs row (out-Value v) (primitive_item is row e) h
list_free is cs kind.Unit v e h = absurd (cc (e))
list_free is cs _ v e h = absurd (cc (e))

read_free : (is : List Interface) (cs : List (List ℕ)) (role : Role) (k : Kind) (v : Value) → IsReadKind is role k → is_read_role role ≡ true → Fits is cs k v → Fits is [] k v
read_free is cs role k v says r h = elim (or_cases (is_portable_role role) (is_list_role role) r) [
  | inl far ↦ far_free is cs k v (says.0 far) h
  | inr list ↦ list_free is cs k v (says.1 list) h
]

-- The names of both scopes in order, of which these stand in the walk: each that is read there with a value of its type.
pub data Carry (is : List Interface) : Scope → typed.Scope → Names → Type 0 where
  none : Carry is [] [] []
  carried : (v : Variable) (w : typed.Variable) (n : List ℕ × Value) (vs : Scope) (ws : typed.Scope) (ns : Names) → v.name ≡ w.name → v.name ≡ n.0 → (is_read_role v.role ≡ true → Fits is [] w.kind n.1)
      → Carry is vs ws ns → Carry is (v ∷ vs) (w ∷ ws) (n ∷ ns)
  skipped : (v : Variable) (w : typed.Variable) (vs : Scope) (ws : typed.Scope) (ns : Names) → v.name ≡ w.name → is_read_role v.role ≡ false → Carry is vs ws ns → Carry is (v ∷ vs) (w ∷ ws) ns
  of_this : (n : List ℕ × Value) (vs : Scope) (ws : typed.Scope) (ns : Names) → this_name ≡ n.0 → Carry is vs ws ns → Carry is vs ws (n ∷ ns)

module _ (is : List Interface) where
  -- one more at the end
  pub carry_more : (vs : Scope) (ws : typed.Scope) (ns : Names) (name : List ℕ) (role : Role) (at : ℕ) (k : Kind) (fixed : Truth) (v : Value) → Fits is [] k v → Carry is vs ws ns
      → Carry is (with_variable vs name role at) (typed.with_variable ws name k fixed) (ns ++ (name, v) ∷ [])
  carry_more vs ws ns name role at k fixed v fits none = carried (record { name = name; role = role; node = at }) (record { name = name; kind = k; fixed = fixed }) (name, v) [] [] [] refl refl (λ r. fits) none
  carry_more vs ws ns name role at k fixed v fits (carried u w n us xs ms a b f rest) =
      carried u w n (with_variable us name role at) (typed.with_variable xs name k fixed) (ms ++ (name, v) ∷ []) a b f (carry_more us xs ms name role at k fixed v fits rest)
  carry_more vs ws ns name role at k fixed v fits (skipped u w us xs ms a b rest) =
      skipped u w (with_variable us name role at) (typed.with_variable xs name k fixed) (ms ++ (name, v) ∷ []) a b (carry_more us xs ms name role at k fixed v fits rest)
  carry_more vs ws ns name role at k fixed v fits (of_this n us xs ms a rest) =
      of_this n (with_variable us name role at) (typed.with_variable xs name k fixed) (ms ++ (name, v) ∷ []) a (carry_more us xs ms name role at k fixed v fits rest)

  -- one that isn't read
  pub carry_skip : (vs : Scope) (ws : typed.Scope) (ns : Names) (name : List ℕ) (role : Role) (at : ℕ) (k : Kind) (fixed : Truth) → is_read_role role ≡ false → Carry is vs ws ns
      → Carry is (with_variable vs name role at) (typed.with_variable ws name k fixed) ns
  carry_skip vs ws ns name role at k fixed e none = skipped (record { name = name; role = role; node = at }) (record { name = name; kind = k; fixed = fixed }) [] [] [] refl e none
  carry_skip vs ws ns name role at k fixed e (carried u w n us xs ms a b f rest) =
      carried u w n (with_variable us name role at) (typed.with_variable xs name k fixed) ms a b f (carry_skip us xs ms name role at k fixed e rest)
  carry_skip vs ws ns name role at k fixed e (skipped u w us xs ms a b rest) =
      skipped u w (with_variable us name role at) (typed.with_variable xs name k fixed) ms a b (carry_skip us xs ms name role at k fixed e rest)
  carry_skip vs ws ns name role at k fixed e (of_this n us xs ms a rest) =
      of_this n (with_variable us name role at) (typed.with_variable xs name k fixed) ms a (carry_skip us xs ms name role at k fixed e rest)

  -- what is looked up
  pub carry_read : (vs : Scope) (ws : typed.Scope) (ns : Names) (name : List ℕ) (w : typed.Variable) → Carry is vs ws ns → bytes_eq this_name name ≡ false → is_read_role (role_of vs name) ≡ true → typed.variable_named ws name ≡ Some w
      → (v : Value) × (lookup ns name ≡ Some v) × Fits is [] w.kind v
  carry_read vs ws ns name w none plain r e = absurd (cc (e))
  carry_read vs ws ns name w (carried u y n us xs ms a b f rest) plain r e =
      by (bytes_eq u.name name) refl r (subst (λ m. cond (bytes_eq m name) (Some y) (typed.variable_named xs name) ≡ Some w) (sym a) e) (carry_read us xs ms name w rest plain)
    where
      lookup_or : Truth → Option Value
      lookup_or t = option_map (λ q. q.1) (cond t (Some n) (first_named (λ p. p.0) ms name))

      by : (t : Truth) → bytes_eq u.name name ≡ t → is_read_role (role_in (cond t (Some u) (variable_named us name))) ≡ true → cond t (Some y) (typed.variable_named xs name) ≡ Some w
          → (is_read_role (role_of us name) ≡ true → typed.variable_named xs name ≡ Some w → (v : Value) × (lookup ms name ≡ Some v) × Fits is [] w.kind v) → (v : Value) × (lookup (n ∷ ms) name ≡ Some v) × Fits is [] w.kind v
      by true t' r' e' more =
          let same : y ≡ w = cc (e') in
          (n.1, subst (λ m. lookup_or m ≡ Some n.1) (sym (subst (λ m. bytes_eq m name ≡ true) b t')) refl, subst (λ z. Fits is [] z.kind n.1) same (f r'))
      by false t' r' e' more = let found = more r' e' in (found.0, subst (λ m. lookup_or m ≡ Some found.0) (sym (subst (λ m. bytes_eq m name ≡ false) b t')) found.1, found.2)
  carry_read vs ws ns name w (skipped u y us xs ms a b rest) plain r e =
      by (bytes_eq u.name name) r (subst (λ m. cond (bytes_eq m name) (Some y) (typed.variable_named xs name) ≡ Some w) (sym a) e) (carry_read us xs ms name w rest plain)
    where
      by : (t : Truth) → is_read_role (role_in (cond t (Some u) (variable_named us name))) ≡ true → cond t (Some y) (typed.variable_named xs name) ≡ Some w
          → (is_read_role (role_of us name) ≡ true → typed.variable_named xs name ≡ Some w → (v : Value) × (lookup ms name ≡ Some v) × Fits is [] w.kind v) → (v : Value) × (lookup ms name ≡ Some v) × Fits is [] w.kind v
      by true r' e' more = absurd (cc (b, r'))
      by false r' e' more = more r' e'
  carry_read vs ws ns name w (of_this n us xs ms a rest) plain r e =
      let found = carry_read us xs ms name w rest plain r e in
      (found.0, subst (λ t. lookup_or t ≡ Some found.0) (sym (subst (λ m. bytes_eq m name ≡ false) a plain)) found.1, found.2)
    where
      lookup_or : Truth → Option Value
      lookup_or t = option_map (λ q. q.1) (cond t (Some n) (first_named (λ p. p.0) ms name))

  pub carry_look : (vs : Scope) (ws : typed.Scope) (ns : Names) (name : List ℕ) (w : typed.Variable) → Carry is vs ws ns → bytes_eq this_name name ≡ false → is_portable_role (role_of vs name) ≡ true → typed.variable_named ws name ≡ Some w
      → (v : Value) × (lookup ns name ≡ Some v) × Fits is [] w.kind v
  carry_look vs ws ns name w carry plain r e = carry_read vs ws ns name w carry plain (portable_read (role_of vs name) r) e

  -- the names with which a batch begins
  begins : (cs : List (List ℕ)) (vs : Scope) (ws : typed.Scope) (ns : Names) → Agree is vs ws → NamesFit is cs ws ns → length ws ≡ length ns → Carry is vs ws ns
  begins cs [] [] [] h f e = none
  begins cs [] [] (n ∷ ns) h f e = absurd (cc (e))
  begins cs [] (w ∷ ws) ns h f e = absurd h
  begins cs (v ∷ vs) [] ns h f e = absurd h
  begins cs (v ∷ vs) (w ∷ ws) [] h f e = absurd f
  begins cs (v ∷ vs) (w ∷ ws) (n ∷ ns) h f e = carried v w n vs ws ns h.0 (h.0 ∙ f.0) (λ r. read_free is cs v.role w.kind n.1 h.1 r f.1) (begins cs vs ws ns h.2 f.2 (omega (arith, e)))

  pub carry_begins : (cs : List (List ℕ)) (this : Option (List ℕ)) (vs : Scope) (ws : typed.Scope) (ns : Names) → Agree is vs ws → NamesFit is cs (frame_scope this ws) ns → length (frame_scope this ws) ≡ length ns → Carry is vs ws ns
  carry_begins cs None vs ws ns h f e = begins cs vs ws ns h f e
  carry_begins cs (Some class) vs ws [] h f e = absurd f
  carry_begins cs (Some class) vs ws (n ∷ ns) h f e = of_this n vs ws ns f.0 (begins cs vs ws ns h f.2 (omega (arith, e)))
