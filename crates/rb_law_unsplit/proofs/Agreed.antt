-- The scopes of the judgement and of admission go together: the same names in order, a variable that is portable has a type that
-- may come from a remote object, and a constant list is of primitive items.
use Rattle.std.proofs.Common.{◌≡◌, ◌⊎◌, inl, inr, refl, sym, ap, subst, ℕ, List, [], ◌∷◌, Bool as Truth, true, false, not, ◌&&◌, ◌||◌, cond, Some, Ok}
use Rattle.rb_trees.specs.mirror.Declarations.{Param, Interface, Program}
use Rattle.rb_meaning_types.specs.Kinds as kind
use Rattle.rb_meaning_types.specs.Kinds.{Kind, kind_of, is_primitive}
use Rattle.rb_meaning_types.specs.Names.{is_new}
use Rattle.rb_meaning_types.specs.Notes.{type_at}
use Rattle.rb_meaning_types.specs.Scopes as typed
use Rattle.rb_meaning_flow.specs.declared.scopes.Role.{Role}
use Rattle.rb_meaning_flow.specs.Facts.{facts_of, kind_is, has_primitive_items, has_list_items}
use Rattle.rb_meaning_flow.specs.Scopes.{Scope, with_variable, is_constant_role, is_list_role, is_portable_role, role_with, scope_with}
use Rattle.rb_meaning_flow.specs.Outermost.{outer_role, parameters}
use Rattle.rb_law_types.specs.Own.{IsFarKind}

pub primitive_far : (is : List Interface) (k : Kind) → is_primitive k ≡ true → IsFarKind is k
primitive_far is kind.Int h = tt
primitive_far is kind.Bool h = tt
primitive_far is kind.Text h = tt
primitive_far is kind.Unit h = absurd (cc (h))
primitive_far is _ h = absurd (cc (h))

-- a variable that the remote part of a batch reads: it is portable, or a constant list
abbrev pub is_read_role : Role → Truth
is_read_role role = is_portable_role role || is_list_role role

-- what the role of a variable says of its type: that of a portable one may come from a remote object, a constant list is of primitives
abbrev pub IsReadKind : List Interface → Role → Kind → Type 0
IsReadKind is role k = (is_portable_role role ≡ true → IsFarKind is k) × (is_list_role role ≡ true → has_primitive_items k ≡ true)

pub portable_read : (role : Role) → is_portable_role role ≡ true → is_read_role role ≡ true
portable_read role h = ap (λ t. t || is_list_role role) h

pub list_read : (role : Role) → is_list_role role ≡ true → is_read_role role ≡ true
list_read role h = by (is_portable_role role) h
  where
    by : (t : Truth) → is_list_role role ≡ true → (t || is_list_role role) ≡ true
    by true e = refl
    by false e = e

abbrev pub Agree : List Interface → Scope → typed.Scope → Type 0
Agree is [] [] = Unit {0}
Agree is [] (w ∷ ws) = ⊥
Agree is (v ∷ vs) [] = ⊥
Agree is (v ∷ vs) (w ∷ ws) = (v.name ≡ w.name) × IsReadKind is v.role w.kind × Agree is vs ws

pub agree_added : (is : List Interface) (vs : Scope) (ws : typed.Scope) (name : List ℕ) (role : Role) (at : ℕ) (k : Kind) (fixed : Truth) → Agree is vs ws → IsReadKind is role k
    → Agree is (with_variable vs name role at) (typed.with_variable ws name k fixed)
agree_added is [] [] name role at k fixed h f = (refl, f, tt)
agree_added is [] (w ∷ ws) name role at k fixed h f = absurd h
agree_added is (v ∷ vs) [] name role at k fixed h f = absurd h
agree_added is (v ∷ vs) (w ∷ ws) name role at k fixed h f = (h.0, h.1, agree_added is vs ws name role at k fixed h.2 f)

-- of a variable that counts as constant no more nothing is said
role_less : (is : List Interface) (assigned : List (List ℕ)) (name : List ℕ) (role : Role) (k : Kind) → IsReadKind is role k → IsReadKind is (role_with assigned name role) k
role_less is assigned name role k h = by ((is_constant_role role || is_list_role role) && not (is_new name assigned))
  where
    by : (t : Truth) → IsReadKind is (cond t Role.Plain role) k
    by true = (λ e. absurd (cc (e)), λ e. absurd (cc (e)))
    by false = h

pub agree_with : (is : List Interface) (assigned : List (List ℕ)) (vs : Scope) (ws : typed.Scope) → Agree is vs ws → Agree is (scope_with assigned vs) ws
agree_with is assigned [] [] h = tt
agree_with is assigned [] (w ∷ ws) h = absurd h
agree_with is assigned (v ∷ vs) [] h = absurd h
agree_with is assigned (v ∷ vs) (w ∷ ws) h = (h.0, role_less is assigned v.name v.role w.kind h.1, agree_with is assigned vs ws h.2)

-- what has primitive items where a primitive is constant, and a list of such is a constant list
outer_by : (is : List Interface) (k : Kind) (primitive list : Truth) → (primitive ≡ true → IsFarKind is k) → (list ≡ true → has_primitive_items k ≡ true) → IsReadKind is (outer_role primitive list) k
outer_by is k true list h g = (λ e. h refl, λ e. absurd (cc (e)))
outer_by is k false true h g = (λ e. absurd (cc (e)), λ e. g refl)
outer_by is k false false h g = (λ e. absurd (cc (e)), λ e. absurd (cc (e)))

pub outer_far : (is : List Interface) (k : Kind) → IsReadKind is (outer_role (is_primitive k) (has_primitive_items k)) k
outer_far is k = outer_by is k (is_primitive k) (has_primitive_items k) (primitive_far is k) (λ e. e)

-- what a loop goes over has lists as items only where its items have primitive ones
list_items : (item : Kind) → has_list_items (kind.ListOf item) ≡ true → has_primitive_items item ≡ true
list_items (kind.ListOf inner) h = h
list_items kind.Int h = absurd (cc (h))
list_items _ h = absurd (cc (h))

pub item_far : (is : List Interface) (k item : Kind) → (k ≡ kind.ListOf item) ⊎ (k ≡ kind.RowsOf item) → IsReadKind is (outer_role (has_primitive_items k) (has_list_items k)) item
item_far is k item (inl e) =
    subst (λ m. IsReadKind is (outer_role (has_primitive_items m) (has_list_items m)) item) (sym e)
    (outer_by is item (is_primitive item) (has_list_items (kind.ListOf item)) (primitive_far is item) (list_items item))
item_far is k item (inr e) =
    subst (λ m. IsReadKind is (outer_role (has_primitive_items m) (has_list_items m)) item) (sym e)
    (outer_by is item (is_primitive item) false (primitive_far is item) (λ g. absurd (cc (g))))

pub agree_parameters : (is : List Interface) (ps : List Param) → Agree is (parameters ps) (typed.parameters ps)
agree_parameters is [] = tt
agree_parameters is (p ∷ ps) = (refl, outer_far is (kind_of p.kind), agree_parameters is ps)

-- whether the type that is noted at a position is of a list of lists of primitives
pub lists_fact : (p : Program) (at : ℕ) (k : Kind) → type_at p at ≡ Some (Ok k) → (facts_of p).lists at ≡ has_list_items k
unfolding facts_of
lists_fact p at k h = ap (kind_is has_list_items) h
