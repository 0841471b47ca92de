-- The fields of typed classes have types of which values are stored: no Unit and no Rows.
use Rattle.std.proofs.Common.{◌≡◌, ℕ, List, [], ◌∷◌, ◌++◌, Bool, true, false, cond, Some, Ok, Err, refl, sym, ap, subst, ◌∙◌, Result}
use Rattle.std.specs.Str.{bytes_eq}
use Rattle.std.specs.List.{AllByRecursion}
use Rattle.std.proofs.lemmas.Slice.Eq.{bytes_eq-Decides}
use Rattle.rb_trees.specs.Named.{first_named}
use Rattle.rb_trees.specs.Outcome.{◌>>◌}
use Rattle.rb_trees.specs.mirror.Types as type
use Rattle.rb_trees.specs.mirror.Types.{TypeTree}
use Rattle.rb_trees.specs.mirror.Declarations.{Param, Class}
use Rattle.rb_meaning_types.specs.Kinds as kind
use Rattle.rb_meaning_types.specs.Kinds.{Kind, kind_of}
use Rattle.rb_meaning_types.specs.Declared.{Declarations, of_service}
use Rattle.rb_meaning_types.specs.Places.{declared_type, value_type, parameter_type}
use Rattle.rb_meaning_types.specs.Declarations.{new_name, check_params, check_methods, check_class, check_classes, check_declarations}
use Rattle.rb_meaning_types.specs.Bodies.{check_class_bodies}
use Rattle.rb_meaning_types.specs.Programs.{check_service}

-- what passes first, and what passes then
passed : {B D : Type 0} (a : Result (Unit {0}) D) (b : Result B D) (y : B) → a >> b ≡ Ok y → (a ≡ Ok tt) × (b ≡ Ok y)
passed (Ok u) b y e = (refl, e)
passed (Err d) b y e = absurd (cc)

abbrev pub IsStored : Kind → Type 0
IsStored kind.Int = Unit {0}
IsStored kind.Bool = Unit {0}
IsStored kind.Text = Unit {0}
IsStored kind.Unit = ⊥
IsStored (kind.Named name) = Unit {0}
IsStored (kind.ListOf item) = IsStored item
IsStored (kind.RowsOf row) = ⊥

abbrev pub IsStoredParam : Param → Type 0
IsStoredParam p = IsStored (kind_of p.kind)

abbrev pub IsStoredClass : Class → Type 0
IsStoredClass c = AllByRecursion IsStoredParam c.fields

value_stored : (d : Declarations) (t : TypeTree) → value_type d t ≡ Ok tt → IsStored (kind_of t)
value_stored d (type.Int at) e = tt
value_stored d (type.Bool at) e = tt
value_stored d (type.Text at) e = tt
value_stored d (type.Unit at) e = absurd (cc)
value_stored d (type.Named at name) e = tt
value_stored d (type.ListOf at item) e = value_stored d item e
value_stored d (type.RowsOf at row) e = absurd (cc)

params_stored : (d : Declarations) (before : List (List ℕ)) (ps : List Param) → check_params false d before ps ≡ Ok tt → AllByRecursion IsStoredParam ps
params_stored d before [] e = tt
params_stored d before (p ∷ ps) e =
    let parts = passed (new_name before p.at p.name >> parameter_type false d p.kind) (check_params false d (before ++ p.name ∷ []) ps) tt e in
    let own = passed (new_name before p.at p.name) (parameter_type false d p.kind) tt parts.0 in
    let kinds = passed (declared_type d p.kind) (value_type d p.kind) tt own.1 in
    (value_stored d p.kind kinds.1, params_stored d (before ++ p.name ∷ []) ps parts.1)

classes_stored : (d : Declarations) (before : List (List ℕ)) (cs : List Class) → check_classes d before cs ≡ Ok tt → AllByRecursion IsStoredClass cs
classes_stored d before [] e = tt
classes_stored d before (c ∷ cs) e =
    let parts = passed (new_name before c.at c.name >> check_class d c) (check_classes d (before ++ c.name ∷ []) cs) tt e in
    let own = passed (new_name before c.at c.name) (check_class d c) tt parts.0 in
    let fields = passed (check_params false d [] c.fields) (check_methods d [] c.methods) tt own.1 in
    (params_stored d [] c.fields fields.0, classes_stored d (before ++ c.name ∷ []) cs parts.1)

pub typed_stored : (cs : List Class) → check_service cs ≡ Ok tt → AllByRecursion IsStoredClass cs
typed_stored cs e =
    let parts = passed (check_declarations (of_service cs)) (check_class_bodies (of_service cs) cs) tt e in
    classes_stored (of_service cs) [] cs parts.0

-- what holds of all holds of what is found by name
module _ {A : Type 0} (P : A → Type 0) (name_of : A → List ℕ) where
  pub found_in : (xs : List A) (name : List ℕ) (x : A) → AllByRecursion P xs → first_named name_of xs name ≡ Some x → P x × (name_of x ≡ name)
  found_in [] name x h e = absurd (cc)
  found_in (y ∷ ys) name x h e = go (bytes_eq (name_of y) name) refl (λ f. found_in ys name x h.1 f) e
    where
      go : (same : Bool) → bytes_eq (name_of y) name ≡ same → (first_named name_of ys name ≡ Some x → P x × (name_of x ≡ name)) → cond same (Some y) (first_named name_of ys name) ≡ Some x → P x × (name_of x ≡ name)
      go true b later f = let is : y ≡ x = cc in (subst P is h.0, ap name_of (sym is) ∙ (bytes_eq-Decides (name_of y) name).0 b)
      go false b later f = later f
