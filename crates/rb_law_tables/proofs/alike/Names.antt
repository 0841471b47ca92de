-- Declarations without their positions: what is found by name, and which types may stand where.
use Rattle.std.proofs.Common.{◌≡◌, ℕ, List, [], ◌∷◌, map, length, suc, Bool, true, false, cond, Option, Some, None, option_map, refl, sym, ap, ◌∙◌}
use Rattle.std.specs.Option.{is_some}
use Rattle.std.specs.Str.{bytes_eq}
use Rattle.rb_trees.specs.Named.{first_named}
use Rattle.rb_trees.specs.mirror.Types as type
use Rattle.rb_trees.specs.mirror.Types.{TypeTree}
use Rattle.rb_trees.specs.mirror.Declarations.{Param, Method, Class}
use Rattle.rb_trees.specs.printing.Unplaced.{unplaced_type, unplaced_param, unplaced_method, unplaced_class}
use Rattle.rb_meaning_types.specs.Kinds.{ListOf, RowsOf, kind_of}
use Rattle.rb_meaning_types.specs.Names.{class_named, field_named, method_named}
use Rattle.rb_meaning_types.specs.Declared.{of_service, is_class, is_declared}
use Rattle.rb_meaning_types.specs.Violations.{UnknownName, TypeNotHere}
use Rattle.rb_meaning_types.specs.Scopes.{parameter, parameters}
use Rattle.rb_meaning_types.specs.Places.{declared_type, value_type, value_result, item_type, parameter_type, result_type}
use Rattle.rb_law_tables.proofs.alike.Checks.{Alike, pass, fail, Same, then_alike, must_alike}

-- the classes without their positions
abbrev pub bare : List Class → List Class
bare cs = map unplaced_class cs

named_step : {A : Type 0} (f : A → A) (x : A) (same : Bool) (o p : Option A) → p ≡ option_map f o → cond same (Some (f x)) p ≡ option_map f (cond same (Some x) o)
named_step f x true o p e = refl
named_step f x false o p e = e

-- the first of a name, where each item keeps its name
named : {A : Type 0} (f : A → A) (name_of : A → List ℕ) (xs : List A) (name : List ℕ) → ((x : A) → name_of (f x) ≡ name_of x) → first_named name_of (map f xs) name ≡ option_map f (first_named name_of xs name)
named f name_of [] name keeps = refl
named f name_of (x ∷ xs) name keeps =
    ap (λ n. cond (bytes_eq n name) (Some (f x)) (first_named name_of (map f xs) name)) (keeps x)
    ∙ named_step f x (bytes_eq (name_of x) name) (first_named name_of xs name) (first_named name_of (map f xs) name) (named f name_of xs name keeps)

pub class_bare : (cs : List Class) (name : List ℕ) → class_named (bare cs) name ≡ option_map unplaced_class (class_named cs name)
class_bare cs name = named unplaced_class (λ c. c.name) cs name (λ c. refl)

pub field_bare : (ps : List Param) (name : List ℕ) → field_named (map unplaced_param ps) name ≡ option_map unplaced_param (field_named ps name)
field_bare ps name = named unplaced_param (λ p. p.name) ps name (λ p. refl)

pub method_bare : (ms : List Method) (name : List ℕ) → method_named (map unplaced_method ms) name ≡ option_map unplaced_method (method_named ms name)
method_bare ms name = named unplaced_method (λ m. m.signature.name) ms name (λ m. refl)

some_map : {A B : Type 0} (f : A → B) (o : Option A) → is_some (option_map f o) ≡ is_some o
some_map f None = refl
some_map f (Some x) = refl

pub kind_bare : (t : TypeTree) → kind_of (unplaced_type t) ≡ kind_of t
kind_bare (type.Int at) = refl
kind_bare (type.Bool at) = refl
kind_bare (type.Text at) = refl
kind_bare (type.Unit at) = refl
kind_bare (type.Named at name) = refl
kind_bare (type.ListOf at item) = ap ListOf (kind_bare item)
kind_bare (type.RowsOf at row) = ap RowsOf (kind_bare row)

pub parameters_bare : (ps : List Param) → parameters (map unplaced_param ps) ≡ parameters ps
parameters_bare [] = refl
parameters_bare (p ∷ ps) = ap (λ k. record { name = p.name; kind = k; fixed = true } ∷ parameters (map unplaced_param ps)) (kind_bare p.kind) ∙ ap (λ xs. parameter p ∷ xs) (parameters_bare ps)

pub length_map : {A B : Type 0} (f : A → B) (xs : List A) → length (map f xs) ≡ length xs
length_map f [] = refl
length_map f (x ∷ xs) = ap suc (length_map f xs)

module _ (cs : List Class) where
  class_too : (name : List ℕ) → is_class (of_service cs) name ≡ is_class (of_service (bare cs)) name
  class_too name = sym (ap is_some (class_bare cs name) ∙ some_map unplaced_class (class_named cs name))

  declared_alike : (t : TypeTree) → Alike Same (declared_type (of_service cs) t) (declared_type (of_service (bare cs)) (unplaced_type t))
  declared_alike (type.Int at) = pass refl
  declared_alike (type.Bool at) = pass refl
  declared_alike (type.Text at) = pass refl
  declared_alike (type.Unit at) = pass refl
  declared_alike (type.Named at name) = must_alike (is_declared (of_service cs) name) (is_declared (of_service (bare cs)) name) (UnknownName at) (UnknownName 0) (class_too name)
  declared_alike (type.ListOf at item) = declared_alike item
  declared_alike (type.RowsOf at row) = declared_alike row

  value_alike : (t : TypeTree) → Alike Same (value_type (of_service cs) t) (value_type (of_service (bare cs)) (unplaced_type t))
  value_alike (type.Int at) = pass refl
  value_alike (type.Bool at) = pass refl
  value_alike (type.Text at) = pass refl
  value_alike (type.Unit at) = fail
  value_alike (type.Named at name) = must_alike (is_class (of_service cs) name) (is_class (of_service (bare cs)) name) (TypeNotHere at) (TypeNotHere 0) (class_too name)
  value_alike (type.ListOf at item) = value_alike item
  value_alike (type.RowsOf at row) = fail

  value_result_alike : (t : TypeTree) → Alike Same (value_result (of_service cs) t) (value_result (of_service (bare cs)) (unplaced_type t))
  value_result_alike (type.Unit at) = pass refl
  value_result_alike (type.Int at) = pass refl
  value_result_alike (type.Bool at) = pass refl
  value_result_alike (type.Text at) = pass refl
  value_result_alike (type.Named at name) = value_alike (type.Named at name)
  value_result_alike (type.ListOf at item) = value_alike item
  value_result_alike (type.RowsOf at row) = fail

  pub item_alike : (t : TypeTree) → Alike Same (item_type (of_service cs) t) (item_type (of_service (bare cs)) (unplaced_type t))
  item_alike t = then_alike (declared_alike t) (value_alike t)

  pub parameter_alike : (t : TypeTree) → Alike Same (parameter_type false (of_service cs) t) (parameter_type false (of_service (bare cs)) (unplaced_type t))
  parameter_alike t = then_alike (declared_alike t) (value_alike t)

  pub result_alike : (t : TypeTree) → Alike Same (result_type false (of_service cs) t) (result_type false (of_service (bare cs)) (unplaced_type t))
  result_alike t = then_alike (declared_alike t) (value_result_alike t)
