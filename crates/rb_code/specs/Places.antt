-- Places of names in a list of names, and the names that classes are found by.
use Rattle.std.specs.Prelude.{ℕ, List, Bool, Option, map, position, slice_get, option_and_then}
use Rattle.std.specs.List.{list_any}
use Rattle.std.specs.Str.{bytes_eq}
use Rattle.rb_trees.specs.declared.declarations.Class.{Class}
use Rattle.rb_trees.specs.declared.declarations.Method.{Method}
use Rattle.rb_trees.specs.mirror.Declarations as mirror
use Rattle.rb_trees.specs.Classes.{method_named}

-- the first place of a name
abbrev pub place_of : List ℕ → List (List ℕ) → Option ℕ
place_of name names = position (bytes_eq name) names

-- whether a name is among them
abbrev pub is_among : List ℕ → List (List ℕ) → Bool
is_among name names = list_any (bytes_eq name) names

-- the names of classes in order
abbrev pub names_of_classes : List Class → List (List ℕ)
names_of_classes classes = map (λ c. c.name) classes

-- the names of methods in order
abbrev pub names_of_methods : List Method → List (List ℕ)
names_of_methods methods = map (λ m. m.signature.name) methods

-- the names of each class's methods
abbrev pub methods_of_each : List Class → List (List (List ℕ))
methods_of_each classes = map (λ c. names_of_methods c.methods) classes

-- the method of a name of the class at a place
abbrev pub method_at_place : List mirror.Class → ℕ → List ℕ → Option mirror.Method
method_at_place classes place name = option_and_then (λ c. method_named c.methods name) (slice_get classes place)
