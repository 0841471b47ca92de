-- Classes and their methods by name: the first of each.
use Rattle.std.specs.Prelude.{ℕ, List, Option, option_and_then}
use Rattle.rb_trees.specs.Named.{first_named}
use Rattle.rb_trees.specs.mirror.Declarations.{Class, Method}

abbrev pub class_named : List Class → List ℕ → Option Class
class_named classes name = first_named (λ c. c.name) classes name

abbrev pub method_named : List Method → List ℕ → Option Method
method_named methods name = first_named (λ m. m.signature.name) methods name

-- a method of the class of a name
abbrev pub method_of_class : List Class → List ℕ → List ℕ → Option Method
method_of_class classes class name = option_and_then (λ c. method_named c.methods name) (class_named classes class)
