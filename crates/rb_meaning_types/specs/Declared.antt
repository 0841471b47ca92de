-- What is declared, and where code stands.
use Rattle.std.specs.Prelude.{ℕ, List, [], Bool, true, false, cond, Option, Some, None}
use Rattle.std.specs.Option.{is_some}
use Rattle.rb_trees.specs.mirror.Declarations.{Interface, Class, Program}
use Rattle.rb_meaning_types.specs.Names.{interface_named, class_named}

-- the interfaces and classes of a program or of a service, and whether they are a service's
pub record Declarations : Type 0 where
  pub interfaces : List Interface
  pub classes : List Class
  pub service : Bool

abbrev pub of_program : Program → Declarations
of_program p = record { interfaces = p.interfaces; classes = p.classes; service = false }

-- a service has classes alone
abbrev pub of_service : List Class → Declarations
of_service classes = record { interfaces = []; classes = classes; service = true }

-- whether a name is that of an interface
abbrev pub is_interface : Declarations → List ℕ → Bool
is_interface d name = is_some (interface_named d.interfaces name)

-- whether a name is that of a class; a name that is both counts as the interface
abbrev pub is_class : Declarations → List ℕ → Bool
is_class d name = cond (is_interface d name) false (is_some (class_named d.classes name))

-- whether a name is declared as a type
abbrev pub is_declared : Declarations → List ℕ → Bool
is_declared d name = cond (is_interface d name) true (is_some (class_named d.classes name))

-- where code stands: the declarations, the class of `this` in a method, and whether it may be remote (as
-- `main` and a `remote` method)
pub record Context : Type 0 where
  pub declared : Declarations
  pub this : Option (List ℕ)
  pub remote : Bool

-- in a method's body `this` is an object of the class
abbrev pub method_context : Declarations → List ℕ → Bool → Context
method_context d class remote = record { declared = d; this = Some class; remote = remote }

abbrev pub main_context : Declarations → Context
main_context d = record { declared = d; this = None; remote = true }
