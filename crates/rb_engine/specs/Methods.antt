-- Methods that were found.
use Rattle.std.specs.Prelude.{◌≡◌, ℕ, List, Some, map}
use Rattle.rb_trees.specs.declared.declarations.Class as class
use Rattle.rb_trees.specs.declared.declarations.Method as method
use Rattle.rb_trees.specs.declared.services.Object.{Object}
use Rattle.rb_trees.specs.mirror.Declarations.{mirror_class, mirror_method}
use Rattle.rb_meaning_code.specs.Calls.{method_of}

-- It is the method of a name of an object's class.
abbrev pub IsMethodOf : List class.Class → List Object → ℕ → List ℕ → method.Method → Type 0
IsMethodOf classes heap object name m = method_of (map mirror_class classes) heap object name ≡ Some (mirror_method m)

-- It is a method of these classes.
abbrev pub IsMethod : List class.Class → method.Method → Type 0
IsMethod classes m = (heap : List Object) × (object : ℕ) × (name : List ℕ) × IsMethodOf classes heap object name m
