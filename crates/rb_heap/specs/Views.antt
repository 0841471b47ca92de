-- Objects as a heap shows them.
use Rattle.std.specs.Prelude.{ℕ, List}
use Rattle.std.specs.List.{zip}
use Rattle.rb_trees.specs.declared.values.Value.{Value}
use Rattle.rb_trees.specs.declared.services.Object.{Object}
use Rattle.rb_heap.specs.declared.heap.View.{View}

-- the object of a class whose fields are the names with the values, in order
abbrev pub object_with : List ℕ → List (List ℕ) → List Value → Object
object_with class names values = record { class = class; fields = zip names values }

-- the object that is shown
abbrev pub object_viewed : View → Object
object_viewed v = object_with v.class.now v.names.now v.values.now
