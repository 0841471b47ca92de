-- Classes by name.
use Rattle.std.proofs.Common.{◌≡◌, ℕ, List, map}
use Rattle.std.specs.Option.{option_map}
use Rattle.rb_trees.specs.declared.declarations.Class as class
use Rattle.rb_trees.specs.mirror.Declarations.{mirror_class}
use Rattle.rb_trees.specs.Classes.{class_named}
use Rattle.rb_names.specs.Guesses.{first_place}
use Rattle.rb_names.proofs.Guided.{item_at, place_viewed}

-- the first class of a name stands at the name's first place
pub class_viewed : (cs : List class.Class) (name : List ℕ) → class_named (map mirror_class cs) name ≡ option_map mirror_class (item_at cs (first_place name (map (λ c. c.name) cs)))
class_viewed cs name = place_viewed mirror_class (λ c. c.name) cs name
