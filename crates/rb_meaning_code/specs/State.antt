-- The state of running code.
use Rattle.std.specs.Prelude.{ℕ, ◌-◌, List, [], ◌∷◌, ◌++◌, take, codes}
use Rattle.rb_trees.specs.declared.values.Value.{Value}
use Rattle.rb_trees.specs.declared.services.Object.{Object}

-- names with their values, in order of binding
abbrev pub Names : Type 0
Names = List (List ℕ × Value)

-- what code itself reads and changes: its names, its side's heap, fuel, and the number of active calls
pub record Local : Type 0 where
  pub names : Names
  pub heap : List Object
  pub fuel : ℕ
  pub depth : ℕ

-- the name of the object in whose method code stands
abbrev pub this_name : List ℕ
this_name = codes "this"

-- with one name more, at the end
abbrev pub bound : List ℕ → Value → Local → Local
bound name value l = record l { names = l.names ++ (name, value) ∷ [] }

-- back in a scope with so many names
abbrev pub closed : ℕ → Local → Local
closed count l = record l { names = take count l.names }

-- with one unit of fuel less
abbrev pub spent : Local → Local
spent l = record l { fuel = l.fuel - 1 }
