-- The slots of arguments: that of `this`, and those of the values behind it.
use Rattle.std.specs.Prelude.{ℕ, List, [], ◌∷◌, map}
use Rattle.rb_trees.specs.declared.values.Value.{Value}
use Rattle.rb_trees.specs.mirror.Declarations.{Param}

-- the values after the first slot
abbrev pub values_after : List (List ℕ × Value) → List Value
values_after [] = []
values_after (s ∷ ss) = map (λ n. n.1) ss

-- slots with the names of parameters, in order, as long as both last
abbrev pub all_renamed : List Param → List (List ℕ × Value) → List (List ℕ × Value)
all_renamed [] ss = ss
all_renamed (p ∷ ps) [] = []
all_renamed (p ∷ ps) (s ∷ ss) = (p.name, s.1) ∷ all_renamed ps ss

-- so renamed after the first slot
abbrev pub renamed : List Param → List (List ℕ × Value) → List (List ℕ × Value)
renamed ps [] = []
renamed ps (s ∷ ss) = s ∷ all_renamed ps ss
