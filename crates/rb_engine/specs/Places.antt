-- Places of names, and the index of those after the first few of a frame.
use Rattle.std.specs.Prelude.{◌≡◌, ℕ, suc, ◌-◌, List, [], ◌∷◌, ◌++◌, map, take, drop, cond, Option, Some, None, nat_le}
use Rattle.std.specs.Option.{option_map}
use Rattle.std.specs.Prelude.{Box}
use Rattle.std.specs.Str.{bytes_eq}
use Rattle.rb_trees.specs.declared.values.Value.{Value}
use Rattle.rb_engine.specs.declared.later.Later.{Later}

-- the first place of a name
abbrev pub first_place : List (List ℕ × Value) → List ℕ → Option ℕ
first_place [] name = None
first_place (f ∷ fs) name = cond (bytes_eq f.0 name) (Some 0) (option_map suc (first_place fs name))

-- An index, if there is one, has the names after the first so many, in order.
abbrev pub IsIndexed : Option Later → List (List ℕ × Value) → Type 0
IsIndexed None names = Unit {0}
IsIndexed (Some later) names = later.names ≡ map (λ n. n.0) (drop later.first names)

-- what an index keeps where the frame keeps its first so many names
abbrev pub cut : ℕ → Later → Later
cut count later = record { first = later.first; names = take (count - later.first) later.names }

-- an index with a name that is bound after so many
abbrev pub with_name : ℕ → List ℕ → Option Later → Option Later
with_name count name None = Some (record { first = count; names = name ∷ [] })
with_name count name (Some later) = Some (record { first = later.first; names = cond (nat_le later.first count) (later.names ++ name ∷ []) later.names })

-- an index as it stands in a box
abbrev pub unboxed : {Z : Type 0} → Option (Box Later Z) → Option Later
unboxed boxed = option_map (λ b. b.value) boxed
