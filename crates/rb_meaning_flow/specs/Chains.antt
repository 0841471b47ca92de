-- Chains of a batch: which positions make a chain to a bad part, and which chain is before which.
use Rattle.std.specs.Prelude.{◌≡◌, ℕ, ◌<◌, ◌⊎◌, List, [], ◌∷◌, ◌++◌, length, reverse}
use Rattle.std.specs.List.{Contains}
use Rattle.rb_trees.specs.declared.flows.Writer.{Writer}
use Rattle.rb_trees.specs.declared.flows.BadPart.{BadPart}

-- the source c leads, through the writers at these positions from the last one back to the first, to what
-- reads these nodes and has these sources
abbrev pub Leads : List Writer → List ℕ → List ℕ → ℕ → List ℕ → Type 0
Leads writers reads sources c [] = Contains sources c
Leads writers reads sources c (p ∷ ps) =
    (w : Writer) × Contains writers w × (w.at ≡ p) × Contains reads w.writes × Leads writers w.reads w.sources c ps

-- a chain to a bad part: the position of a source, those of writers in the order in which data goes through them, and its own
abbrev pub IsChain : List Writer → BadPart → List ℕ → Type 0
IsChain writers u chain = (c : ℕ) × (ws : List ℕ) × (chain ≡ c ∷ (ws ++ u.at ∷ [])) × Leads writers u.reads u.sources c (reverse ws)

-- at the first place at which two lists differ, this one has the less number
abbrev pub IsLess : List ℕ → List ℕ → Type 0
IsLess [] ys = ⊥
IsLess (x ∷ xs) [] = ⊥
IsLess (x ∷ xs) (y ∷ ys) = (x < y) ⊎ ((x ≡ y) × IsLess xs ys)

-- The order of chains: one with fewer writers is before, and of those with as many the one with the lesser last writer, then
-- the lesser writer before it, and so on to the lesser source.
abbrev pub IsBefore : List ℕ → List ℕ → Type 0
IsBefore chain other = (length chain < length other) ⊎ ((length chain ≡ length other) × IsLess (reverse chain) (reverse other))

-- the chain that is named: every other chain comes after it
abbrev pub IsLeastChain : List Writer → BadPart → List ℕ → Type 0
IsLeastChain writers u chain = IsChain writers u chain × ((other : List ℕ) → IsChain writers u other → (other ≡ chain) ⊎ IsBefore chain other)

-- no two writers stand at one position
abbrev pub PositionsDiffer : List Writer → Type 0
PositionsDiffer writers = (v w : Writer) → Contains writers v → Contains writers w → v.at ≡ w.at → v ≡ w
