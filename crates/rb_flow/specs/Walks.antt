-- What the walk back from a bad part keeps.
use Rattle.std.specs.Prelude.{◌≡◌, ℕ, ◌+◌, ◌<◌, ◌≤◌, ◌⊎◌, List, [], ◌∷◌, ◌++◌, length, Option, Some, None, slice_get}
use Rattle.rb_trees.specs.declared.flows.Writer.{Writer}
use Rattle.rb_flow.specs.declared.origins.Origin.{Origin}
use Rattle.rb_meaning_flow.specs.Chains.{Leads}
use Rattle.rb_flow.specs.Levels.{level_at, Certificate}
use Rattle.rb_flow.specs.Origins.{first_from}

-- of ways with as many writers: the first writer that differs decides, and the sources last
abbrev pub FirstDiffers : ℕ → List ℕ → ℕ → List ℕ → Type 0
FirstDiffers c [] d [] = c ≤ d
FirstDiffers c [] d (q ∷ qs) = ⊥
FirstDiffers c (p ∷ ps) d [] = ⊥
FirstDiffers c (p ∷ ps) d (q ∷ qs) = (p < q) ⊎ ((p ≡ q) × FirstDiffers c ps d qs)

-- the way through ps from c isn't after the one through qs from d
abbrev pub NotAfter : ℕ → List ℕ → ℕ → List ℕ → Type 0
NotAfter c ps d qs = (length ps < length qs) ⊎ ((length ps ≡ length qs) × FirstDiffers c ps d qs)

-- the first way to what reads these nodes and has these sources
pub record IsFirstWay (writers : List Writer) (reads sources : List ℕ) (c : ℕ) (ps : List ℕ) : Type 0 where
  pub leads : Leads writers reads sources c ps
  pub first : (d : ℕ) (qs : List ℕ) → Leads writers reads sources d qs → NotAfter c ps d qs

-- levels are right, and each node's first writer is known
pub record Guides (writers : List Writer) (levels : List ℕ) (origins : ℕ → Option Origin) : Type 0 where
  pub certificate : Certificate writers levels
  pub known : (n : ℕ) → origins n ≡ first_from 0 writers levels n None

-- a writer at its place, with its level
pub record Stands (writers : List Writer) (levels : List ℕ) (o : Origin) : Type 0 where
  pub writer : Writer
  pub is : slice_get writers o.place ≡ Some writer
  pub at : o.at ≡ writer.at
  pub level : o.level ≡ level_at levels o.place
  pub positive : 1 ≤ o.level

-- the first way to the writer at a place, which has as many writers as its level says
pub record IsWayTo (writers : List Writer) (o : Origin) (c : ℕ) (ps : List ℕ) : Type 0 where
  pub way : (w : Writer) → slice_get writers o.place ≡ Some w → IsFirstWay writers w.reads w.sources c ps
  pub size : length ps + 1 ≡ o.level

-- what stands on the way so far, from the writer `from` back to the writer `to`
pub record Walked (writers : List Writer) (levels before now : List ℕ) (from to : Origin) : Type 0 where
  pub path : List ℕ
  pub now_is : now ≡ before ++ from.at ∷ path
  pub stands : Stands writers levels to
  pub rest : (c : ℕ) (ps : List ℕ) → IsWayTo writers to c ps → IsWayTo writers from c (path ++ ps)

-- the whole way from the writer `from` back to the least source, with its first way
pub record Ended (writers : List Writer) (before now : List ℕ) (from : Origin) : Type 0 where
  pub path : List ℕ
  pub source : ℕ
  pub now_is : now ≡ (before ++ from.at ∷ path) ++ source ∷ []
  pub way : IsWayTo writers from source path
