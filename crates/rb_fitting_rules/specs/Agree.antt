-- The rules by cases agree with the walk that computes whether a node fits, both ways.
use Rattle.std.specs.Prelude.{◌≡◌, ◌↔◌, ◌⊎◌, ℕ, List, Ok, Err}
use Rattle.rb_trees.specs.mirror.Forests.{Node}
use Rattle.rb_trees.specs.mirror.Remainders.{Parts}
use Rattle.rb_meaning_bytes.specs.Fits.{Unfit, fits}
use Rattle.rb_fitting_rules.specs.Rules.{IsFit}
use Rattle.rb_fitting_rules.specs.Misfits.{FirstUnfit}

-- the walk finds that a node fits exactly where the rules say so
abbrev pub FitsAgree : Type 0
FitsAgree = (lengths : List ℕ) (n : Node) (ps : Parts) → (fits n ps lengths ≡ Ok tt) ↔ IsFit lengths n ps

-- the walk finds something that doesn't fit exactly where it is the first by the rules
abbrev pub MisfitsAgree : Type 0
MisfitsAgree = (lengths : List ℕ) (n : Node) (ps : Parts) (wrong : Unfit) → (fits n ps lengths ≡ Err wrong) ↔ FirstUnfit lengths n ps wrong

-- a node fits or has a first misfit, not both, and one misfit alone
abbrev pub HasOneOutcome : List ℕ → Node → Parts → Type 0
HasOneOutcome lengths n ps =
    (IsFit lengths n ps ⊎ ((wrong : Unfit) × FirstUnfit lengths n ps wrong)) × ((wrong : Unfit) → IsFit lengths n ps → FirstUnfit lengths n ps wrong → ⊥)
    × ((wrong other : Unfit) → FirstUnfit lengths n ps wrong → FirstUnfit lengths n ps other → wrong ≡ other)

abbrev pub EachHasOneOutcome : Type 0
EachHasOneOutcome = (lengths : List ℕ) (n : Node) (ps : Parts) → HasOneOutcome lengths n ps
