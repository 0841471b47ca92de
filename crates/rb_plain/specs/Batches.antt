-- The batches of a program, as the code finds them by their positions.
use Rattle.std.specs.Prelude.{◌≡◌, ℕ, suc, List, [], ◌∷◌, Bool, false, cond, nat_eq, Option, None, Some, option_and_then, option_map, slice_get}
use Rattle.std.specs.HashMap.{get}
use Rattle.rb_trees.specs.mirror.Declarations.{Program}
use Rattle.rb_meaning.specs.Unsplit.{batch_at}
use Rattle.rb_scopes.specs.Seen.{newest}
use Rattle.rb_flow.specs.Begun.{begun, begun_of}
use Rattle.rb_flow.specs.declared.outermost.OpenBatch.{OpenBatch}
use Rattle.rb_plain.specs.declared.batches.Batches.{Batches}

-- the root of a batch: the name of the last variable in scope where it begins, and its node, which is the batch's position
abbrev pub root_of : OpenBatch → Option (List ℕ × ℕ)
root_of b = newest b.scope

-- whether a batch with this root stands at a position
abbrev pub stands_at : Option (List ℕ × ℕ) → ℕ → Bool
stands_at None at = false
stands_at (Some root) at = nat_eq root.1 at

-- the place of the first batch at a position, among batches whose places begin from a number
abbrev pub place_in : List OpenBatch → ℕ → ℕ → Option ℕ
place_in [] at place = None
place_in (b ∷ bs) at place = cond (stands_at (root_of b) at) (Some place) (place_in bs at (suc place))

-- the place of one more batch, by what finds one before and what finds one now
abbrev pub Notes : OpenBatch → ℕ → (ℕ → Option ℕ) → (ℕ → Option ℕ) → Type 0
Notes b place before now = (at : ℕ) → now at ≡ cond (stands_at (root_of b) at) (Some place) (before at)

-- the batch that is found at a position
abbrev pub found : Batches → ℕ → Option OpenBatch
found b at = option_and_then (λ place. slice_get b.batches place) (get nat_eq b.places at)

-- At each position that batch of the program is found, as it begins, that stands there.
abbrev pub AreBatchesOf : Program → Batches → Type 0
AreBatchesOf p b = (at : ℕ) → option_map begun_of (found b at) ≡ option_map begun (batch_at p at)
