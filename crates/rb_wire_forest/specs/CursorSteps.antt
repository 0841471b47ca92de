-- The steps of a walk, on what is open, the innermost first.
use Rattle.std.specs.Prelude.{◌≡◌, ℕ, List, ◌∷◌, Bool, true, false, Option, None, Some}
use Rattle.rb_trees.specs.declared.values.Value.{Value}
use Rattle.rb_trees.specs.declared.forests.NodeFault.{NodeFault}
use Rattle.rb_trees.specs.mirror.Forests as forest
use Rattle.rb_trees.specs.mirror.Forests.{Holds, NoEntries, MoreEntries, NoNodes, MoreNodes}
use Rattle.rb_meaning_bytes.specs.Fits.{last_turn_ends_early}
use Rattle.rb_meaning_bytes.specs.formats.ForestBytes.{count_nodes}
use Rattle.rb_wire_forest.specs.Opens.{Open, AtNode, AtRows}

-- the next entry of the innermost node is a value: it is taken
abbrev pub next_value : List Open → Option (Value × List Open)
next_value (AtNode (Holds (MoreEntries (forest.Value v) es) f) ∷ os) = Some (v, AtNode (Holds es f) ∷ os)
next_value _ = None

-- .. a branch: it is taken, and its node is open
abbrev pub next_branch : List Open → Option (Bool × List Open)
next_branch (AtNode (Holds (MoreEntries (forest.Branch taken n) es) f) ∷ os) = Some (taken, AtNode n ∷ AtNode (Holds es f) ∷ os)
next_branch _ = None

-- .. a Rows: it is taken, and open
abbrev pub next_rows : List Open → Option (ℕ × List Open)
next_rows (AtNode (Holds (MoreEntries (forest.Rows ns) es) f) ∷ os) = Some (count_nodes ns, AtRows ns ∷ AtNode (Holds es f) ∷ os)
next_rows _ = None

-- the next node of the innermost Rows is open
abbrev pub next_turn : List Open → Option (List Open)
next_turn (AtRows (MoreNodes n ns) ∷ os) = Some (AtNode n ∷ AtRows ns ∷ os)
next_turn _ = None

-- the fault of the innermost node, without entries left
abbrev pub next_fault : List Open → Option NodeFault
next_fault (AtNode (Holds NoEntries f) ∷ os) = f
next_fault _ = None

-- whether a fault ends the last node of the innermost Rows
abbrev pub ends_early : List Open → Bool
ends_early (AtRows ns ∷ os) = last_turn_ends_early ns
ends_early _ = false

-- whether the innermost node has an entry left
abbrev pub has_entry : List Open → Bool
has_entry (AtNode (Holds (MoreEntries x es) f) ∷ os) = true
has_entry _ = false

-- the innermost, with nothing left, is closed
abbrev pub closing : List Open → Option (List Open)
closing (AtNode (Holds NoEntries f) ∷ o ∷ os) = Some (o ∷ os)
closing (AtRows NoNodes ∷ o ∷ os) = Some (o ∷ os)
closing _ = None

-- the innermost is closed, whatever is left of it; the root stays
abbrev pub closed : List Open → Option (List Open)
closed (x ∷ o ∷ os) = Some (o ∷ os)
closed _ = None

-- What a call took and left: the step's, or None and all as it was, exactly where there is no such step.
abbrev pub Takes : {A B : Type 0} → (A → B) → (List Open → Option (B × List Open)) → List Open → Option A → List Open → Type 0
Takes view next old (Some x) new = next old ≡ Some (view x, new)
Takes view next old None new = (next old ≡ None) × (new ≡ old)

-- The same of a step that gives nothing.
abbrev pub Moves : (List Open → Option (List Open)) → List Open → Bool → List Open → Type 0
Moves next old true new = next old ≡ Some new
Moves next old false new = (next old ≡ None) × (new ≡ old)
