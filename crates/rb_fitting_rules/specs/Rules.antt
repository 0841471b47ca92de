-- Which nodes fit a remainder, by cases on both trees, where the lists of inputs have these lengths.
use Rattle.std.specs.Prelude.{◌≡◌, ℕ, List, [], ◌∷◌, Bool, true, false, Option, Some, None}
use Rattle.rb_trees.specs.declared.values.Value.{Value, out-Value}
use Rattle.rb_trees.specs.declared.forests.NodeFault.{NodeFault}
use Rattle.rb_trees.specs.mirror.Code.{Expr, Stmt}
use Rattle.rb_trees.specs.mirror.Forests as forest
use Rattle.rb_trees.specs.mirror.Forests.{Node, Holds, Entries, NoEntries, MoreEntries, Nodes, NoNodes, MoreNodes}
use Rattle.rb_trees.specs.mirror.Remainders as part
use Rattle.rb_trees.specs.mirror.Remainders.{Part, Parts, NoParts, MoreParts}
use Rattle.rb_meaning_bytes.specs.Fits.{form_has_kind, is_kept}
use Rattle.rb_fitting_rules.specs.Heads.{chosen, first_step, faults_now, Loop, loop_of, have_turns}

-- How parts end: all were performed, or a fault stopped them.
pub data End : Type 0 where
  Whole : End
  Stopped : End

mutual
  -- A node fits parts, which end so: each step finds what it demands, and nothing is left over.
  pub data Fits (lengths : List ℕ) : Parts → Node → End → Type 0 where
    -- The end: no part comes, and the node holds no entry and no fault.
    at_end : Fits lengths NoParts (Holds NoEntries None) Whole
    -- The node's fault is at the step that comes. No entry stands before it.
    faulted : (p : Part) (ps : Parts) (f : NodeFault) → first_step p ≡ Some f.step → Fits lengths (MoreParts p ps) (Holds NoEntries (Some f)) Stopped
    -- A step that gives no entry, and what comes fits.
    passed : (step : ℕ) (ps : Parts) (n : Node) (end : End) → Fits lengths ps n end → Fits lengths (MoreParts (part.Pass step) ps) n end
    computed : (step at : ℕ) (name : List ℕ) (value : Expr) (ps : Parts) (n : Node) (end : End) → Fits lengths ps n end
        → Fits lengths (MoreParts (part.Both step at name value) ps) n end
    -- A value of the step's kind, and what comes fits.
    bound : (step : ℕ) (name : List ℕ) (kind : ℕ) (ps : Parts) (v : Value) (es : Entries) (f : Option NodeFault) (end : End)
        → form_has_kind kind (out-Value v) ≡ true → Fits lengths ps (Holds es f) end
        → Fits lengths (MoreParts (part.Bind step name kind) ps) (Holds (MoreEntries (forest.Value v) es) f) end
    -- A statement takes its values one after the other, each of its step's kind.
    taken : (stmt : Stmt) (take : ℕ × ℕ) (takes : List (ℕ × ℕ)) (ps : Parts) (v : Value) (es : Entries) (f : Option NodeFault) (end : End)
        → form_has_kind take.1 (out-Value v) ≡ true → Fits lengths (MoreParts (part.Plain stmt takes) ps) (Holds es f) end
        → Fits lengths (MoreParts (part.Plain stmt (take ∷ takes)) ps) (Holds (MoreEntries (forest.Value v) es) f) end
    all_taken : (stmt : Stmt) (ps : Parts) (n : Node) (end : End) → Fits lengths ps n end → Fits lengths (MoreParts (part.Plain stmt []) ps) n end
    -- A branch, whose node fits the side that was taken, and what comes fits.
    branch : (step : ℕ) (then_parts else_parts ps : Parts) (side : Bool) (inner : Node) (es : Entries) (f : Option NodeFault) (end : End)
        → Fits lengths (chosen side then_parts else_parts) inner Whole → Fits lengths ps (Holds es f) end
        → Fits lengths (MoreParts (part.Branch step then_parts else_parts) ps) (Holds (MoreEntries (forest.Branch side inner) es) f) end
    -- A branch that a fault stopped. It ends the parts, and nothing stands behind it.
    stopped_branch : (step : ℕ) (then_parts else_parts ps : Parts) (side : Bool) (inner : Node)
        → Fits lengths (chosen side then_parts else_parts) inner Stopped
        → Fits lengths (MoreParts (part.Branch step then_parts else_parts) ps) (Holds (MoreEntries (forest.Branch side inner) NoEntries) None) Stopped
    -- Rows, whose turns fit the loop's body, and what comes fits.
    rows : (p : Part) (loop : Loop) (ps : Parts) (ns : Nodes) (es : Entries) (f : Option NodeFault) (end : End) → loop_of lengths p ≡ Some loop
        → have_turns loop.items ns (faults_now loop.step (Holds es f)) ≡ true → TurnsFit lengths loop.kind loop.body ns Whole → Fits lengths ps (Holds es f) end
        → Fits lengths (MoreParts p ps) (Holds (MoreEntries (forest.Rows ns) es) f) end
    -- Rows that a fault stopped in the last turn. It ends the parts, and nothing stands behind it.
    stopped_rows : (p : Part) (loop : Loop) (ps : Parts) (ns : Nodes) → loop_of lengths p ≡ Some loop → have_turns loop.items ns false ≡ true
        → TurnsFit lengths loop.kind loop.body ns Stopped → Fits lengths (MoreParts p ps) (Holds (MoreEntries (forest.Rows ns) NoEntries) None) Stopped
    -- Rows, and the node's fault is at their step: no fuel was left for a further turn.
    no_further_turn : (p : Part) (loop : Loop) (ps : Parts) (ns : Nodes) (f : NodeFault) → loop_of lengths p ≡ Some loop → have_turns loop.items ns true ≡ true
        → TurnsFit lengths loop.kind loop.body ns Whole → f.step ≡ loop.step
        → Fits lengths (MoreParts p ps) (Holds (MoreEntries (forest.Rows ns) NoEntries) (Some f)) Stopped

  -- Turns fit a loop's body, one after the other. Only the last may be stopped by a fault.
  pub data TurnsFit (lengths : List ℕ) : ℕ → Parts → Nodes → End → Type 0 where
    no_turn : (kind : ℕ) (body : Parts) → TurnsFit lengths kind body NoNodes Whole
    turn : (kind : ℕ) (body : Parts) (n : Node) (ns : Nodes) (end : End) → TurnFits lengths kind body n Whole → TurnsFit lengths kind body ns end
        → TurnsFit lengths kind body (MoreNodes n ns) end
    last_turn : (kind : ℕ) (body : Parts) (n : Node) → TurnFits lengths kind body n Stopped → TurnsFit lengths kind body (MoreNodes n NoNodes) Stopped

  -- A turn's node fits a loop's body. Where rows of the kind are kept, it begins with its row.
  pub data TurnFits (lengths : List ℕ) : ℕ → Parts → Node → End → Type 0 where
    kept : (kind : ℕ) (body : Parts) (v : Value) (es : Entries) (f : Option NodeFault) (end : End) → is_kept kind ≡ true
        → form_has_kind kind (out-Value v) ≡ true → Fits lengths body (Holds es f) end
        → TurnFits lengths kind body (Holds (MoreEntries (forest.Value v) es) f) end
    unkept : (kind : ℕ) (body : Parts) (n : Node) (end : End) → is_kept kind ≡ false → Fits lengths body n end → TurnFits lengths kind body n end

-- A node fits a remainder, however the remainder ends.
abbrev pub IsFit : List ℕ → Node → Parts → Type 0
IsFit lengths n ps = (end : End) × Fits lengths ps n end
