-- What is the first misfit of a node and a remainder, by cases on both trees, where the lists of inputs have these lengths.
use Rattle.std.specs.Prelude.{◌≡◌, ℕ, List, [], ◌∷◌, Bool, true, false, ◌||◌, Option, Some}
use Rattle.rb_trees.specs.declared.values.Value.{Value, out-Value}
use Rattle.rb_trees.specs.declared.forests.NodeFault.{NodeFault}
use Rattle.rb_trees.specs.mirror.Code.{Expr, Stmt}
use Rattle.rb_trees.specs.mirror.Forests as forest
use Rattle.rb_trees.specs.mirror.Forests.{Node, Holds, Entries, NoEntries, MoreEntries, Nodes, NoNodes, MoreNodes}
use Rattle.rb_trees.specs.mirror.Remainders as part
use Rattle.rb_trees.specs.mirror.Remainders.{Part, Parts, NoParts, MoreParts}
use Rattle.rb_meaning_bytes.specs.Fits.{form_has_kind, is_kept, Unfit, At, Extra}
use Rattle.rb_fitting_rules.specs.Heads.{chosen, first_step, faults_now, begins_with_value, begins_with_branch, begins_with_rows, holds_anything, are_any, Loop, loop_of, have_turns}
use Rattle.rb_fitting_rules.specs.Rules.{End, Whole, Stopped}

mutual
  -- Each step of parts finds what it demands in a node, up to a fault, and the parts end so. Something may be left over: this
  -- is told.
  pub data Served (lengths : List ℕ) : Parts → Node → End → Bool → Type 0 where
    -- No part comes. What the node still holds is left over.
    at_end : (es : Entries) (f : Option NodeFault) → Served lengths NoParts (Holds es f) Whole (holds_anything (Holds es f))
    -- The node's fault is at the step that comes.
    faulted : (p : Part) (ps : Parts) (f : NodeFault) → first_step p ≡ Some f.step → Served lengths (MoreParts p ps) (Holds NoEntries (Some f)) Stopped false
    -- A step that gives no entry, at which the node's fault isn't.
    passed : (step : ℕ) (ps : Parts) (es : Entries) (f : Option NodeFault) (end : End) (left : Bool) → faults_now step (Holds es f) ≡ false
        → Served lengths ps (Holds es f) end left → Served lengths (MoreParts (part.Pass step) ps) (Holds es f) end left
    computed : (step at : ℕ) (name : List ℕ) (value : Expr) (ps : Parts) (es : Entries) (f : Option NodeFault) (end : End) (left : Bool)
        → faults_now step (Holds es f) ≡ false → Served lengths ps (Holds es f) end left
        → Served lengths (MoreParts (part.Both step at name value) ps) (Holds es f) end left
    -- A value of the step's kind.
    bound : (step : ℕ) (name : List ℕ) (kind : ℕ) (ps : Parts) (v : Value) (es : Entries) (f : Option NodeFault) (end : End) (left : Bool)
        → form_has_kind kind (out-Value v) ≡ true → Served lengths ps (Holds es f) end left
        → Served lengths (MoreParts (part.Bind step name kind) ps) (Holds (MoreEntries (forest.Value v) es) f) end left
    -- The values that a statement takes, one after the other.
    taken : (stmt : Stmt) (take : ℕ × ℕ) (takes : List (ℕ × ℕ)) (ps : Parts) (v : Value) (es : Entries) (f : Option NodeFault) (end : End) (left : Bool)
        → form_has_kind take.1 (out-Value v) ≡ true → Served lengths (MoreParts (part.Plain stmt takes) ps) (Holds es f) end left
        → Served lengths (MoreParts (part.Plain stmt (take ∷ takes)) ps) (Holds (MoreEntries (forest.Value v) es) f) end left
    all_taken : (stmt : Stmt) (ps : Parts) (es : Entries) (f : Option NodeFault) (end : End) (left : Bool) → Served lengths ps (Holds es f) end left
        → Served lengths (MoreParts (part.Plain stmt []) ps) (Holds es f) end left
    -- A branch, in whose node something may be left over, and what comes.
    branch : (step : ℕ) (then_parts else_parts ps : Parts) (side : Bool) (inner : Node) (es : Entries) (f : Option NodeFault) (end : End) (within left : Bool)
        → Served lengths (chosen side then_parts else_parts) inner Whole within → Served lengths ps (Holds es f) end left
        → Served lengths (MoreParts (part.Branch step then_parts else_parts) ps) (Holds (MoreEntries (forest.Branch side inner) es) f) end (within || left)
    -- A branch that a fault stopped: what the node holds behind it is left over.
    stopped_branch : (step : ℕ) (then_parts else_parts ps : Parts) (side : Bool) (inner : Node) (es : Entries) (f : Option NodeFault) (within : Bool)
        → Served lengths (chosen side then_parts else_parts) inner Stopped within
        → Served lengths (MoreParts (part.Branch step then_parts else_parts) ps) (Holds (MoreEntries (forest.Branch side inner) es) f) Stopped
        (within || holds_anything (Holds es f))
    -- Rows, behind which the node's fault isn't at their step, and what comes.
    rows : (p : Part) (loop : Loop) (ps : Parts) (ns : Nodes) (es : Entries) (f : Option NodeFault) (end : End) (within left : Bool)
        → loop_of lengths p ≡ Some loop → have_turns loop.items ns false ≡ true → TurnsServed lengths loop.kind loop.body ns Whole within
        → faults_now loop.step (Holds es f) ≡ false → Served lengths ps (Holds es f) end left
        → Served lengths (MoreParts p ps) (Holds (MoreEntries (forest.Rows ns) es) f) end (within || left)
    -- Rows that a fault stopped: what the node holds behind them is left over.
    stopped_rows : (p : Part) (loop : Loop) (ps : Parts) (ns : Nodes) (es : Entries) (f : Option NodeFault) (within : Bool)
        → loop_of lengths p ≡ Some loop → have_turns loop.items ns (faults_now loop.step (Holds es f)) ≡ true
        → TurnsServed lengths loop.kind loop.body ns Stopped within
        → Served lengths (MoreParts p ps) (Holds (MoreEntries (forest.Rows ns) es) f) Stopped (within || holds_anything (Holds es f))
    -- Rows, and the node's fault is at their step.
    no_further_turn : (p : Part) (loop : Loop) (ps : Parts) (ns : Nodes) (f : NodeFault) (within : Bool) → loop_of lengths p ≡ Some loop
        → have_turns loop.items ns true ≡ true → TurnsServed lengths loop.kind loop.body ns Whole within → f.step ≡ loop.step
        → Served lengths (MoreParts p ps) (Holds (MoreEntries (forest.Rows ns) NoEntries) (Some f)) Stopped within

  -- The same of turns and a loop's body. Turns behind one that a fault stopped are left over.
  pub data TurnsServed (lengths : List ℕ) : ℕ → Parts → Nodes → End → Bool → Type 0 where
    no_turn : (kind : ℕ) (body : Parts) → TurnsServed lengths kind body NoNodes Whole false
    turn : (kind : ℕ) (body : Parts) (n : Node) (ns : Nodes) (end : End) (within left : Bool) → TurnServed lengths kind body n Whole within
        → TurnsServed lengths kind body ns end left → TurnsServed lengths kind body (MoreNodes n ns) end (within || left)
    stopped_turn : (kind : ℕ) (body : Parts) (n : Node) (ns : Nodes) (within : Bool) → TurnServed lengths kind body n Stopped within
        → TurnsServed lengths kind body (MoreNodes n ns) Stopped (within || are_any ns)

  -- The same of a turn, which begins with its row where rows of the kind are kept.
  pub data TurnServed (lengths : List ℕ) : ℕ → Parts → Node → End → Bool → Type 0 where
    kept : (kind : ℕ) (body : Parts) (v : Value) (es : Entries) (f : Option NodeFault) (end : End) (left : Bool) → is_kept kind ≡ true
        → form_has_kind kind (out-Value v) ≡ true → Served lengths body (Holds es f) end left
        → TurnServed lengths kind body (Holds (MoreEntries (forest.Value v) es) f) end left
    unkept : (kind : ℕ) (body : Parts) (n : Node) (end : End) (left : Bool) → is_kept kind ≡ false → Served lengths body n end left
        → TurnServed lengths kind body n end left

mutual
  -- A step of parts is the first that doesn't find in a node what it demands.
  pub data Misfit (lengths : List ℕ) : Parts → Node → ℕ → Type 0 where
    -- No value of the step's kind stands first, and the node's fault isn't at the step.
    no_value : (step : ℕ) (name : List ℕ) (kind : ℕ) (ps : Parts) (n : Node) → begins_with_value kind n ≡ false → faults_now step n ≡ false
        → Misfit lengths (MoreParts (part.Bind step name kind) ps) n step
    not_taken : (stmt : Stmt) (take : ℕ × ℕ) (takes : List (ℕ × ℕ)) (ps : Parts) (n : Node) → begins_with_value take.1 n ≡ false
        → faults_now take.0 n ≡ false → Misfit lengths (MoreParts (part.Plain stmt (take ∷ takes)) ps) n take.0
    -- No branch stands first.
    no_branch : (step : ℕ) (then_parts else_parts ps : Parts) (n : Node) → begins_with_branch n ≡ false → faults_now step n ≡ false
        → Misfit lengths (MoreParts (part.Branch step then_parts else_parts) ps) n step
    -- No rows stand first.
    no_rows : (p : Part) (loop : Loop) (ps : Parts) (n : Node) → loop_of lengths p ≡ Some loop → begins_with_rows n ≡ false
        → faults_now loop.step n ≡ false → Misfit lengths (MoreParts p ps) n loop.step
    -- Rows stand first, but their turns aren't as many as the list has items. This comes before the steps of a turn.
    not_counted : (p : Part) (loop : Loop) (ps : Parts) (ns : Nodes) (es : Entries) (f : Option NodeFault) → loop_of lengths p ≡ Some loop
        → have_turns loop.items ns (faults_now loop.step (Holds es f)) ≡ false
        → Misfit lengths (MoreParts p ps) (Holds (MoreEntries (forest.Rows ns) es) f) loop.step
    -- It is a step of the side that was taken, or of a turn.
    in_branch : (step : ℕ) (then_parts else_parts ps : Parts) (side : Bool) (inner : Node) (es : Entries) (f : Option NodeFault) (wrong : ℕ)
        → Misfit lengths (chosen side then_parts else_parts) inner wrong
        → Misfit lengths (MoreParts (part.Branch step then_parts else_parts) ps) (Holds (MoreEntries (forest.Branch side inner) es) f) wrong
    in_rows : (p : Part) (loop : Loop) (ps : Parts) (ns : Nodes) (es : Entries) (f : Option NodeFault) (wrong : ℕ) → loop_of lengths p ≡ Some loop
        → have_turns loop.items ns (faults_now loop.step (Holds es f)) ≡ true → TurnsMisfit lengths loop.step loop.kind loop.body ns wrong
        → Misfit lengths (MoreParts p ps) (Holds (MoreEntries (forest.Rows ns) es) f) wrong
    -- The part that comes finds what it demands, and no fault: it is a step behind that part.
    behind_passed : (step : ℕ) (ps : Parts) (es : Entries) (f : Option NodeFault) (wrong : ℕ) → faults_now step (Holds es f) ≡ false
        → Misfit lengths ps (Holds es f) wrong → Misfit lengths (MoreParts (part.Pass step) ps) (Holds es f) wrong
    behind_computed : (step at : ℕ) (name : List ℕ) (value : Expr) (ps : Parts) (es : Entries) (f : Option NodeFault) (wrong : ℕ)
        → faults_now step (Holds es f) ≡ false → Misfit lengths ps (Holds es f) wrong → Misfit lengths (MoreParts (part.Both step at name value) ps) (Holds es f) wrong
    behind_bound : (step : ℕ) (name : List ℕ) (kind : ℕ) (ps : Parts) (v : Value) (es : Entries) (f : Option NodeFault) (wrong : ℕ)
        → form_has_kind kind (out-Value v) ≡ true → Misfit lengths ps (Holds es f) wrong
        → Misfit lengths (MoreParts (part.Bind step name kind) ps) (Holds (MoreEntries (forest.Value v) es) f) wrong
    behind_taken : (stmt : Stmt) (take : ℕ × ℕ) (takes : List (ℕ × ℕ)) (ps : Parts) (v : Value) (es : Entries) (f : Option NodeFault) (wrong : ℕ)
        → form_has_kind take.1 (out-Value v) ≡ true → Misfit lengths (MoreParts (part.Plain stmt takes) ps) (Holds es f) wrong
        → Misfit lengths (MoreParts (part.Plain stmt (take ∷ takes)) ps) (Holds (MoreEntries (forest.Value v) es) f) wrong
    behind_all_taken : (stmt : Stmt) (ps : Parts) (es : Entries) (f : Option NodeFault) (wrong : ℕ) → Misfit lengths ps (Holds es f) wrong
        → Misfit lengths (MoreParts (part.Plain stmt []) ps) (Holds es f) wrong
    behind_branch : (step : ℕ) (then_parts else_parts ps : Parts) (side : Bool) (inner : Node) (es : Entries) (f : Option NodeFault) (within : Bool) (wrong : ℕ)
        → Served lengths (chosen side then_parts else_parts) inner Whole within → Misfit lengths ps (Holds es f) wrong
        → Misfit lengths (MoreParts (part.Branch step then_parts else_parts) ps) (Holds (MoreEntries (forest.Branch side inner) es) f) wrong
    behind_rows : (p : Part) (loop : Loop) (ps : Parts) (ns : Nodes) (es : Entries) (f : Option NodeFault) (within : Bool) (wrong : ℕ)
        → loop_of lengths p ≡ Some loop → have_turns loop.items ns false ≡ true → TurnsServed lengths loop.kind loop.body ns Whole within
        → faults_now loop.step (Holds es f) ≡ false → Misfit lengths ps (Holds es f) wrong
        → Misfit lengths (MoreParts p ps) (Holds (MoreEntries (forest.Rows ns) es) f) wrong

  -- The same of the turns of a loop at a step. A turn without the row that is kept is a misfit of the loop's own step.
  pub data TurnsMisfit (lengths : List ℕ) : ℕ → ℕ → Parts → Nodes → ℕ → Type 0 where
    no_row : (step kind : ℕ) (body : Parts) (n : Node) (ns : Nodes) → is_kept kind ≡ true → begins_with_value kind n ≡ false
        → TurnsMisfit lengths step kind body (MoreNodes n ns) step
    in_kept : (step kind : ℕ) (body : Parts) (v : Value) (es : Entries) (f : Option NodeFault) (ns : Nodes) (wrong : ℕ) → is_kept kind ≡ true
        → form_has_kind kind (out-Value v) ≡ true → Misfit lengths body (Holds es f) wrong
        → TurnsMisfit lengths step kind body (MoreNodes (Holds (MoreEntries (forest.Value v) es) f) ns) wrong
    in_unkept : (step kind : ℕ) (body : Parts) (n : Node) (ns : Nodes) (wrong : ℕ) → is_kept kind ≡ false → Misfit lengths body n wrong
        → TurnsMisfit lengths step kind body (MoreNodes n ns) wrong
    behind_turn : (step kind : ℕ) (body : Parts) (n : Node) (ns : Nodes) (within : Bool) (wrong : ℕ) → TurnServed lengths kind body n Whole within
        → TurnsMisfit lengths step kind body ns wrong → TurnsMisfit lengths step kind body (MoreNodes n ns) wrong

-- What doesn't fit first: a step that doesn't find what it demands; or, where each step does, that something is left over.
abbrev pub FirstUnfit : List ℕ → Node → Parts → Unfit → Type 0
FirstUnfit lengths n ps (At step) = Misfit lengths ps n step
FirstUnfit lengths n ps Extra = (end : End) × Served lengths ps n end true
