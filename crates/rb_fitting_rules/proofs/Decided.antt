-- Each node and parts are served, or have a misfit.
use Rattle.std.proofs.Common.{◌≡◌, ℕ, List, [], ◌∷◌, Bool, true, false, ◌||◌, nat_eq, get_or, Option, Some, None, refl, ap, sym, ◌∙◌}
use Rattle.std.proofs.lemmas.Bool.{eqb-true}
use Rattle.rb_trees.specs.declared.values.Value.{Value, out-Value}
use Rattle.rb_trees.specs.declared.forests.NodeFault.{NodeFault}
use Rattle.rb_trees.specs.mirror.Code.{Stmt}
use Rattle.rb_trees.specs.mirror.Forests as forest
use Rattle.rb_trees.specs.mirror.Forests.{Node, Holds, Entries, NoEntries, MoreEntries, Nodes, NoNodes, MoreNodes}
use Rattle.rb_trees.specs.mirror.Remainders as part
use Rattle.rb_trees.specs.mirror.Remainders.{Part, Parts, NoParts, MoreParts}
use Rattle.rb_meaning_bytes.specs.Fits.{form_has_kind, is_kept, no_kind}
use Rattle.rb_fitting_rules.specs.Heads.{chosen, first_step, faults_now, begins_with_value, holds_anything, are_any, Loop, loop_of, have_turns}
use Rattle.rb_fitting_rules.specs.Rules.{End, Whole, Stopped}
use Rattle.rb_fitting_rules.specs.Misfits as rule
use Rattle.rb_fitting_rules.specs.Misfits.{Served, TurnsServed, TurnServed, Misfit, TurnsMisfit}
use Rattle.rb_fitting_rules.proofs.Steps.{by_truth, still}

pub data Decided (lengths : List ℕ) (ps : Parts) (n : Node) : Type 0 where
  serves : (end : End) (left : Bool) → Served lengths ps n end left → Decided lengths ps n
  misses : (wrong : ℕ) → Misfit lengths ps n wrong → Decided lengths ps n

data DecidedTurns (lengths : List ℕ) (step kind : ℕ) (body : Parts) (ns : Nodes) : Type 0 where
  turns_serve : (end : End) (left : Bool) → TurnsServed lengths kind body ns end left → DecidedTurns lengths step kind body ns
  turns_miss : (wrong : ℕ) → TurnsMisfit lengths step kind body ns wrong → DecidedTurns lengths step kind body ns

data DecidedTurn (lengths : List ℕ) (step kind : ℕ) (body : Parts) (n : Node) (ns : Nodes) : Type 0 where
  turn_serves : (end : End) (left : Bool) → TurnServed lengths kind body n end left → DecidedTurn lengths step kind body n ns
  turn_misses : (wrong : ℕ) → TurnsMisfit lengths step kind body (MoreNodes n ns) wrong → DecidedTurn lengths step kind body n ns

module _ (lengths : List ℕ) where
  carried : (ps qs : Parts) (n m : Node) → ((end : End) (left : Bool) → Served lengths ps n end left → Served lengths qs m end left)
      → ((wrong : ℕ) → Misfit lengths ps n wrong → Misfit lengths qs m wrong) → Decided lengths ps n → Decided lengths qs m
  carried ps qs n m serving missing (serves end left s) = serves end left (serving end left s)
  carried ps qs n m serving missing (misses wrong w) = misses wrong (missing wrong w)

  -- where the node's fault comes: it is at the step, or this holds
  at_fault : (p : Part) (ps : Parts) (f : NodeFault) (step : ℕ) → first_step p ≡ Some step
      → (nat_eq f.step step ≡ false → Decided lengths (MoreParts p ps) (Holds NoEntries (Some f))) → Decided lengths (MoreParts p ps) (Holds NoEntries (Some f))
  at_fault p ps f step first other =
      by_truth (nat_eq f.step step) (λ hit. serves Stopped false (rule.faulted p ps f (first ∙ ap Some (sym (eqb-true f.step step hit))))) other

  -- a step without an entry
  unread : (p : Part) (ps : Parts) (step : ℕ) → first_step p ≡ Some step
      → ((es : Entries) (f : Option NodeFault) → faults_now step (Holds es f) ≡ false → Decided lengths (MoreParts p ps) (Holds es f)) → (n : Node) → Decided lengths (MoreParts p ps) n
  unread p ps step first other (Holds NoEntries None) = other NoEntries None refl
  unread p ps step first other (Holds NoEntries (Some f)) = at_fault p ps f step first (λ miss. other NoEntries (Some f) miss)
  unread p ps step first other (Holds (MoreEntries e es) f) = other (MoreEntries e es) f refl

  decide_unread : (p : Part) (step : ℕ) (ps : Parts) → first_step p ≡ Some step
      → ((es : Entries) (f : Option NodeFault) (end : End) (left : Bool) → faults_now step (Holds es f) ≡ false → Served lengths ps (Holds es f) end left → Served lengths (MoreParts p ps) (Holds es f) end left)
      → ((es : Entries) (f : Option NodeFault) (wrong : ℕ) → faults_now step (Holds es f) ≡ false → Misfit lengths ps (Holds es f) wrong → Misfit lengths (MoreParts p ps) (Holds es f) wrong)
      → ((n : Node) → Decided lengths ps n) → (n : Node) → Decided lengths (MoreParts p ps) n
  decide_unread p step ps first serving missing rest n = unread p ps step first (λ es f miss.
      carried ps (MoreParts p ps) (Holds es f) (Holds es f) (λ end left s. serving es f end left miss s) (λ wrong m. missing es f wrong miss m) (rest (Holds es f))) n

  -- a value
  decide_value : (p : Part) (ps qs : Parts) (step kind : ℕ) → first_step p ≡ Some step
      → ((n : Node) → begins_with_value kind n ≡ false → faults_now step n ≡ false → Misfit lengths (MoreParts p ps) n step)
      → ((v : Value) (es : Entries) (f : Option NodeFault) (end : End) (left : Bool) → form_has_kind kind (out-Value v) ≡ true → Served lengths qs (Holds es f) end left
      → Served lengths (MoreParts p ps) (Holds (MoreEntries (forest.Value v) es) f) end left)
      → ((v : Value) (es : Entries) (f : Option NodeFault) (wrong : ℕ) → form_has_kind kind (out-Value v) ≡ true → Misfit lengths qs (Holds es f) wrong
      → Misfit lengths (MoreParts p ps) (Holds (MoreEntries (forest.Value v) es) f) wrong)
      → ((n : Node) → Decided lengths qs n) → (n : Node) → Decided lengths (MoreParts p ps) n
  decide_value p ps qs step kind first none serving missing rest (Holds (MoreEntries (forest.Value v) es) f) =
      by_truth (form_has_kind kind (out-Value v))
      (λ hit. carried qs (MoreParts p ps) (Holds es f) (Holds (MoreEntries (forest.Value v) es) f)
      (λ end left s. serving v es f end left hit s) (λ wrong m. missing v es f wrong hit m) (rest (Holds es f)))
      (λ miss. misses step (none (Holds (MoreEntries (forest.Value v) es) f) miss refl))
  decide_value p ps qs step kind first none serving missing rest (Holds (MoreEntries (forest.Branch side inner) es) f) =
      misses step (none (Holds (MoreEntries (forest.Branch side inner) es) f) refl refl)
  decide_value p ps qs step kind first none serving missing rest (Holds (MoreEntries (forest.Rows ns) es) f) =
      misses step (none (Holds (MoreEntries (forest.Rows ns) es) f) refl refl)
  decide_value p ps qs step kind first none serving missing rest (Holds NoEntries None) = misses step (none (Holds NoEntries None) refl refl)
  decide_value p ps qs step kind first none serving missing rest (Holds NoEntries (Some f)) =
      at_fault p ps f step first (λ miss. misses step (none (Holds NoEntries (Some f)) refl miss))

  decide_takes : (stmt : Stmt) (takes : List (ℕ × ℕ)) (ps : Parts) → ((n : Node) → Decided lengths ps n) → (n : Node) → Decided lengths (MoreParts (part.Plain stmt takes) ps) n
  decide_takes stmt [] ps rest (Holds es f) =
      carried ps (MoreParts (part.Plain stmt []) ps) (Holds es f) (Holds es f)
      (λ end left s. rule.all_taken stmt ps es f end left s) (λ wrong m. rule.behind_all_taken stmt ps es f wrong m) (rest (Holds es f))
  decide_takes stmt (take ∷ takes) ps rest n =
      decide_value (part.Plain stmt (take ∷ takes)) ps (MoreParts (part.Plain stmt takes) ps) take.0 take.1 refl
      (λ m none still. rule.not_taken stmt take takes ps m none still)
      (λ v es f end left hit s. rule.taken stmt take takes ps v es f end left hit s)
      (λ v es f wrong hit m. rule.behind_taken stmt take takes ps v es f wrong hit m)
      (λ m. decide_takes stmt takes ps rest m) n

  decide_bound : (step : ℕ) (name : List ℕ) (kind : ℕ) (ps : Parts) → ((n : Node) → Decided lengths ps n) → (n : Node) → Decided lengths (MoreParts (part.Bind step name kind) ps) n
  decide_bound step name kind ps rest n =
      decide_value (part.Bind step name kind) ps ps step kind refl
      (λ m none still. rule.no_value step name kind ps m none still)
      (λ v es f end left hit s. rule.bound step name kind ps v es f end left hit s)
      (λ v es f wrong hit m. rule.behind_bound step name kind ps v es f wrong hit m)
      rest n

  -- a branch
  behind_branch_decided : (step : ℕ) (a b ps : Parts) (side : Bool) (inner : Node) (es : Entries) (f : Option NodeFault) → Decided lengths (chosen side a b) inner → Decided lengths ps (Holds es f)
      → Decided lengths (MoreParts (part.Branch step a b) ps) (Holds (MoreEntries (forest.Branch side inner) es) f)
  behind_branch_decided step a b ps side inner es f (serves Whole within s) (serves end left t) =
      serves end (within || left) (rule.branch step a b ps side inner es f end within left s t)
  behind_branch_decided step a b ps side inner es f (serves Whole within s) (misses wrong m) =
      misses wrong (rule.behind_branch step a b ps side inner es f within wrong s m)
  behind_branch_decided step a b ps side inner es f (serves Stopped within s) d =
      serves Stopped (within || holds_anything (Holds es f)) (rule.stopped_branch step a b ps side inner es f within s)
  behind_branch_decided step a b ps side inner es f (misses wrong m) d = misses wrong (rule.in_branch step a b ps side inner es f wrong m)

  decide_branch : (step : ℕ) (a b ps : Parts) → ((n : Node) → Decided lengths a n) → ((n : Node) → Decided lengths b n) → ((n : Node) → Decided lengths ps n) → (n : Node)
      → Decided lengths (MoreParts (part.Branch step a b) ps) n
  decide_branch step a b ps then_rest else_rest rest (Holds (MoreEntries (forest.Branch true inner) es) f) =
      behind_branch_decided step a b ps true inner es f (then_rest inner) (rest (Holds es f))
  decide_branch step a b ps then_rest else_rest rest (Holds (MoreEntries (forest.Branch false inner) es) f) =
      behind_branch_decided step a b ps false inner es f (else_rest inner) (rest (Holds es f))
  decide_branch step a b ps then_rest else_rest rest (Holds (MoreEntries (forest.Value v) es) f) = misses step (rule.no_branch step a b ps (Holds (MoreEntries (forest.Value v) es) f) refl refl)
  decide_branch step a b ps then_rest else_rest rest (Holds (MoreEntries (forest.Rows ns) es) f) = misses step (rule.no_branch step a b ps (Holds (MoreEntries (forest.Rows ns) es) f) refl refl)
  decide_branch step a b ps then_rest else_rest rest (Holds NoEntries None) = misses step (rule.no_branch step a b ps (Holds NoEntries None) refl refl)
  decide_branch step a b ps then_rest else_rest rest (Holds NoEntries (Some f)) =
      at_fault (part.Branch step a b) ps f step refl (λ miss. misses step (rule.no_branch step a b ps (Holds NoEntries (Some f)) refl miss))

  -- turns
  in_kept_turn : (step kind : ℕ) (body : Parts) (v : Value) (es : Entries) (f : Option NodeFault) (ns : Nodes) → is_kept kind ≡ true → form_has_kind kind (out-Value v) ≡ true
      → Decided lengths body (Holds es f) → DecidedTurn lengths step kind body (Holds (MoreEntries (forest.Value v) es) f) ns
  in_kept_turn step kind body v es f ns keeps has (serves end left s) = turn_serves end left (rule.kept kind body v es f end left keeps has s)
  in_kept_turn step kind body v es f ns keeps has (misses wrong m) = turn_misses wrong (rule.in_kept step kind body v es f ns wrong keeps has m)

  in_unkept_turn : (step kind : ℕ) (body : Parts) (n : Node) (ns : Nodes) → is_kept kind ≡ false → Decided lengths body n → DecidedTurn lengths step kind body n ns
  in_unkept_turn step kind body n ns keeps (serves end left s) = turn_serves end left (rule.unkept kind body n end left keeps s)
  in_unkept_turn step kind body n ns keeps (misses wrong m) = turn_misses wrong (rule.in_unkept step kind body n ns wrong keeps m)

  decide_kept : (step kind : ℕ) (body : Parts) → ((n : Node) → Decided lengths body n) → (n : Node) (ns : Nodes) → is_kept kind ≡ true → DecidedTurn lengths step kind body n ns
  decide_kept step kind body rest (Holds (MoreEntries (forest.Value v) es) f) ns keeps =
      by_truth (form_has_kind kind (out-Value v)) (λ hit. in_kept_turn step kind body v es f ns keeps hit (rest (Holds es f)))
      (λ miss. turn_misses step (rule.no_row step kind body (Holds (MoreEntries (forest.Value v) es) f) ns keeps miss))
  decide_kept step kind body rest (Holds (MoreEntries (forest.Branch side inner) es) f) ns keeps =
      turn_misses step (rule.no_row step kind body (Holds (MoreEntries (forest.Branch side inner) es) f) ns keeps refl)
  decide_kept step kind body rest (Holds (MoreEntries (forest.Rows rows) es) f) ns keeps =
      turn_misses step (rule.no_row step kind body (Holds (MoreEntries (forest.Rows rows) es) f) ns keeps refl)
  decide_kept step kind body rest (Holds NoEntries f) ns keeps = turn_misses step (rule.no_row step kind body (Holds NoEntries f) ns keeps refl)

  decide_turn : (step kind : ℕ) (body : Parts) → ((n : Node) → Decided lengths body n) → (n : Node) (ns : Nodes) → DecidedTurn lengths step kind body n ns
  decide_turn step kind body rest n ns =
      by_truth (is_kept kind) (λ hit. decide_kept step kind body rest n ns hit) (λ miss. in_unkept_turn step kind body n ns miss (rest n))

  more_turns : (step kind : ℕ) (body : Parts) (n : Node) (ns : Nodes) → DecidedTurn lengths step kind body n ns → DecidedTurns lengths step kind body ns → DecidedTurns lengths step kind body (MoreNodes n ns)
  more_turns step kind body n ns (turn_serves Whole within s) (turns_serve end left t) = turns_serve end (within || left) (rule.turn kind body n ns end within left s t)
  more_turns step kind body n ns (turn_serves Whole within s) (turns_miss wrong m) = turns_miss wrong (rule.behind_turn step kind body n ns within wrong s m)
  more_turns step kind body n ns (turn_serves Stopped within s) d = turns_serve Stopped (within || are_any ns) (rule.stopped_turn kind body n ns within s)
  more_turns step kind body n ns (turn_misses wrong m) d = turns_miss wrong m

  decide_turns : (step kind : ℕ) (body : Parts) → ((n : Node) → Decided lengths body n) → (ns : Nodes) → DecidedTurns lengths step kind body ns
  decide_turns step kind body rest NoNodes = turns_serve Whole false (rule.no_turn kind body)
  decide_turns step kind body rest (MoreNodes n ns) = more_turns step kind body n ns (decide_turn step kind body rest n ns) (decide_turns step kind body rest ns)

  -- rows
  module _ (p : Part) (loop : Loop) (ps : Parts) (is : loop_of lengths p ≡ Some loop) where
    further : (ns : Nodes) (es : Entries) (f : Option NodeFault) (within : Bool) → have_turns loop.items ns (faults_now loop.step (Holds es f)) ≡ true
        → TurnsServed lengths loop.kind loop.body ns Whole within → faults_now loop.step (Holds es f) ≡ false → Decided lengths ps (Holds es f)
        → Decided lengths (MoreParts p ps) (Holds (MoreEntries (forest.Rows ns) es) f)
    further ns es f within counts s miss (serves end left t) =
        serves end (within || left) (rule.rows p loop ps ns es f end within left is (still loop ns (Holds es f) false miss counts) s miss t)
    further ns es f within counts s miss (misses wrong m) =
        misses wrong (rule.behind_rows p loop ps ns es f within wrong is (still loop ns (Holds es f) false miss counts) s miss m)

    behind_turns : (ns : Nodes) (es : Entries) (f : Option NodeFault) (within : Bool) → have_turns loop.items ns (faults_now loop.step (Holds es f)) ≡ true
        → TurnsServed lengths loop.kind loop.body ns Whole within → Decided lengths ps (Holds es f)
        → Decided lengths (MoreParts p ps) (Holds (MoreEntries (forest.Rows ns) es) f)
    behind_turns ns NoEntries None within counts s d = further ns NoEntries None within counts s refl d
    behind_turns ns NoEntries (Some f) within counts s d =
        by_truth (nat_eq f.step loop.step)
        (λ hit. serves Stopped within (rule.no_further_turn p loop ps ns f within is (still loop ns (Holds NoEntries (Some f)) true hit counts) s (eqb-true f.step loop.step hit)))
        (λ miss. further ns NoEntries (Some f) within counts s miss d)
    behind_turns ns (MoreEntries e es) f within counts s d = further ns (MoreEntries e es) f within counts s refl d

    counted_rows : (ns : Nodes) (es : Entries) (f : Option NodeFault) → DecidedTurns lengths loop.step loop.kind loop.body ns → Decided lengths ps (Holds es f)
        → have_turns loop.items ns (faults_now loop.step (Holds es f)) ≡ true → Decided lengths (MoreParts p ps) (Holds (MoreEntries (forest.Rows ns) es) f)
    counted_rows ns es f (turns_serve Whole within s) d counts = behind_turns ns es f within counts s d
    counted_rows ns es f (turns_serve Stopped within s) d counts =
        serves Stopped (within || holds_anything (Holds es f)) (rule.stopped_rows p loop ps ns es f within is counts s)
    counted_rows ns es f (turns_miss wrong m) d counts = misses wrong (rule.in_rows p loop ps ns es f wrong is counts m)

    decide_rows : first_step p ≡ Some loop.step → ((n : Node) → Decided lengths loop.body n) → ((n : Node) → Decided lengths ps n) → (n : Node)
        → Decided lengths (MoreParts p ps) n
    decide_rows first turn_rest rest (Holds (MoreEntries (forest.Rows ns) es) f) =
        by_truth (have_turns loop.items ns (faults_now loop.step (Holds es f)))
        (λ counts. counted_rows ns es f (decide_turns loop.step loop.kind loop.body turn_rest ns) (rest (Holds es f)) counts)
        (λ short. misses loop.step (rule.not_counted p loop ps ns es f is short))
    decide_rows first turn_rest rest (Holds (MoreEntries (forest.Value v) es) f) =
        misses loop.step (rule.no_rows p loop ps (Holds (MoreEntries (forest.Value v) es) f) is refl refl)
    decide_rows first turn_rest rest (Holds (MoreEntries (forest.Branch side inner) es) f) =
        misses loop.step (rule.no_rows p loop ps (Holds (MoreEntries (forest.Branch side inner) es) f) is refl refl)
    decide_rows first turn_rest rest (Holds NoEntries None) = misses loop.step (rule.no_rows p loop ps (Holds NoEntries None) is refl refl)
    decide_rows first turn_rest rest (Holds NoEntries (Some f)) =
        at_fault p ps f loop.step first (λ miss. misses loop.step (rule.no_rows p loop ps (Holds NoEntries (Some f)) is refl miss))

  mutual
    decide_part : (p : Part) (ps : Parts) → ((n : Node) → Decided lengths ps n) → (n : Node) → Decided lengths (MoreParts p ps) n
    decide_part (part.Plain stmt takes) ps rest n = decide_takes stmt takes ps rest n
    decide_part (part.Pass step) ps rest n = decide_unread (part.Pass step) step ps refl
        (λ es f end left miss s. rule.passed step ps es f end left miss s) (λ es f wrong miss m. rule.behind_passed step ps es f wrong miss m) rest n
    decide_part (part.Bind step name kind) ps rest n = decide_bound step name kind ps rest n
    decide_part (part.Both step at name value) ps rest n = decide_unread (part.Both step at name value) step ps refl
        (λ es f end left miss s. rule.computed step at name value ps es f end left miss s) (λ es f wrong miss m. rule.behind_computed step at name value ps es f wrong miss m) rest n
    decide_part (part.Branch step a b) ps rest n = decide_branch step a b ps (λ m. decide_parts a m) (λ m. decide_parts b m) rest n
    decide_part (part.Turns step name kind body) ps rest n =
        decide_rows (part.Turns step name kind body) (record { step = step; kind = kind; body = body; items = None }) ps refl refl (λ m. decide_parts body m) rest n
    decide_part (part.Over step at name list input body) ps rest n =
        decide_rows (part.Over step at name list input body) (record { step = step; kind = no_kind; body = body; items = Some (get_or lengths input 0) }) ps refl refl
        (λ m. decide_parts body m) rest n

    pub decide_parts : (ps : Parts) (n : Node) → Decided lengths ps n
    decide_parts NoParts (Holds es f) = serves Whole (holds_anything (Holds es f)) (rule.at_end es f)
    decide_parts (MoreParts p ps) n = decide_part p ps (λ m. decide_parts ps m) n
