-- Where parts have a misfit, the walk finds it.
use Rattle.std.proofs.Common.{◌≡◌, ℕ, List, Bool, true, false, get_or, Option, Some, None, Result, Err, refl, ap, ◌∙◌, subst}
use Rattle.rb_trees.specs.declared.forests.NodeFault.{NodeFault}
use Rattle.rb_trees.specs.mirror.Forests as forest
use Rattle.rb_trees.specs.mirror.Forests.{Node, Holds, Entries, NoEntries, MoreEntries, Nodes, NoNodes, MoreNodes}
use Rattle.rb_trees.specs.mirror.Remainders as part
use Rattle.rb_trees.specs.mirror.Remainders.{Part, Parts, NoParts, MoreParts}
use Rattle.rb_meaning_bytes.specs.Fits.{begun, leaves, value_read, Walk, demanded, first_rows, no_kind, row_read, turns_read, part_read, parts_read, is_kept}
use Rattle.rb_fitting_rules.specs.Heads.{chosen, faults_now, begins_with_value, begins_with_branch, begins_with_rows, Loop, loop_of}
use Rattle.rb_fitting_rules.specs.Rules.{Whole}
use Rattle.rb_fitting_rules.specs.Misfits as rule
use Rattle.rb_fitting_rules.specs.Misfits.{Misfit, TurnsMisfit}
use Rattle.rb_fitting_rules.proofs.Steps.{step_passed, chosen_read, counts_behind}
use Rattle.rb_fitting_rules.proofs.Walked.{stands, node_came, turns_came, turn_came, branch_read, rows_read, loop_read, turn_more}

-- no value of the kind stands first
value_missed : (step kind : ℕ) (es : Entries) (f : Option NodeFault) (spare : Bool) → begins_with_value kind (Holds es f) ≡ false → faults_now step (Holds es f) ≡ false
    → value_read step kind (stands es f false spare) ≡ Err step
value_missed step kind (MoreEntries (forest.Value v) es) f spare none miss = rw none refl
value_missed step kind (MoreEntries (forest.Branch side inner) es) f spare none miss = refl
value_missed step kind (MoreEntries (forest.Rows ns) es) f spare none miss = refl
value_missed step kind NoEntries None spare none miss = refl
value_missed step kind NoEntries (Some f) spare none miss = rw miss refl

module _ (lengths : List ℕ) where
  branch_missed : (step : ℕ) (a b : Parts) (es : Entries) (f : Option NodeFault) (spare : Bool) → begins_with_branch (Holds es f) ≡ false → faults_now step (Holds es f) ≡ false
      → part_read lengths (part.Branch step a b) (stands es f false spare) ≡ Err step
  branch_missed step a b (MoreEntries (forest.Value v) es) f spare none miss = refl
  branch_missed step a b (MoreEntries (forest.Branch side inner) es) f spare none miss = absurd (cc)
  branch_missed step a b (MoreEntries (forest.Rows ns) es) f spare none miss = refl
  branch_missed step a b NoEntries None spare none miss = refl
  branch_missed step a b NoEntries (Some f) spare none miss = rw miss refl

  -- no rows stand first
  rows_wanted : (step : ℕ) (es : Entries) (f : Option NodeFault) (spare : Bool) (go : Nodes × Entries → Result Walk ℕ) → begins_with_rows (Holds es f) ≡ false
      → faults_now step (Holds es f) ≡ false → demanded step (stands es f false spare) (first_rows es) go ≡ Err step
  rows_wanted step (MoreEntries (forest.Value v) es) f spare go none miss = refl
  rows_wanted step (MoreEntries (forest.Branch side inner) es) f spare go none miss = refl
  rows_wanted step (MoreEntries (forest.Rows ns) es) f spare go none miss = absurd (cc)
  rows_wanted step NoEntries None spare go none miss = refl
  rows_wanted step NoEntries (Some f) spare go none miss = rw miss refl

  abbrev IsMissed : Part → Loop → Type 0
  IsMissed p loop = (es : Entries) (f : Option NodeFault) (spare : Bool) → begins_with_rows (Holds es f) ≡ false
      → faults_now loop.step (Holds es f) ≡ false → part_read lengths p (stands es f false spare) ≡ Err loop.step

  rows_missed : (p : Part) (loop : Loop) → loop_of lengths p ≡ Some loop → IsMissed p loop
  rows_missed (part.Plain stmt takes) loop e = absurd (cc)
  rows_missed (part.Pass step) loop e = absurd (cc)
  rows_missed (part.Bind step name kind) loop e = absurd (cc)
  rows_missed (part.Both step at name value) loop e = absurd (cc)
  rows_missed (part.Branch step a b) loop e = absurd (cc)
  rows_missed (part.Turns step name kind body) loop e =
      let own : Loop = record { step = step; kind = kind; body = body; items = None } in
      let same : own ≡ loop = cc in
      subst (λ l. IsMissed (part.Turns step name kind body) l) same (λ es f spare none miss. rows_wanted step es f spare _ none miss)
  rows_missed (part.Over step at name list input body) loop e =
      let own : Loop = record { step = step; kind = no_kind; body = body; items = Some (get_or lengths input 0) } in
      let same : own ≡ loop = cc in
      subst (λ l. IsMissed (part.Over step at name list input body) l) same (λ es f spare none miss. rows_wanted step es f spare _ none miss)

  -- the row that is kept doesn't stand first
  row_missed : (step kind : ℕ) (n : Node) (spare : Bool) → is_kept kind ≡ true → begins_with_value kind n ≡ false → row_read step kind (begun n spare) ≡ Err step
  row_missed step kind (Holds (MoreEntries (forest.Value v) es) f) spare keeps none = rw keeps (rw none refl)
  row_missed step kind (Holds (MoreEntries (forest.Branch side inner) es) f) spare keeps none = rw keeps refl
  row_missed step kind (Holds (MoreEntries (forest.Rows ns) es) f) spare keeps none = rw keeps refl
  row_missed step kind (Holds NoEntries f) spare keeps none = rw keeps refl

  mutual
    pub node_missed : (ps : Parts) (n : Node) (wrong : ℕ) → Misfit lengths ps n wrong → (spare : Bool) → parts_read lengths ps (begun n spare) ≡ Err wrong
    node_missed _ _ _ (rule.no_value step name kind ps (Holds es f) none miss) spare = rw (value_missed step kind es f spare none miss) refl
    node_missed _ _ _ (rule.not_taken stmt take takes ps (Holds es f) none miss) spare = rw (value_missed take.0 take.1 es f spare none miss) refl
    node_missed _ _ _ (rule.no_branch step a b ps (Holds es f) none miss) spare = rw (branch_missed step a b es f spare none miss) refl
    node_missed _ _ _ (rule.no_rows p loop ps (Holds es f) is none miss) spare = rw (rows_missed p loop is es f spare none miss) refl
    node_missed _ _ _ (rule.not_counted p loop ps ns es f is counts) spare = rw (loop_read lengths p loop is ns es f spare) (rw counts refl)
    node_missed _ _ _ (rule.in_branch step a b ps side inner es f wrong m) spare =
        rw (chosen_read lengths side a b (begun inner spare)) (rw (node_missed (chosen side a b) inner wrong m spare) refl)
    node_missed _ _ _ (rule.in_rows p loop ps ns es f wrong is counts m) spare =
        rw (loop_read lengths p loop is ns es f spare) (rw counts (rw (turns_missed loop.step loop.kind loop.body ns wrong m es f spare) refl))
    node_missed _ _ _ (rule.behind_passed step ps es f wrong miss m) spare = rw (step_passed step es f spare miss) (node_missed ps (Holds es f) wrong m spare)
    node_missed _ _ _ (rule.behind_computed step at name value ps es f wrong miss m) spare = rw (step_passed step es f spare miss) (node_missed ps (Holds es f) wrong m spare)
    node_missed _ _ _ (rule.behind_bound step name kind ps v es f wrong hit m) spare = rw hit (node_missed ps (Holds es f) wrong m spare)
    node_missed _ _ _ (rule.behind_taken stmt take takes ps v es f wrong hit m) spare = rw hit (node_missed (MoreParts (part.Plain stmt takes) ps) (Holds es f) wrong m spare)
    node_missed _ _ _ (rule.behind_all_taken stmt ps es f wrong m) spare = node_missed ps (Holds es f) wrong m spare
    node_missed _ _ _ (rule.behind_branch step a b ps side inner es f within wrong s m) spare =
        let c = node_came lengths (chosen side a b) inner Whole within s spare in
        branch_read lengths step a b ps side inner es f spare c.walk c.is
        ∙ ap (λ (x : Bool). parts_read lengths ps (stands es f x (leaves c.walk))) c.stops ∙ node_missed ps (Holds es f) wrong m (leaves c.walk)
    node_missed _ _ _ (rule.behind_rows p loop ps ns es f within wrong is counts s miss m) spare =
        let c = turns_came lengths loop.kind loop.body ns Whole within s loop.step es f spare in
        rows_read lengths p loop ps ns es f spare (stands es f false c.spare) is (counts_behind loop ns (Holds es f) false miss counts) c.is
        ∙ rw (step_passed loop.step es f c.spare miss) (node_missed ps (Holds es f) wrong m c.spare)

    turns_missed : (step kind : ℕ) (body : Parts) (ns : Nodes) (wrong : ℕ) → TurnsMisfit lengths step kind body ns wrong → (es : Entries) (f : Option NodeFault) (spare : Bool)
        → turns_read step kind (λ inner. parts_read lengths body inner) ns (stands es f false spare) ≡ Err wrong
    turns_missed _ _ _ _ _ (rule.no_row step kind body n ns keeps none) es f spare = rw (row_missed step kind n spare keeps none) refl
    turns_missed _ _ _ _ _ (rule.in_kept step kind body v es' f' ns wrong keeps hit m) es f spare =
        rw keeps (rw hit (rw (node_missed body (Holds es' f') wrong m spare) refl))
    turns_missed _ _ _ _ _ (rule.in_unkept step kind body n ns wrong keeps m) es f spare = rw keeps (rw (node_missed body n wrong m spare) refl)
    turns_missed _ _ _ _ _ (rule.behind_turn step kind body n ns within wrong s m) es f spare =
        let c = turn_came lengths kind body n Whole within s step spare in
        turn_more lengths step kind body n ns es f spare c.row c.came.walk c.row_is c.came.is
        ∙ ap (λ (x : Bool). turns_read step kind (λ inner. parts_read lengths body inner) ns (stands es f x (leaves c.came.walk))) c.came.stops
        ∙ turns_missed step kind body ns wrong m es f (leaves c.came.walk)
