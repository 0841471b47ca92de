-- A node fits parts exactly where they are served and nothing is left over.
use Rattle.std.proofs.Common.{◌≡◌, ℕ, List, Bool, true, false, Option, Some, None, refl, ap, sym, ◌∙◌, subst}
use Rattle.std.proofs.lemmas.Bool.{eqb-true}
use Rattle.rb_trees.specs.declared.forests.NodeFault.{NodeFault}
use Rattle.rb_trees.specs.mirror.Forests as forest
use Rattle.rb_trees.specs.mirror.Forests.{Node, Holds, Entries, NoEntries, MoreEntries, Nodes, NoNodes, MoreNodes}
use Rattle.rb_trees.specs.mirror.Remainders as part
use Rattle.rb_trees.specs.mirror.Remainders.{Part, Parts, NoParts, MoreParts}
use Rattle.rb_fitting_rules.specs.Heads.{chosen, first_step, faults_now, holds_anything, are_any, Loop, loop_of, have_turns}
use Rattle.rb_fitting_rules.specs.Rules as fit
use Rattle.rb_fitting_rules.specs.Rules.{End, Whole, Stopped, Fits, TurnsFit, TurnFits}
use Rattle.rb_fitting_rules.specs.Misfits as rule
use Rattle.rb_fitting_rules.specs.Misfits.{Served, TurnsServed, TurnServed}
use Rattle.rb_fitting_rules.proofs.Steps.{by_truth, neither, counts_behind, still}

module _ (lengths : List ℕ) where
  ended : (es : Entries) (f : Option NodeFault) → holds_anything (Holds es f) ≡ false → Fits lengths NoParts (Holds es f) Whole
  ended NoEntries None e = fit.at_end
  ended NoEntries (Some f) e = absurd (cc)
  ended (MoreEntries first es) f e = absurd (cc)

  branch_ended : (step : ℕ) (a b ps : Parts) (side : Bool) (inner : Node) (es : Entries) (f : Option NodeFault) → Fits lengths (chosen side a b) inner Stopped
      → holds_anything (Holds es f) ≡ false → Fits lengths (MoreParts (part.Branch step a b) ps) (Holds (MoreEntries (forest.Branch side inner) es) f) Stopped
  branch_ended step a b ps side inner NoEntries None t e = fit.stopped_branch step a b ps side inner t
  branch_ended step a b ps side inner NoEntries (Some f) t e = absurd (cc)
  branch_ended step a b ps side inner (MoreEntries first es) f t e = absurd (cc)

  rows_ended : (p : Part) (loop : Loop) (ps : Parts) (ns : Nodes) (es : Entries) (f : Option NodeFault) → loop_of lengths p ≡ Some loop
      → have_turns loop.items ns (faults_now loop.step (Holds es f)) ≡ true → TurnsFit lengths loop.kind loop.body ns Stopped
      → holds_anything (Holds es f) ≡ false → Fits lengths (MoreParts p ps) (Holds (MoreEntries (forest.Rows ns) es) f) Stopped
  rows_ended p loop ps ns NoEntries None is counts t e = fit.stopped_rows p loop ps ns is counts t
  rows_ended p loop ps ns NoEntries (Some f) is counts t e = absurd (cc)
  rows_ended p loop ps ns (MoreEntries first es) f is counts t e = absurd (cc)

  turns_ended : (kind : ℕ) (body : Parts) (n : Node) (ns : Nodes) → TurnFits lengths kind body n Stopped → are_any ns ≡ false → TurnsFit lengths kind body (MoreNodes n ns) Stopped
  turns_ended kind body n NoNodes t e = fit.last_turn kind body n t
  turns_ended kind body n (MoreNodes m ns) t e = absurd (cc)

  mutual
    pub clean_fits : (ps : Parts) (n : Node) (end : End) (left : Bool) → Served lengths ps n end left → left ≡ false → Fits lengths ps n end
    clean_fits _ _ _ _ (rule.at_end es f) e = ended es f e
    clean_fits _ _ _ _ (rule.faulted p ps f at) e = fit.faulted p ps f at
    clean_fits _ _ _ _ (rule.passed step ps es f end left miss s) e = fit.passed step ps (Holds es f) end (clean_fits ps (Holds es f) end left s e)
    clean_fits _ _ _ _ (rule.computed step at name value ps es f end left miss s) e = fit.computed step at name value ps (Holds es f) end (clean_fits ps (Holds es f) end left s e)
    clean_fits _ _ _ _ (rule.bound step name kind ps v es f end left hit s) e = fit.bound step name kind ps v es f end hit (clean_fits ps (Holds es f) end left s e)
    clean_fits _ _ _ _ (rule.taken stmt take takes ps v es f end left hit s) e =
        fit.taken stmt take takes ps v es f end hit (clean_fits (MoreParts (part.Plain stmt takes) ps) (Holds es f) end left s e)
    clean_fits _ _ _ _ (rule.all_taken stmt ps es f end left s) e = fit.all_taken stmt ps (Holds es f) end (clean_fits ps (Holds es f) end left s e)
    clean_fits _ _ _ _ (rule.branch step a b ps side inner es f end within left s t) e =
        let k = neither within left e in
        fit.branch step a b ps side inner es f end (clean_fits (chosen side a b) inner Whole within s k.0) (clean_fits ps (Holds es f) end left t k.1)
    clean_fits _ _ _ _ (rule.stopped_branch step a b ps side inner es f within s) e =
        let k = neither within (holds_anything (Holds es f)) e in
        branch_ended step a b ps side inner es f (clean_fits (chosen side a b) inner Stopped within s k.0) k.1
    clean_fits _ _ _ _ (rule.rows p loop ps ns es f end within left is counts s miss t) e =
        let k = neither within left e in
        fit.rows p loop ps ns es f end is (counts_behind loop ns (Holds es f) false miss counts)
        (clean_turns loop.kind loop.body ns Whole within s k.0) (clean_fits ps (Holds es f) end left t k.1)
    clean_fits _ _ _ _ (rule.stopped_rows p loop ps ns es f within is counts s) e =
        let k = neither within (holds_anything (Holds es f)) e in
        rows_ended p loop ps ns es f is counts (clean_turns loop.kind loop.body ns Stopped within s k.0) k.1
    clean_fits _ _ _ _ (rule.no_further_turn p loop ps ns f within is counts s at) e =
        fit.no_further_turn p loop ps ns f is counts (clean_turns loop.kind loop.body ns Whole within s e) at

    clean_turns : (kind : ℕ) (body : Parts) (ns : Nodes) (end : End) (left : Bool) → TurnsServed lengths kind body ns end left → left ≡ false → TurnsFit lengths kind body ns end
    clean_turns _ _ _ _ _ (rule.no_turn kind body) e = fit.no_turn kind body
    clean_turns _ _ _ _ _ (rule.turn kind body n ns end within left s t) e =
        let k = neither within left e in
        fit.turn kind body n ns end (clean_turn kind body n Whole within s k.0) (clean_turns kind body ns end left t k.1)
    clean_turns _ _ _ _ _ (rule.stopped_turn kind body n ns within s) e =
        let k = neither within (are_any ns) e in
        turns_ended kind body n ns (clean_turn kind body n Stopped within s k.0) k.1

    clean_turn : (kind : ℕ) (body : Parts) (n : Node) (end : End) (left : Bool) → TurnServed lengths kind body n end left → left ≡ false → TurnFits lengths kind body n end
    clean_turn _ _ _ _ _ (rule.kept kind body v es f end left keeps hit s) e = fit.kept kind body v es f end keeps hit (clean_fits body (Holds es f) end left s e)
    clean_turn _ _ _ _ _ (rule.unkept kind body n end left keeps s) e = fit.unkept kind body n end keeps (clean_fits body n end left s e)

  abbrev has_fault : Node → Bool
  has_fault (Holds es None) = false
  has_fault (Holds es (Some f)) = true

  fault_stops : (ps : Parts) (n : Node) (end : End) → Fits lengths ps n end → has_fault n ≡ true → end ≡ Stopped
  fault_stops _ _ _ fit.at_end e = absurd (cc)
  fault_stops _ _ _ (fit.faulted p ps f at) e = refl
  fault_stops _ _ _ (fit.passed step ps n end t) e = fault_stops ps n end t e
  fault_stops _ _ _ (fit.computed step at name value ps n end t) e = fault_stops ps n end t e
  fault_stops _ _ _ (fit.bound step name kind ps v es None end hit t) e = absurd (cc)
  fault_stops _ _ _ (fit.bound step name kind ps v es (Some f) end hit t) e = fault_stops ps (Holds es (Some f)) end t refl
  fault_stops _ _ _ (fit.taken stmt take takes ps v es None end hit t) e = absurd (cc)
  fault_stops _ _ _ (fit.taken stmt take takes ps v es (Some f) end hit t) e = fault_stops (MoreParts (part.Plain stmt takes) ps) (Holds es (Some f)) end t refl
  fault_stops _ _ _ (fit.all_taken stmt ps n end t) e = fault_stops ps n end t e
  fault_stops _ _ _ (fit.branch step a b ps side inner es None end s t) e = absurd (cc)
  fault_stops _ _ _ (fit.branch step a b ps side inner es (Some f) end s t) e = fault_stops ps (Holds es (Some f)) end t refl
  fault_stops _ _ _ (fit.stopped_branch step a b ps side inner s) e = refl
  fault_stops _ _ _ (fit.rows p loop ps ns es None end is counts s t) e = absurd (cc)
  fault_stops _ _ _ (fit.rows p loop ps ns es (Some f) end is counts s t) e = fault_stops ps (Holds es (Some f)) end t refl
  fault_stops _ _ _ (fit.stopped_rows p loop ps ns is counts s) e = refl
  fault_stops _ _ _ (fit.no_further_turn p loop ps ns f is counts s at) e = refl

  -- the node's fault is at a step that gives no entry
  here : (p : Part) (ps : Parts) (step : ℕ) (es : Entries) (f : Option NodeFault) (end : End) → first_step p ≡ Some step → faults_now step (Holds es f) ≡ true
      → Fits lengths ps (Holds es f) end → Served lengths (MoreParts p ps) (Holds es f) end false
  here p ps step NoEntries None end first e t = absurd (cc)
  here p ps step NoEntries (Some f) end first e t =
      subst (λ (x : End). Served lengths (MoreParts p ps) (Holds NoEntries (Some f)) x false) (sym (fault_stops ps (Holds NoEntries (Some f)) end t refl))
      (rule.faulted p ps f (first ∙ ap Some (sym (eqb-true f.step step e))))
  here p ps step (MoreEntries entry es) f end first e t = absurd (cc)

  -- the node's fault is at the step of rows
  here_behind : (p : Part) (loop : Loop) (ps : Parts) (ns : Nodes) (es : Entries) (f : Option NodeFault) (end : End) → loop_of lengths p ≡ Some loop
      → faults_now loop.step (Holds es f) ≡ true → have_turns loop.items ns true ≡ true → TurnsServed lengths loop.kind loop.body ns Whole false
      → Fits lengths ps (Holds es f) end → Served lengths (MoreParts p ps) (Holds (MoreEntries (forest.Rows ns) es) f) end false
  here_behind p loop ps ns NoEntries None end is e counts s t = absurd (cc)
  here_behind p loop ps ns NoEntries (Some f) end is e counts s t =
      subst (λ (x : End). Served lengths (MoreParts p ps) (Holds (MoreEntries (forest.Rows ns) NoEntries) (Some f)) x false)
      (sym (fault_stops ps (Holds NoEntries (Some f)) end t refl)) (rule.no_further_turn p loop ps ns f false is counts s (eqb-true f.step loop.step e))
  here_behind p loop ps ns (MoreEntries entry es) f end is e counts s t = absurd (cc)

  mutual
    pub fits_clean : (ps : Parts) (n : Node) (end : End) → Fits lengths ps n end → Served lengths ps n end false
    fits_clean _ _ _ fit.at_end = rule.at_end NoEntries None
    fits_clean _ _ _ (fit.faulted p ps f at) = rule.faulted p ps f at
    fits_clean _ _ _ (fit.passed step ps (Holds es f) end t) =
        by_truth (faults_now step (Holds es f)) (λ hit. here (part.Pass step) ps step es f end refl hit t)
        (λ miss. rule.passed step ps es f end false miss (fits_clean ps (Holds es f) end t))
    fits_clean _ _ _ (fit.computed step at name value ps (Holds es f) end t) =
        by_truth (faults_now step (Holds es f)) (λ hit. here (part.Both step at name value) ps step es f end refl hit t)
        (λ miss. rule.computed step at name value ps es f end false miss (fits_clean ps (Holds es f) end t))
    fits_clean _ _ _ (fit.bound step name kind ps v es f end hit t) = rule.bound step name kind ps v es f end false hit (fits_clean ps (Holds es f) end t)
    fits_clean _ _ _ (fit.taken stmt take takes ps v es f end hit t) =
        rule.taken stmt take takes ps v es f end false hit (fits_clean (MoreParts (part.Plain stmt takes) ps) (Holds es f) end t)
    fits_clean _ _ _ (fit.all_taken stmt ps (Holds es f) end t) = rule.all_taken stmt ps es f end false (fits_clean ps (Holds es f) end t)
    fits_clean _ _ _ (fit.branch step a b ps side inner es f end s t) =
        rule.branch step a b ps side inner es f end false false (fits_clean (chosen side a b) inner Whole s) (fits_clean ps (Holds es f) end t)
    fits_clean _ _ _ (fit.stopped_branch step a b ps side inner s) =
        rule.stopped_branch step a b ps side inner NoEntries None false (fits_clean (chosen side a b) inner Stopped s)
    fits_clean _ _ _ (fit.rows p loop ps ns es f end is counts s t) =
        by_truth (faults_now loop.step (Holds es f))
        (λ hit. here_behind p loop ps ns es f end is hit (still loop ns (Holds es f) true hit counts) (turns_clean loop.kind loop.body ns Whole s) t)
        (λ miss. rule.rows p loop ps ns es f end false false is (still loop ns (Holds es f) false miss counts) (turns_clean loop.kind loop.body ns Whole s) miss
        (fits_clean ps (Holds es f) end t))
    fits_clean _ _ _ (fit.stopped_rows p loop ps ns is counts s) =
        rule.stopped_rows p loop ps ns NoEntries None false is counts (turns_clean loop.kind loop.body ns Stopped s)
    fits_clean _ _ _ (fit.no_further_turn p loop ps ns f is counts s at) =
        rule.no_further_turn p loop ps ns f false is counts (turns_clean loop.kind loop.body ns Whole s) at

    turns_clean : (kind : ℕ) (body : Parts) (ns : Nodes) (end : End) → TurnsFit lengths kind body ns end → TurnsServed lengths kind body ns end false
    turns_clean _ _ _ _ (fit.no_turn kind body) = rule.no_turn kind body
    turns_clean _ _ _ _ (fit.turn kind body n ns end s t) = rule.turn kind body n ns end false false (turn_clean kind body n Whole s) (turns_clean kind body ns end t)
    turns_clean _ _ _ _ (fit.last_turn kind body n s) = rule.stopped_turn kind body n NoNodes false (turn_clean kind body n Stopped s)

    turn_clean : (kind : ℕ) (body : Parts) (n : Node) (end : End) → TurnFits lengths kind body n end → TurnServed lengths kind body n end false
    turn_clean _ _ _ _ (fit.kept kind body v es f end keeps hit t) = rule.kept kind body v es f end false keeps hit (fits_clean body (Holds es f) end t)
    turn_clean _ _ _ _ (fit.unkept kind body n end keeps t) = rule.unkept kind body n end false keeps (fits_clean body n end t)
