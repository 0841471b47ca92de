-- Where parts are served, the walk comes to its end.
use Rattle.std.proofs.Common.{◌≡◌, ℕ, List, [], ◌∷◌, Bool, true, false, ◌||◌, cond, get_or, Option, Some, None, Result, Ok, Err, refl, ap, sym, ◌∙◌, subst}
use Rattle.std.proofs.lemmas.Bool.{eq-eqb}
use Rattle.rb_trees.specs.Outcome.{◌>>=◌}
use Rattle.rb_trees.specs.declared.forests.NodeFault.{NodeFault}
use Rattle.rb_trees.specs.mirror.Forests as forest
use Rattle.rb_trees.specs.mirror.Forests.{Node, Holds, Entries, NoEntries, MoreEntries, Nodes, NoNodes, MoreNodes}
use Rattle.rb_trees.specs.mirror.Remainders as part
use Rattle.rb_trees.specs.mirror.Remainders.{Part, Parts, NoParts, MoreParts}
use Rattle.rb_meaning_bytes.specs.Fits.{Walk, begun, leaves, step_of, raised, no_kind, row_read, turns_read, turns_done, part_read, parts_read}
use Rattle.rb_fitting_rules.specs.Heads.{chosen, first_step, faults_now, holds_anything, are_any, Loop, loop_of, have_turns}
use Rattle.rb_fitting_rules.specs.Rules.{End, Whole, Stopped}
use Rattle.rb_fitting_rules.specs.Misfits as rule
use Rattle.rb_fitting_rules.specs.Misfits.{Served, TurnsServed, TurnServed}
use Rattle.rb_fitting_rules.proofs.Steps.{or_none, or_more, is_stopped, Came, came_so, came_left, held_same, chosen_read, rest_stays, takes_stay, step_passed, faults_same, counts_behind}

-- the walk of a node, as it stands after some entries
abbrev pub stands : Entries → Option NodeFault → Bool → Bool → Walk
stands es f stopped spare = record { left = es; fault = step_of f; stopped = stopped; spare = spare }

module _ (lengths : List ℕ) where
  -- the node's fault is raised by the part that comes
  fault_read : (p : Part) (f : NodeFault) (spare : Bool) → first_step p ≡ Some f.step → part_read lengths p (stands NoEntries (Some f) false spare) ≡ Ok (raised (stands NoEntries (Some f) false spare))
  fault_read (part.Plain stmt []) f spare e = absurd (cc)
  fault_read (part.Plain stmt (take ∷ takes)) f spare e =
      let at : take.0 ≡ f.step = cc in
      rw (eq-eqb f.step take.0 (sym at)) (takes_stay takes (raised (stands NoEntries (Some f) false spare)) refl)
  fault_read (part.Pass step) f spare e = let at : step ≡ f.step = cc in rw (eq-eqb f.step step (sym at)) refl
  fault_read (part.Bind step name kind) f spare e = let at : step ≡ f.step = cc in rw (eq-eqb f.step step (sym at)) refl
  fault_read (part.Both step at name value) f spare e = let here : step ≡ f.step = cc in rw (eq-eqb f.step step (sym here)) refl
  fault_read (part.Branch step a b) f spare e = let at : step ≡ f.step = cc in rw (eq-eqb f.step step (sym at)) refl
  fault_read (part.Turns step name kind body) f spare e = let at : step ≡ f.step = cc in rw (eq-eqb f.step step (sym at)) refl
  fault_read (part.Over step at name list input body) f spare e = let here : step ≡ f.step = cc in rw (eq-eqb f.step step (sym here)) refl

  faulted_came : (p : Part) (ps : Parts) (f : NodeFault) (spare : Bool) → first_step p ≡ Some f.step
      → Came (parts_read lengths (MoreParts p ps) (stands NoEntries (Some f) false spare)) Stopped (spare || false)
  faulted_came p ps f spare e = record {
    walk = raised (stands NoEntries (Some f) false spare);
    is = rw (fault_read p f spare e) (rest_stays lengths ps (raised (stands NoEntries (Some f) false spare)) refl);
    stops = refl;
    over = refl;
  }

  -- the parts that come after an entry, in which the walk ended so
  pub after_whole : (ps : Parts) (es : Entries) (f : Option NodeFault) (stopped spare : Bool) (end : End) (left : Bool) → stopped ≡ false
      → Came (parts_read lengths ps (stands es f false spare)) end left → Came (parts_read lengths ps (stands es f stopped spare)) end left
  after_whole ps es f stopped spare end left e came = subst (λ (b : Bool). Came (parts_read lengths ps (stands es f b spare)) end left) (sym e) came

  after_stop : (ps : Parts) (es : Entries) (f : Option NodeFault) (stopped spare : Bool) → stopped ≡ true
      → Came (parts_read lengths ps (stands es f stopped spare)) Stopped (spare || holds_anything (Holds es f))
  after_stop ps es f stopped spare e = record {
    walk = stands es f stopped spare;
    is = rest_stays lengths ps (stands es f stopped spare) e;
    stops = e;
    over = rw (held_same es f) refl;
  }

  -- a branch whose node's walk came to its end so
  pub branch_read : (step : ℕ) (a b ps : Parts) (side : Bool) (inner : Node) (es : Entries) (f : Option NodeFault) (spare : Bool) (w : Walk)
      → parts_read lengths (chosen side a b) (begun inner spare) ≡ Ok w
      → parts_read lengths (MoreParts (part.Branch step a b) ps) (stands (MoreEntries (forest.Branch side inner) es) f false spare) ≡ parts_read lengths ps (stands es f w.stopped (leaves w))
  branch_read step a b ps side inner es f spare w e = rw (chosen_read lengths side a b (begun inner spare)) (rw e refl)

  -- The turns of rows came to their end so, behind which the entries and the fault of the node stand as before.
  pub record TurnsCame (r : Result Walk ℕ) (es : Entries) (f : Option NodeFault) (end : End) (left : Bool) : Type 0 where
    pub spare : Bool
    pub is : r ≡ Ok (stands es f (is_stopped end) spare)
    pub over : spare ≡ left

  pub record TurnCame (step kind : ℕ) (body : Parts) (n : Node) (spare : Bool) (end : End) (left : Bool) : Type 0 where
    pub row : Walk
    pub row_is : row_read step kind (begun n spare) ≡ Ok row
    pub came : Came (parts_read lengths body row) end left

  -- what turns do where rows stand first
  abbrev loop_walk : Loop → Nodes → Entries → Option NodeFault → Bool → Result Walk ℕ
  loop_walk loop ns es f spare = cond (have_turns loop.items ns (faults_now loop.step (Holds es f)))
      (turns_read loop.step loop.kind (λ inner. parts_read lengths loop.body inner) ns (stands es f false spare) >>= λ after. turns_done loop.step after) (Err loop.step)

  abbrev IsLoopRead : Part → Loop → Type 0
  IsLoopRead p loop = (ns : Nodes) (es : Entries) (f : Option NodeFault) (spare : Bool)
      → part_read lengths p (stands (MoreEntries (forest.Rows ns) es) f false spare) ≡ loop_walk loop ns es f spare

  pub loop_read : (p : Part) (loop : Loop) → loop_of lengths p ≡ Some loop → IsLoopRead p loop
  loop_read (part.Plain stmt takes) loop e = absurd (cc)
  loop_read (part.Pass step) loop e = absurd (cc)
  loop_read (part.Bind step name kind) loop e = absurd (cc)
  loop_read (part.Both step at name value) loop e = absurd (cc)
  loop_read (part.Branch step a b) loop e = absurd (cc)
  loop_read (part.Turns step name kind body) loop e =
      let own : Loop = record { step = step; kind = kind; body = body; items = None } in
      let same : own ≡ loop = cc in
      subst (λ l. IsLoopRead (part.Turns step name kind body) l) same (λ ns es f spare. refl)
  loop_read (part.Over step at name list input body) loop e =
      let own : Loop = record { step = step; kind = no_kind; body = body; items = Some (get_or lengths input 0) } in
      let same : own ≡ loop = cc in
      subst (λ l. IsLoopRead (part.Over step at name list input body) l) same (λ ns es f spare. rw (faults_same step es f spare) refl)

  -- the walk of rows, behind the turns
  pub rows_read : (p : Part) (loop : Loop) (ps : Parts) (ns : Nodes) (es : Entries) (f : Option NodeFault) (spare : Bool) (w : Walk) → loop_of lengths p ≡ Some loop
      → have_turns loop.items ns (faults_now loop.step (Holds es f)) ≡ true
      → turns_read loop.step loop.kind (λ inner. parts_read lengths loop.body inner) ns (stands es f false spare) ≡ Ok w
      → parts_read lengths (MoreParts p ps) (stands (MoreEntries (forest.Rows ns) es) f false spare) ≡ (turns_done loop.step w >>= λ after. parts_read lengths ps after)
  rows_read p loop ps ns es f spare w is counts e = rw (loop_read p loop is ns es f spare) (rw counts (rw e refl))

  pub turn_more : (step kind : ℕ) (body : Parts) (n : Node) (ns : Nodes) (es : Entries) (f : Option NodeFault) (spare : Bool) (row w : Walk)
      → row_read step kind (begun n spare) ≡ Ok row → parts_read lengths body row ≡ Ok w
      → turns_read step kind (λ inner. parts_read lengths body inner) (MoreNodes n ns) (stands es f false spare) ≡ turns_read step kind (λ inner. parts_read lengths body inner) ns (stands es f w.stopped (leaves w))
  turn_more step kind body n ns es f spare row w e came = rw e (rw came refl)

  turns_stay : (step kind : ℕ) (body : Parts) (ns : Nodes) (es : Entries) (f : Option NodeFault) (spare : Bool)
      → turns_read step kind (λ inner. parts_read lengths body inner) ns (stands es f true spare) ≡ Ok (stands es f true (spare || are_any ns))
  turns_stay step kind body NoNodes es f spare = rw (or_none spare) refl
  turns_stay step kind body (MoreNodes n ns) es f true = refl
  turns_stay step kind body (MoreNodes n ns) es f false = refl

  mutual
    pub node_came : (ps : Parts) (n : Node) (end : End) (left : Bool) → Served lengths ps n end left → (spare : Bool) → Came (parts_read lengths ps (begun n spare)) end (spare || left)
    node_came _ _ _ _ (rule.at_end es f) spare = record { walk = stands es f false spare; is = refl; stops = refl; over = rw (held_same es f) refl }
    node_came _ _ _ _ (rule.faulted p ps f e) spare = faulted_came p ps f spare e
    node_came _ _ _ _ (rule.passed step ps es f end left miss s) spare =
        came_so _ _ end (spare || left) (rw (step_passed step es f spare miss) refl) (node_came ps (Holds es f) end left s spare)
    node_came _ _ _ _ (rule.computed step at name value ps es f end left miss s) spare =
        came_so _ _ end (spare || left) (rw (step_passed step es f spare miss) refl) (node_came ps (Holds es f) end left s spare)
    node_came _ _ _ _ (rule.bound step name kind ps v es f end left hit s) spare =
        came_so _ _ end (spare || left) (rw hit refl) (node_came ps (Holds es f) end left s spare)
    node_came _ _ _ _ (rule.taken stmt take takes ps v es f end left hit s) spare =
        came_so _ _ end (spare || left) (rw hit refl) (node_came (MoreParts (part.Plain stmt takes) ps) (Holds es f) end left s spare)
    node_came _ _ _ _ (rule.all_taken stmt ps es f end left s) spare = node_came ps (Holds es f) end left s spare
    node_came _ _ _ _ (rule.branch step a b ps side inner es f end within left s t) spare =
        let c = node_came (chosen side a b) inner Whole within s spare in
        let d = after_whole ps es f c.walk.stopped (leaves c.walk) end (leaves c.walk || left) c.stops (node_came ps (Holds es f) end left t (leaves c.walk)) in
        came_so _ _ end (spare || (within || left)) (branch_read step a b ps side inner es f spare c.walk c.is)
        (came_left _ end (leaves c.walk || left) (spare || (within || left)) (ap (λ (x : Bool). x || left) c.over ∙ or_more spare within left) d)
    node_came _ _ _ _ (rule.stopped_branch step a b ps side inner es f within s) spare =
        let c = node_came (chosen side a b) inner Stopped within s spare in
        let d = after_stop ps es f c.walk.stopped (leaves c.walk) c.stops in
        let held = holds_anything (Holds es f) in
        came_so _ _ Stopped (spare || (within || held)) (branch_read step a b ps side inner es f spare c.walk c.is)
        (came_left _ Stopped (leaves c.walk || held) (spare || (within || held)) (ap (λ (x : Bool). x || held) c.over ∙ or_more spare within held) d)
    node_came _ _ _ _ (rule.rows p loop ps ns es f end within left is counts s miss t) spare =
        let c = turns_came loop.kind loop.body ns Whole within s loop.step es f spare in
        let d = node_came ps (Holds es f) end left t c.spare in
        came_so _ _ end (spare || (within || left))
        (rows_read p loop ps ns es f spare (stands es f false c.spare) is (counts_behind loop ns (Holds es f) false miss counts) c.is ∙ rw (step_passed loop.step es f c.spare miss) refl)
        (came_left _ end (c.spare || left) (spare || (within || left)) (ap (λ (x : Bool). x || left) c.over ∙ or_more spare within left) d)
    node_came _ _ _ _ (rule.stopped_rows p loop ps ns es f within is counts s) spare =
        let c = turns_came loop.kind loop.body ns Stopped within s loop.step es f spare in
        let d = after_stop ps es f true c.spare refl in
        let held = holds_anything (Holds es f) in
        came_so _ _ Stopped (spare || (within || held)) (rows_read p loop ps ns es f spare (stands es f true c.spare) is counts c.is)
        (came_left _ Stopped (c.spare || held) (spare || (within || held)) (ap (λ (x : Bool). x || held) c.over ∙ or_more spare within held) d)
    node_came _ _ _ _ (rule.no_further_turn p loop ps ns f within is counts s at) spare =
        let c = turns_came loop.kind loop.body ns Whole within s loop.step NoEntries (Some f) spare in
        let now = eq-eqb f.step loop.step at in
        record {
          walk = raised (stands NoEntries (Some f) false c.spare);
          is = rows_read p loop ps ns NoEntries (Some f) spare (stands NoEntries (Some f) false c.spare) is (counts_behind loop ns (Holds NoEntries (Some f)) true now counts) c.is
              ∙ rw now (rest_stays lengths ps (raised (stands NoEntries (Some f) false c.spare)) refl);
          stops = refl;
          over = or_none c.spare ∙ c.over;
        }

    pub turns_came : (kind : ℕ) (body : Parts) (ns : Nodes) (end : End) (left : Bool) → TurnsServed lengths kind body ns end left → (step : ℕ) (es : Entries) (f : Option NodeFault) (spare : Bool)
        → TurnsCame (turns_read step kind (λ inner. parts_read lengths body inner) ns (stands es f false spare)) es f end (spare || left)
    turns_came _ _ _ _ _ (rule.no_turn kind body) step es f spare = record { spare = spare; is = refl; over = sym (or_none spare) }
    turns_came _ _ _ _ _ (rule.turn kind body n ns end within left s t) step es f spare =
        let c = turn_came kind body n Whole within s step spare in
        let d = turns_came kind body ns end left t step es f (leaves c.came.walk) in
        record {
          spare = d.spare;
          is = turn_more step kind body n ns es f spare c.row c.came.walk c.row_is c.came.is
              ∙ ap (λ (b : Bool). turns_read step kind (λ inner. parts_read lengths body inner) ns (stands es f b (leaves c.came.walk))) c.came.stops ∙ d.is;
          over = d.over ∙ ap (λ (x : Bool). x || left) c.came.over ∙ or_more spare within left;
        }
    turns_came _ _ _ _ _ (rule.stopped_turn kind body n ns within s) step es f spare =
        let c = turn_came kind body n Stopped within s step spare in
        record {
          spare = leaves c.came.walk || are_any ns;
          is = turn_more step kind body n ns es f spare c.row c.came.walk c.row_is c.came.is
              ∙ ap (λ (b : Bool). turns_read step kind (λ inner. parts_read lengths body inner) ns (stands es f b (leaves c.came.walk))) c.came.stops
              ∙ turns_stay step kind body ns es f (leaves c.came.walk);
          over = ap (λ (x : Bool). x || are_any ns) c.came.over ∙ or_more spare within (are_any ns);
        }

    pub turn_came : (kind : ℕ) (body : Parts) (n : Node) (end : End) (left : Bool) → TurnServed lengths kind body n end left → (step : ℕ) (spare : Bool)
        → TurnCame step kind body n spare end (spare || left)
    turn_came _ _ _ _ _ (rule.kept kind body v es f end left keeps hit s) step spare =
        record { row = stands es f false spare; row_is = rw keeps (rw hit refl); came = node_came body (Holds es f) end left s spare }
    turn_came _ _ _ _ _ (rule.unkept kind body n end left keeps s) step spare =
        record { row = begun n spare; row_is = rw keeps refl; came = node_came body n end left s spare }
