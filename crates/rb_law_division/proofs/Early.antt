-- A run that a fault stopped ends its node early, and turns that ended early are told so by their nodes.
use Rattle.std.proofs.Common.{◌≡◌, refl, sym, ap, ◌∙◌, ℕ, zero, suc, ◌<◌, ◌≤◌, List, [], ◌∷◌, length, Bool as Truth, true, false, not, ◌&&◌, ◌||◌, cond, arith, nat_eq, nat_lt, Option, Some, None, is_some}
use Rattle.std.proofs.lemmas.Bool.{eq-eqb, ne_eqb, lt-ltb}
use Rattle.rb_trees.specs.declared.values.Value.{Value}
use Rattle.rb_trees.specs.mirror.Scripts as script
use Rattle.rb_trees.specs.mirror.Scripts.{Step, Steps}
use Rattle.rb_trees.specs.mirror.Forests as forest
use Rattle.rb_trees.specs.mirror.Forests.{Node, Holds, Entry, NoEntries, MoreEntries, Nodes, NoNodes, MoreNodes}
use Rattle.rb_meaning_bytes.specs.Fits.{step_of, is_left, ends_early, entry_ends_early, last_turn_ends_early, count_turns, is_counted}
use Rattle.rb_meaning_code.specs.Remote.{Server, Reply, Got, Stopped, and_then}
use Rattle.rb_meaning_code.specs.ScriptRun.{Ground, Vars, PlacedFault, Ran, ended, in_front, with_entry, on_reply, value_of, kept, with_kept, condition, rows_of, goes_on, chosen, branched, Why, AllDone, InTurn, NoUnit, Turned, with_unit, turned_on, turns, turn_over, after_turns, walked, items_of, run_step, run_steps}

-- ---- how many turns a list had

-- Turns over so many items, and why they ended.
abbrev pub AreTurns : ℕ → Nodes → Why → Type 0
AreTurns items nodes AllDone = count_turns nodes ≡ items
AreTurns items nodes (InTurn f) = (count_turns nodes ≤ items) × (last_turn_ends_early nodes ≡ true)
AreTurns items nodes NoUnit = count_turns nodes < items

-- each item had its turn, and no fault comes behind them
pub all_counted : (items : ℕ) (nodes : Nodes) (faulted : Truth) → count_turns nodes ≡ items → faulted ≡ false → is_counted items nodes faulted ≡ true
all_counted items nodes faulted c h =
    ap (λ (t : Truth). cond t (not faulted) (nat_lt (count_turns nodes) items && (faulted || last_turn_ends_early nodes))) (eq-eqb (count_turns nodes) items c) ∙ ap not h

-- a fault ended the last turn
pub turn_counted : (items : ℕ) (nodes : Nodes) → count_turns nodes ≤ items → last_turn_ends_early nodes ≡ true → is_counted items nodes false ≡ true
turn_counted items nodes l h = by (nat_eq (count_turns nodes) items) refl
  where
    differ : nat_eq (count_turns nodes) items ≡ false → count_turns nodes ≡ items → ⊥
    differ e same = cc (sym e ∙ eq-eqb (count_turns nodes) items same)

    fewer : nat_eq (count_turns nodes) items ≡ false → count_turns nodes < items
    fewer e = omega (arith, l, differ e)

    by : (t : Truth) → nat_eq (count_turns nodes) items ≡ t → cond t (not false) (nat_lt (count_turns nodes) items && (false || last_turn_ends_early nodes)) ≡ true
    by true e = refl
    by false e = ap (λ t. t && last_turn_ends_early nodes) (lt-ltb (count_turns nodes) items (fewer e)) ∙ h

-- a fault comes behind the turns, in the place of one more
pub unit_counted : (items : ℕ) (nodes : Nodes) → count_turns nodes < items → is_counted items nodes true ≡ true
unit_counted items nodes l =
    ap (λ (t : Truth). cond t (not true) (nat_lt (count_turns nodes) items && (true || last_turn_ends_early nodes))) (ne_eqb (count_turns nodes) items (λ e. omega (arith, l, e)))
    ∙ ap (λ t. t && true) (lt-ltb (count_turns nodes) items l)

-- ---- what ends early

-- where a fault stopped the run
abbrev Stops : Node → Option PlacedFault → Type 0
Stops nd fault = is_some fault ≡ true → ends_early nd ≡ true

abbrev pub EndsEarly : Ran → Type 0
EndsEarly r = Stops r.node r.fault

early_behind : (e : Entry) (nd : Node) → ends_early nd ≡ true → ends_early (in_front e nd) ≡ true
early_behind e (Holds NoEntries f) h = by (is_left (step_of f)) h
  where
    by : (t : Truth) → (t || false) ≡ true → (t || entry_ends_early e) ≡ true
    by true k = refl
    by false k = absurd (cc k)
early_behind e (Holds (MoreEntries x xs) f) h = h

entry_early : (e : Entry) (r : Ran) → EndsEarly r → EndsEarly (with_entry e r)
entry_early e r h s = early_behind e r.node (h s)

reply_early : {A : Type 0} (id : ℕ) (r : Reply A) (go : A → Server → Ran) → ((a : A) (s : Server) → EndsEarly (go a s)) → EndsEarly (on_reply id r go)
reply_early id (Got a s) go h = h a s
reply_early id (Stopped at f s) go h = λ e. refl

kept_early : (keep : Truth) (v : Value) (r : Ran) → EndsEarly r → EndsEarly (with_kept keep v r)
kept_early true v r h = entry_early (forest.Value v) r h
kept_early false v r h = h

-- a branch that was taken
branch_early : (holds : Truth) (nd : Node) (fault : Option PlacedFault) (s : Server) (go : Server → Ran) → Stops nd fault → ((s1 : Server) → EndsEarly (go s1)) → EndsEarly (with_entry (forest.Branch holds nd) (goes_on fault s go))
branch_early holds nd None s go h more = entry_early (forest.Branch holds nd) (go s) (more s)
branch_early holds nd (Some f) s go h more = λ e. h refl

chosen_early : (holds : Truth) (a b : Ran) → EndsEarly a → EndsEarly b → EndsEarly (chosen holds a b)
chosen_early true a b h g = h
chosen_early false a b h g = g

-- ---- turns

more_turns : (items : ℕ) (nd : Node) (nodes : Nodes) (why : Why) → AreTurns items nodes why → AreTurns (suc items) (MoreNodes nd nodes) why
more_turns items nd nodes AllDone h = ap suc h
more_turns items nd NoNodes (InTurn f) h = absurd (cc h.1)
more_turns items nd (MoreNodes n ns) (InTurn f) h = (omega (arith, h.0), h.1)
more_turns items nd nodes NoUnit h = omega (arith, h)

module _ (turn : Value → Server → Ran) (each : (row : Value) (s : Server) → EndsEarly (turn row s)) where
  turned_so : (items : ℕ) (nd : Node) (fault : Option PlacedFault) (s : Server) (go : Server → Turned) → Stops nd fault → AreTurns items (go s).nodes (go s).why
      → AreTurns (suc items) (turned_on nd fault s go).nodes (turned_on nd fault s go).why
  turned_so items nd None s go h more = more_turns items nd (go s).nodes (go s).why more
  turned_so items nd (Some f) s go h more = (omega arith, h refl)

  pub turns_counted : (rows : List Value) (s : Server) → AreTurns (length rows) (turns turn rows s).nodes (turns turn rows s).why
  turns_counted [] s = refl
  turns_counted (row ∷ rows) s = by s.fuel (λ s1. turns_counted rows s1)
    where
      taken : Server → Turned
      taken s1 = let r = turn row s1 in turned_on r.node r.fault r.server (turns turn rows)

      by : (fuel : ℕ) → ((s1 : Server) → AreTurns (length rows) (turns turn rows s1).nodes (turns turn rows s1).why)
          → AreTurns (suc (length rows)) (with_unit fuel s (λ s1. let r = turn row s1 in turned_on r.node r.fault r.server (turns turn rows))).nodes (with_unit fuel s (λ s1. let r = turn row s1 in turned_on r.node r.fault r.server (turns turn rows))).why
      by zero more = omega arith
      by (suc n) more = let r = turn row (record s { fuel = n }) in turned_so (length rows) r.node r.fault r.server (turns turn rows) (each row (record s { fuel = n })) (more r.server)

-- turns, and what follows them
walked_early : (items id at : ℕ) (nodes : Nodes) (why : Why) (s : Server) (go : Server → Ran) → AreTurns items nodes why → ((s1 : Server) → EndsEarly (go s1)) → EndsEarly (with_entry (forest.Rows nodes) (after_turns id at why s go))
walked_early items id at nodes AllDone s go h more = entry_early (forest.Rows nodes) (go s) (more s)
walked_early items id at nodes (InTurn f) s go h more = λ e. h.1
walked_early items id at nodes NoUnit s go h more = λ e. refl

pub turn_early : (id at : ℕ) (keep : Truth) (block : Server → Ran) (row : Value) (s : Server) → ((s1 : Server) → EndsEarly (block s1)) → EndsEarly (turn_over id at keep block row s)
turn_early id at keep block row s h = reply_early id (kept keep at row s) (λ v s1. with_kept keep v (block s1)) (λ v s1. kept_early keep v (block s1) (h s1))

-- ---- steps

module _ (g : Ground) where
  -- turns of a step, each of which runs a block
  loop_early : (id at : ℕ) (keep : Truth) (r : Reply (List Value)) (block : Value → Server → Ran) (go : Server → Ran) → ((row : Value) (s : Server) → EndsEarly (block row s)) → ((s : Server) → EndsEarly (go s))
      → EndsEarly (on_reply id r (λ rows s. walked id at (turns (λ row s1. turn_over id at keep (block row) row s1) rows s) go))
  loop_early id at keep r block go each more =
      let turn = λ (row : Value) (s1 : Server). turn_over id at keep (block row) row s1 in
      reply_early id r (λ rows s. walked id at (turns turn rows s) go) (λ rows s.
      let t = turns turn rows s in
      walked_early (length rows) id at t.nodes t.why t.server go (turns_counted turn (λ row s1. turn_early id at keep (block row) row s1 (λ s2. each row s2)) rows s) more)

  pub ended_early : (vars : Vars) (s : Server) → EndsEarly (ended vars s)
  ended_early vars s e = absurd (cc e)

  mutual
    step_early : (step : Step) (vars : Vars) (s : Server) (go : Vars → Server → Ran) → ((vars1 : Vars) (s1 : Server) → EndsEarly (go vars1 s1)) → EndsEarly (run_step g step vars s go)
    step_early (script.Do id at e) vars s go h = reply_early id (value_of g at vars e s) (λ v s1. go vars s1) (λ v s1. h vars s1)
    step_early (script.Keep id at e) vars s go h =
        reply_early id (and_then (value_of g at vars e s) (kept true at)) (λ v s1. with_entry (forest.Value v) (go vars s1)) (λ v s1. entry_early (forest.Value v) (go vars s1) (h vars s1))
    step_early (script.Let id at var keep e) vars s go h =
        reply_early id (and_then (value_of g at vars e s) (kept keep at)) (λ v s1. with_kept keep v (go ((var, v) ∷ vars) s1)) (λ v s1. kept_early keep v (go ((var, v) ∷ vars) s1) (h ((var, v) ∷ vars) s1))
    step_early (script.If id at e a b) vars s go h =
        reply_early id (and_then (value_of g at vars e s) (condition at)) (λ holds s1. branched holds (chosen holds (run_steps g a vars s1 ended) (run_steps g b vars s1 ended)) (λ s2. go vars s2)) (λ holds s1.
        let r = chosen holds (run_steps g a vars s1 ended) (run_steps g b vars s1 ended) in
        branch_early holds r.node r.fault r.server (λ s2. go vars s2)
        (chosen_early holds (run_steps g a vars s1 ended) (run_steps g b vars s1 ended) (steps_early a vars s1 ended ended_early) (steps_early b vars s1 ended ended_early)) (λ s2. h vars s2))
    step_early (script.Each id at var keep e a) vars s go h =
        loop_early id at keep (and_then (value_of g at vars e s) (rows_of at)) (λ row s3. run_steps g a ((var, row) ∷ vars) s3 ended) (λ s2. go vars s2) (λ row s3. steps_early a ((var, row) ∷ vars) s3 ended ended_early) (λ s2. h vars s2)
    step_early (script.Over id at var input a) vars s go h =
        loop_early id at false (items_of g at input s) (λ item s3. run_steps g a ((var, item) ∷ vars) s3 ended) (λ s2. go vars s2) (λ item s3. steps_early a ((var, item) ∷ vars) s3 ended ended_early) (λ s2. h vars s2)

    pub steps_early : (steps : Steps) (vars : Vars) (s : Server) (go : Vars → Server → Ran) → ((vars1 : Vars) (s1 : Server) → EndsEarly (go vars1 s1)) → EndsEarly (run_steps g steps vars s go)
    steps_early script.NoSteps vars s go h = h vars s
    steps_early (script.MoreSteps step steps) vars s go h = step_early step vars s (λ vars1 s1. run_steps g steps vars1 s1 go) (λ vars1 s1. steps_early steps vars1 s1 go h)
