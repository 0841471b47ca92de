-- The fault that stops a script's run is the one fault in its node.
use Rattle.std.proofs.Common.{◌≡◌, refl, ap, ◌∙◌, ℕ, zero, suc, List, [], ◌∷◌, ◌++◌, append_assoc, append-nil, Bool as Truth, true, false, Option, Some, None}
use Rattle.rb_trees.specs.declared.values.Value.{Value}
use Rattle.rb_trees.specs.mirror.Scripts as script
use Rattle.rb_trees.specs.mirror.Scripts.{Step, Steps}
use Rattle.rb_trees.specs.mirror.Forests as forest
use Rattle.rb_trees.specs.mirror.Forests.{Node, Nodes, Entry, Entries, Holds, NoEntries, NoNodes, MoreNodes}
use Rattle.rb_meaning_code.specs.Remote.{Server, Reply, Got, Stopped, and_then}
use Rattle.rb_meaning_code.specs.ScriptRun as run
use Rattle.rb_meaning_code.specs.ScriptRun.{Ground, Vars, PlacedFault, Ran, in_front, with_entry, on_reply, kept, with_kept, goes_on, halted, chosen, branched, condition, rows_of, items_of, Why, AllDone, InTurn, NoUnit, Turned, with_unit, turned_on, turns, turn_over, after_turns, walked, run_step, run_steps, value_of}
use Rattle.rb_law_types.specs.NodeFaults.{at_most_one, last_fault, faults_in, faults_among, faults_within, faults_of_turns, HoldsItsFault, NodesHoldTheFault}

-- an entry in front
front_faults : (e : Entry) (n : Node) → faults_in (in_front e n) ≡ faults_within e ++ faults_in n
front_faults e (Holds es f) = append_assoc (faults_within e) (faults_among es) (last_fault f)

-- an entry without a fault
plain_entry : (e : Entry) (r : Ran) → faults_within e ≡ [] → HoldsItsFault r → HoldsItsFault (with_entry e r)
plain_entry e r none h = front_faults e r.node ∙ ap (λ xs. xs ++ faults_in r.node) none ∙ h

-- an entry that holds the fault
last_entry : (e : Entry) (f : PlacedFault) (s : Server) → faults_within e ≡ f ∷ [] → HoldsItsFault (with_entry e (halted f s))
last_entry e f s one = append-nil (faults_within e ++ []) ∙ append-nil (faults_within e) ∙ one

reply_holds : {A : Type 0} (id : ℕ) (r : Reply A) (go : A → Server → Ran) → ((a : A) (s : Server) → HoldsItsFault (go a s)) → HoldsItsFault (on_reply id r go)
reply_holds id (Got a s) go h = h a s
reply_holds id (Stopped at f s) go h = refl

kept_holds : (keep : Truth) (v : Value) (r : Ran) → HoldsItsFault r → HoldsItsFault (with_kept keep v r)
kept_holds true v r h = plain_entry (forest.Value v) r refl h
kept_holds false v r h = h

-- a branch, and what follows it
branch_holds : (holds : Truth) (r : Ran) (go : Server → Ran) → HoldsItsFault r → ((s : Server) → HoldsItsFault (go s)) → HoldsItsFault (branched holds r go)
branch_holds holds r go h more = by r.fault h
  where
    by : (f : Option PlacedFault) → faults_in r.node ≡ at_most_one f → HoldsItsFault (with_entry (forest.Branch holds r.node) (goes_on f r.server go))
    by None e = plain_entry (forest.Branch holds r.node) (go r.server) e (more r.server)
    by (Some f) e = last_entry (forest.Branch holds r.node) f r.server e

chosen_holds : (holds : Truth) (a b : Ran) → HoldsItsFault a → HoldsItsFault b → HoldsItsFault (chosen holds a b)
chosen_holds true a b h g = h
chosen_holds false a b h g = g

-- turns

abbrev why_stopped : Why → Option PlacedFault
why_stopped AllDone = None
why_stopped (InTurn f) = Some f
why_stopped NoUnit = None

abbrev TurnsHold : Turned → Type 0
TurnsHold t = faults_of_turns t.nodes ≡ at_most_one (why_stopped t.why)

turned_holds : (node : Node) (fault : Option PlacedFault) (s : Server) (go : Server → Turned) → faults_in node ≡ at_most_one fault → ((s1 : Server) → TurnsHold (go s1)) → TurnsHold (turned_on node fault s go)
turned_holds node None s go e more = ap (λ xs. xs ++ faults_of_turns (go s).nodes) e ∙ more s
turned_holds node (Some f) s go e more = append-nil (faults_in node) ∙ e

unit_holds : (fuel : ℕ) (s : Server) (go : Server → Turned) → ((s1 : Server) → TurnsHold (go s1)) → TurnsHold (with_unit fuel s go)
unit_holds zero s go more = refl
unit_holds (suc n) s go more = more (record s { fuel = n })

turns_hold : (turn : Value → Server → Ran) → ((row : Value) (s : Server) → HoldsItsFault (turn row s)) → (rows : List Value) (s : Server) → TurnsHold (turns turn rows s)
turns_hold turn each [] s = refl
turns_hold turn each (row ∷ rows) s =
    unit_holds s.fuel s (λ s1. let r = turn row s1 in turned_on r.node r.fault r.server (turns turn rows)) (λ s1.
    turned_holds (turn row s1).node (turn row s1).fault (turn row s1).server (turns turn rows) (each row s1) (turns_hold turn each rows))

walk_holds : (id at : ℕ) (t : Turned) (go : Server → Ran) → TurnsHold t → ((s : Server) → HoldsItsFault (go s)) → HoldsItsFault (walked id at t go)
walk_holds id at t go h more = by t.why h
  where
    by : (why : Why) → faults_of_turns t.nodes ≡ at_most_one (why_stopped why) → HoldsItsFault (with_entry (forest.Rows t.nodes) (after_turns id at why t.server go))
    by AllDone e = plain_entry (forest.Rows t.nodes) (go t.server) e (more t.server)
    by (InTurn f) e = last_entry (forest.Rows t.nodes) f t.server e
    by NoUnit e = plain_entry (forest.Rows t.nodes) (after_turns id at NoUnit t.server go) e refl

-- turns of a block over rows or items, and what follows them
walks_hold : (id at : ℕ) (keep : Truth) (block : Value → Server → Ran) → ((row : Value) (s : Server) → HoldsItsFault (block row s)) → (rows : List Value) (s : Server) (go : Server → Ran) → ((s1 : Server) → HoldsItsFault (go s1))
    → HoldsItsFault (walked id at (turns (λ row s1. turn_over id at keep (λ s2. block row s2) row s1) rows s) go)
walks_hold id at keep block each rows s go more =
    let turn = λ (row : Value) (s1 : Server). turn_over id at keep (λ s2. block row s2) row s1 in
    walk_holds id at (turns turn rows s) go
    (turns_hold turn (λ row s1. reply_holds id (kept keep at row s1) (λ v s2. with_kept keep v (block row s2)) (λ v s2. kept_holds keep v (block row s2) (each row s2))) rows s) more

-- steps

module _ (g : Ground) where
  mutual
    step_holds : (step : Step) (vars : Vars) (s : Server) (go : Vars → Server → Ran) → ((vars1 : Vars) (s1 : Server) → HoldsItsFault (go vars1 s1)) → HoldsItsFault (run_step g step vars s go)
    step_holds (script.Do id at e) vars s go more = reply_holds id (value_of g at vars e s) _ (λ v s1. more vars s1)
    step_holds (script.Keep id at e) vars s go more =
        reply_holds id (and_then (value_of g at vars e s) (kept true at)) _ (λ v s1. plain_entry (forest.Value v) (go vars s1) refl (more vars s1))
    step_holds (script.Let id at var keep e) vars s go more =
        reply_holds id (and_then (value_of g at vars e s) (kept keep at)) _ (λ v s1. kept_holds keep v (go ((var, v) ∷ vars) s1) (more ((var, v) ∷ vars) s1))
    step_holds (script.If id at e a b) vars s go more =
        reply_holds id (and_then (value_of g at vars e s) (condition at)) _ (λ holds s1.
        branch_holds holds (chosen holds (run_steps g a vars s1 run.ended) (run_steps g b vars s1 run.ended)) (λ s2. go vars s2)
        (chosen_holds holds _ _ (steps_hold a vars s1 run.ended (λ vars1 s2. refl)) (steps_hold b vars s1 run.ended (λ vars1 s2. refl))) (λ s2. more vars s2))
    step_holds (script.Each id at var keep e a) vars s go more =
        reply_holds id (and_then (value_of g at vars e s) (rows_of at)) _ (λ rows s1.
        walks_hold id at keep (λ row s2. run_steps g a ((var, row) ∷ vars) s2 run.ended) (λ row s2. steps_hold a ((var, row) ∷ vars) s2 run.ended (λ vars1 s3. refl)) rows s1 (λ s2. go vars s2) (λ s2. more vars s2))
    step_holds (script.Over id at var input a) vars s go more =
        reply_holds id (items_of g at input s) _ (λ items s1.
        walks_hold id at false (λ item s2. run_steps g a ((var, item) ∷ vars) s2 run.ended) (λ item s2. steps_hold a ((var, item) ∷ vars) s2 run.ended (λ vars1 s3. refl)) items s1 (λ s2. go vars s2) (λ s2. more vars s2))

    steps_hold : (steps : Steps) (vars : Vars) (s : Server) (go : Vars → Server → Ran) → ((vars1 : Vars) (s1 : Server) → HoldsItsFault (go vars1 s1)) → HoldsItsFault (run_steps g steps vars s go)
    steps_hold script.NoSteps vars s go more = more vars s
    steps_hold (script.MoreSteps step steps) vars s go more = step_holds step vars s _ (λ vars1 s1. steps_hold steps vars1 s1 go more)

pub nodes_hold_the_fault : NodesHoldTheFault
nodes_hold_the_fault s inputs classes root table = steps_hold _ s.body [] _ run.ended (λ vars s1. refl)
