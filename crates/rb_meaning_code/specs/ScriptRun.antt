-- What a script means on a service: the node that it gives, and the server after it. It means something whatever its tree
-- and inputs are. Each step takes what follows it; a block is run to its end, and then goes on.
use Rattle.std.specs.Prelude.{ℕ, zero, suc, List, [], ◌∷◌, Bool, true, false, cond, nat_eq, Option, None, Some, Result, Ok, Err, slice_get}
use Rattle.rb_trees.specs.Outcome.{known, must, ◌>>=◌, ◌>>◌}
use Rattle.rb_trees.specs.declared.values.Value.{Value, out-Value}
use Rattle.rb_trees.specs.declared.values.Value.TheOpen.{Value-F}
use Rattle.rb_trees.specs.declared.values.Value.TheVariants as value
use Rattle.rb_trees.specs.declared.values.Fault.{Fault}
use Rattle.rb_trees.specs.declared.services.Object.{Object}
use Rattle.rb_trees.specs.mirror.Scripts as script
use Rattle.rb_trees.specs.mirror.Scripts.{SExpr, SExprs, Step, Steps, Script}
use Rattle.rb_trees.specs.mirror.Forests as forest
use Rattle.rb_trees.specs.mirror.Forests.{Node, Nodes, Holds, Entry, NoEntries, MoreEntries, NoNodes, MoreNodes}
use Rattle.rb_trees.specs.mirror.Declarations.{Class}
use Rattle.rb_meaning_code.specs.Faults.{fuel_used, kind}
use Rattle.rb_meaning_code.specs.Operators.{on_one, on_two, by_left}
use Rattle.rb_meaning_code.specs.Statements.{truth_of}
use Rattle.rb_meaning_code.specs.Remote.{Server, batch_fuel, Reply, Got, Stopped, and_then, replies, rows_in, invoke}

-- what a script runs on: the service's classes and root, and the values of the script's inputs
pub record Ground : Type 0 where
  pub classes : List Class
  pub root : ℕ
  pub inputs : List Value

-- the variables of the script with their values, the latest first
abbrev pub Vars : Type 0
Vars = List (ℕ × Value)

-- the latest value of a variable
abbrev pub latest : Vars → ℕ → Option Value
latest [] number = None
latest (b ∷ bs) number = cond (nat_eq b.0 number) (Some b.1) (latest bs number)

-- a fault and the position that it stands at
pub record PlacedFault : Type 0 where
  pub at : ℕ
  pub fault : Fault

-- a run: its node, the fault that stopped it with its position, wherever in the node it stands, and the server
pub record Ran : Type 0 where
  pub node : Node
  pub fault : Option PlacedFault
  pub server : Server

-- the end of a block
abbrev pub ended : Vars → Server → Ran
ended vars s = record { node = Holds NoEntries None; fault = None; server = s }

-- stopped in a step, by a fault at a position
abbrev pub stopped : ℕ → ℕ → Fault → Server → Ran
stopped id at f s = record {
  node = Holds NoEntries (Some (record { step = id; at = at; fault = f }));
  fault = Some (record { at = at; fault = f });
  server = s;
}

-- stopped by a fault that stands within the entry before
abbrev pub halted : PlacedFault → Server → Ran
halted f s = record { node = Holds NoEntries None; fault = Some f; server = s }

abbrev pub in_front : Entry → Node → Node
in_front e (Holds es f) = Holds (MoreEntries e es) f

-- with an entry before the others
abbrev pub with_entry : Entry → Ran → Ran
with_entry e r = record r { node = in_front e r.node }

-- goes on with what the server gave, or is stopped in the step
abbrev pub on_reply : {A : Type 0} → ℕ → Reply A → (A → Server → Ran) → Ran
on_reply id (Got a s) go = go a s
on_reply id (Stopped at f s) go = stopped id at f s

-- Expressions

-- the value where the left operand decides, or what follows
abbrev pub decided_or : Option Value → (Server → Reply Value) → Server → Reply Value
decided_or (Some v) go s = Got v s
decided_or None go s = go s

abbrev mutual
  -- The value of an expression in a step at a position. An input or a variable that isn't there faults Kind at the step;
  -- a valid script with all its inputs has none such.
  pub value_of : Ground → ℕ → Vars → SExpr → Server → Reply Value
  value_of g at vars (script.Lit v) s = Got v s
  value_of g at vars (script.Input number) s = replies at (known kind (slice_get g.inputs number)) s
  value_of g at vars (script.Var number) s = replies at (known kind (latest vars number)) s
  value_of g at vars script.Root s = Got (value.Remote g.root) s
  value_of g at vars (script.Unary op place a) s = and_then (value_of g at vars a s) (λ v s1. replies place (on_one op (out-Value v)) s1)
  value_of g at vars (script.Binary op place a b) s =
      and_then (value_of g at vars a s) (λ v s1.
      and_then (replies place (by_left op (out-Value v)) s1) (λ decided s2.
      decided_or decided (λ s3. and_then (value_of g at vars b s3) (λ w s4. replies place (on_two op (out-Value v) (out-Value w)) s4)) s2))
  value_of g at vars (script.Call place kind method target args) s =
      and_then (value_of g at vars target s) (λ v s1.
      and_then (values_of g at vars args s1) (λ vs s2. invoke g.classes place kind (out-Value v) method vs s2))

  -- the values of expressions from left to right
  pub values_of : Ground → ℕ → Vars → SExprs → Server → Reply (List Value)
  values_of g at vars script.NoSExprs s = Got [] s
  values_of g at vars (script.MoreSExprs e es) s =
      and_then (value_of g at vars e s) (λ v s1. and_then (values_of g at vars es s1) (λ vs s2. Got (v ∷ vs) s2))

-- Steps

-- whether a value may be kept
abbrev pub is_primitive : Value-F Value → Bool
is_primitive (Value-F.Int n) = true
is_primitive (Value-F.Bool b) = true
is_primitive (Value-F.Text text) = true
is_primitive _ = false

-- what is asked of a value that is kept
abbrev pub may_keep : Bool → Value → Result (Unit {0}) Fault
may_keep true v = must (is_primitive (out-Value v)) kind
may_keep false v = Ok tt

-- a step's value, which has to be primitive where it is kept
abbrev pub kept : Bool → ℕ → Value → Server → Reply Value
kept keep at v s = replies at (may_keep keep v >> Ok v) s

-- with the entry of a value, where it is kept
abbrev pub with_kept : Bool → Value → Ran → Ran
with_kept true v r = with_entry (forest.Value v) r
with_kept false v r = r

-- the truth of a step's condition
abbrev pub condition : ℕ → Value → Server → Reply Bool
condition at v s = replies at (truth_of (out-Value v)) s

-- the rows of a step's value
abbrev pub rows_of : ℕ → Value → Server → Reply (List Value)
rows_of at v s = replies at (rows_in (out-Value v)) s

-- goes on where nothing within the entry before stopped the run
abbrev pub goes_on : Option PlacedFault → Server → (Server → Ran) → Ran
goes_on None s go = go s
goes_on (Some f) s go = halted f s

abbrev pub chosen : Bool → Ran → Ran → Ran
chosen true a b = a
chosen false a b = b

-- the entry of a branch that was taken, and what follows
abbrev pub branched : Bool → Ran → (Server → Ran) → Ran
branched holds r go = with_entry (forest.Branch holds r.node) (goes_on r.fault r.server go)

-- why turns ended: all rows or items had theirs, a fault within the last one, or no unit of fuel for the next one
pub data Why : Type 0 where
  AllDone : Why
  InTurn : PlacedFault → Why
  NoUnit : Why

-- turns: a node for each that began, why they ended, and the server
pub record Turned : Type 0 where
  pub nodes : Nodes
  pub why : Why
  pub server : Server

-- A turn begins with a unit of fuel.
abbrev pub with_unit : ℕ → Server → (Server → Turned) → Turned
with_unit zero s go = record { nodes = NoNodes; why = NoUnit; server = s }
with_unit (suc n) s go = go (record s { fuel = n })

abbrev pub before_turns : Node → Turned → Turned
before_turns node t = record t { nodes = MoreNodes node t.nodes }

-- the turns after one that ended, unless a fault ended it
abbrev pub turned_on : Node → Option PlacedFault → Server → (Server → Turned) → Turned
turned_on node None s go = before_turns node (go s)
turned_on node (Some f) s go = record { nodes = MoreNodes node NoNodes; why = InTurn f; server = s }

-- the turns over rows or items, each as `turn` runs it
abbrev pub turns : (Value → Server → Ran) → List Value → Server → Turned
turns turn [] s = record { nodes = NoNodes; why = AllDone; server = s }
turns turn (row ∷ rows) s = with_unit s.fuel s (λ s1. let r = turn row s1 in turned_on r.node r.fault r.server (turns turn rows))

-- A turn over a row or an item. Where the row is kept it has to be primitive, and its value is the first entry.
abbrev pub turn_over : ℕ → ℕ → Bool → (Server → Ran) → Value → Server → Ran
turn_over id at keep block row s = on_reply id (kept keep at row s) (λ v s1. with_kept keep v (block s1))

abbrev pub after_turns : ℕ → ℕ → Why → Server → (Server → Ran) → Ran
after_turns id at AllDone s go = go s
after_turns id at (InTurn f) s go = halted f s
after_turns id at NoUnit s go = stopped id at fuel_used s

-- the entry of the turns, and what follows; without a unit for the next turn the entry stands, and the fault follows
abbrev pub walked : ℕ → ℕ → Turned → (Server → Ran) → Ran
walked id at t go = with_entry (forest.Rows t.nodes) (after_turns id at t.why t.server go)

-- the items of an input that is a list
abbrev pub items_in : Value-F Value → Result (List Value) Fault
items_in (Value-F.List items) = Ok items
items_in _ = Err kind

abbrev pub items_of : Ground → ℕ → ℕ → Server → Reply (List Value)
items_of g at number s = replies at (known kind (slice_get g.inputs number) >>= λ v. items_in (out-Value v)) s

abbrev mutual
  -- a step, and what follows it
  pub run_step : Ground → Step → Vars → Server → (Vars → Server → Ran) → Ran
  run_step g (script.Do id at e) vars s go = on_reply id (value_of g at vars e s) (λ v s1. go vars s1)
  run_step g (script.Keep id at e) vars s go =
      on_reply id (and_then (value_of g at vars e s) (kept true at)) (λ v s1. with_entry (forest.Value v) (go vars s1))
  run_step g (script.Let id at var keep e) vars s go =
      on_reply id (and_then (value_of g at vars e s) (kept keep at)) (λ v s1. with_kept keep v (go ((var, v) ∷ vars) s1))
  run_step g (script.If id at e a b) vars s go =
      on_reply id (and_then (value_of g at vars e s) (condition at)) (λ holds s1.
      branched holds (chosen holds (run_steps g a vars s1 ended) (run_steps g b vars s1 ended)) (λ s2. go vars s2))
  run_step g (script.Each id at var keep e a) vars s go =
      on_reply id (and_then (value_of g at vars e s) (rows_of at)) (λ rows s1.
      walked id at (turns (λ row s2. turn_over id at keep (λ s3. run_steps g a ((var, row) ∷ vars) s3 ended) row s2) rows s1) (λ s2. go vars s2))
  run_step g (script.Over id at var input a) vars s go =
      on_reply id (items_of g at input s) (λ items s1.
      walked id at (turns (λ item s2. turn_over id at false (λ s3. run_steps g a ((var, item) ∷ vars) s3 ended) item s2) items s1) (λ s2. go vars s2))

  -- steps in order, and what follows them
  pub run_steps : Ground → Steps → Vars → Server → (Vars → Server → Ran) → Ran
  run_steps g script.NoSteps vars s go = go vars s
  run_steps g (script.MoreSteps step steps) vars s go = run_step g step vars s (λ vars1 s1. run_steps g steps vars1 s1 go)

-- A script on a service and its table, begun with the fuel of a batch. Its variables are looked up from the latest
-- binding; those of a block, and of a turn, end with it.
abbrev pub run_script : Script → List Value → List Class → ℕ → List Object → Ran
run_script s inputs classes root table =
    run_steps (record { classes = classes; root = root; inputs = inputs }) s.body [] (record { table = table; fuel = batch_fuel }) ended
