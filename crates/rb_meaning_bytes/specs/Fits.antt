-- Whether a node fits a remainder, where the lists of inputs have these lengths. The parts are walked over the node's entries as in replay, but without local code.
-- What is answered is the first step that doesn't find what its part demands, or that something is left over.
use Rattle.std.specs.Prelude.{ℕ, List, [], ◌∷◌, suc, get_or, Bool, true, false, not, ◌&&◌, ◌||◌, cond, nat_eq, nat_lt, nat_le, Option, None, Some, Result, Ok, Err}
use Rattle.rb_trees.specs.Outcome.{◌>>=◌, known}
use Rattle.rb_trees.specs.declared.values.Value.{Value, out-Value}
use Rattle.rb_trees.specs.declared.values.Value.TheOpen.{Value-F}
use Rattle.rb_trees.specs.declared.forests.NodeFault.{NodeFault}
use Rattle.rb_trees.specs.mirror.Forests as forest
use Rattle.rb_trees.specs.mirror.Forests.{Node, Holds, Entry, Entries, NoEntries, MoreEntries, Nodes, NoNodes, MoreNodes}
use Rattle.rb_trees.specs.mirror.Remainders as part
use Rattle.rb_trees.specs.mirror.Remainders.{Part, Parts, NoParts, MoreParts}

-- What doesn't fit.
pub data Unfit : Type 0 where
  -- This step doesn't find what it demands.
  At : (step : ℕ) → Unfit
  -- Every step fits, but an entry, a turn or a fault is left over.
  Extra : Unfit

-- ---- kinds

-- An Int is of kind 1, a Bool of kind 2, a Text of kind 3. No other value is primitive.
abbrev pub form_has_kind : ℕ → Value-F Value → Bool
form_has_kind kind (Value-F.Int z) = nat_eq kind 1
form_has_kind kind (Value-F.Bool b) = nat_eq kind 2
form_has_kind kind (Value-F.Text bytes) = nat_eq kind 3
form_has_kind kind _ = false

-- Rows of a primitive kind are kept: a turn's node begins with its row.
abbrev pub is_kept : ℕ → Bool
is_kept kind = nat_le 1 kind && nat_le kind 3

-- ---- walks

-- Where the walk of a node stands.
pub record Walk : Type 0 where
  -- the entries that no part has read yet
  pub left : Entries
  -- the step of the node's fault, while no part has raised it
  pub fault : Option ℕ
  -- A fault was raised: the node's own, or one within the entry that was read last. No further part is performed.
  pub stopped : Bool
  -- Something is left over in a node within an entry that was read.
  pub spare : Bool

abbrev pub step_of : Option NodeFault → Option ℕ
step_of None = None
step_of (Some f) = Some f.step

-- The walk of a node begins, with what is spare before it.
abbrev pub begun : Node → Bool → Walk
begun (Holds es f) spare = record { left = es; fault = step_of f; stopped = false; spare = spare }

abbrev pub are_left : Entries → Bool
are_left NoEntries = false
are_left (MoreEntries e es) = true

abbrev pub is_left : Option ℕ → Bool
is_left None = false
is_left (Some step) = true

-- whether something is left over where a walk ends: spare before or within, an entry, or a fault that no part raised
abbrev pub leaves : Walk → Bool
leaves w = w.spare || (are_left w.left || is_left w.fault)

-- The walk goes on behind an entry, in which the walk of a node ended so.
abbrev pub behind : Walk → Entries → Walk → Walk
behind w es inner = record w { left = es; stopped = inner.stopped; spare = leaves inner }

-- ---- what stands first among the entries

-- the entries behind a value of this kind
abbrev pub behind_value : ℕ → Entries → Option Entries
behind_value kind (MoreEntries (forest.Value v) es) = cond (form_has_kind kind (out-Value v)) (Some es) None
behind_value kind _ = None

-- a branch: which one was taken, its node, and the entries behind it
abbrev pub first_branch : Entries → Option (Bool × Node × Entries)
first_branch (MoreEntries (forest.Branch taken n) es) = Some (taken, n, es)
first_branch _ = None

-- rows: the nodes of the turns, and the entries behind them
abbrev pub first_rows : Entries → Option (Nodes × Entries)
first_rows (MoreEntries (forest.Rows ns) es) = Some (ns, es)
first_rows _ = None

-- ---- what a step demands

abbrev pub is_at : ℕ → Option ℕ → Bool
is_at step None = false
is_at step (Some s) = nat_eq s step

-- whether the node's fault is at the step, with no entry left before it
abbrev pub faults_at : ℕ → Walk → Bool
faults_at step w = cond (are_left w.left) false (is_at step w.fault)

-- The node's fault is raised: it stops the walk, and is no longer left.
abbrev pub raised : Walk → Walk
raised w = record w { fault = None; stopped = true }

-- The node's fault is raised where it is at the step. Where it isn't, this comes.
abbrev pub raised_or : ℕ → Walk → Result Walk ℕ → Result Walk ℕ
raised_or step w other = cond (faults_at step w) (Ok (raised w)) other

-- A step that gives no entry: the walk goes on where it stands.
abbrev pub passed : ℕ → Walk → Result Walk ℕ
passed step w = raised_or step w (Ok w)

-- A step that gives an entry: it stands first, or the node's fault is at the step.
abbrev pub demanded : {A : Type 0} → ℕ → Walk → Option A → (A → Result Walk ℕ) → Result Walk ℕ
demanded step w (Some x) go = go x
demanded step w None go = raised_or step w (Err step)

-- the walk behind the entries that were read
abbrev pub went : Walk → Entries → Walk
went w es = record w { left = es }

-- a value of this kind
abbrev pub value_read : (step kind : ℕ) → Walk → Result Walk ℕ
value_read step kind w = demanded step w (behind_value kind w.left) (λ es. Ok (went w es))

-- the values that a statement takes, in order of evaluation, each with its kind
abbrev pub values_read : List (ℕ × ℕ) → Walk → Result Walk ℕ
values_read [] w = Ok w
values_read (take ∷ takes) w = cond w.stopped (Ok w) (value_read take.0 take.1 w >>= λ after. values_read takes after)

-- Where rows are kept, the node of a turn begins with a value of their kind. No fault may stand in its place.
abbrev pub row_read : (step kind : ℕ) → Walk → Result Walk ℕ
row_read step kind w = cond (is_kept kind) (known step (behind_value kind w.left) >>= λ es. Ok (went w es)) (Ok w)

-- the walk where a turn is left over
abbrev pub with_spare : Walk → Walk
with_spare w = record w { spare = true }

-- The turns of a loop in order. One behind a fault is left over.
abbrev pub turns_read : (step kind : ℕ) → (Walk → Result Walk ℕ) → Nodes → Walk → Result Walk ℕ
turns_read step kind body NoNodes w = Ok w
turns_read step kind body (MoreNodes n ns) w = cond w.stopped (Ok (with_spare w))
    (row_read step kind (begun n w.spare) >>= λ row. body row >>= λ inner. turns_read step kind body ns (behind w w.left inner))

-- Behind the turns the node's fault may be at the step: there was no fuel for a further turn.
abbrev pub turns_done : ℕ → Walk → Result Walk ℕ
turns_done step w = cond w.stopped (Ok w) (passed step w)

-- ---- how many turns a list has

abbrev mutual
  -- whether a fault ends a node: its own, or one within its last entry
  pub ends_early : Node → Bool
  ends_early (Holds es f) = is_left (step_of f) || last_ends_early es

  -- whether a fault ends a node within the last of entries
  pub last_ends_early : Entries → Bool
  last_ends_early NoEntries = false
  last_ends_early (MoreEntries e NoEntries) = entry_ends_early e
  last_ends_early (MoreEntries e es) = last_ends_early es

  pub entry_ends_early : Entry → Bool
  entry_ends_early (forest.Value v) = false
  entry_ends_early (forest.Branch taken n) = ends_early n
  entry_ends_early (forest.Rows ns) = last_turn_ends_early ns

  -- whether a fault ends the last of turns
  pub last_turn_ends_early : Nodes → Bool
  last_turn_ends_early NoNodes = false
  last_turn_ends_early (MoreNodes n NoNodes) = ends_early n
  last_turn_ends_early (MoreNodes n ns) = last_turn_ends_early ns

abbrev pub count_turns : Nodes → ℕ
count_turns NoNodes = 0
count_turns (MoreNodes n ns) = suc (count_turns ns)

-- Turns over so many items: each had its turn, and no fault at the step comes behind them; or fewer had one, and a fault ended
-- the last of these or comes behind them.
abbrev pub is_counted : ℕ → Nodes → Bool → Bool
is_counted items ns faulted =
    cond (nat_eq (count_turns ns) items) (not faulted) (nat_lt (count_turns ns) items && (faulted || last_turn_ends_early ns))

-- the turns, where they are so many
abbrev pub counted : (step items : ℕ) → Nodes → Walk → Result Walk ℕ → Result Walk ℕ
counted step items ns w turned = cond (is_counted items ns (faults_at step w)) turned (Err step)

-- the kind of what is no row
abbrev pub no_kind : ℕ
no_kind = 0

-- ---- parts, where the lists of inputs have these lengths

abbrev mutual
  -- The walk behind a part, or the step that doesn't fit.
  pub part_read : List ℕ → Part → Walk → Result Walk ℕ
  part_read lengths (part.Plain stmt takes) w = values_read takes w
  part_read lengths (part.Pass step) w = passed step w
  part_read lengths (part.Bind step name kind) w = value_read step kind w
  part_read lengths (part.Both step at name value) w = passed step w
  part_read lengths (part.Branch step then_parts else_parts) w = demanded step w (first_branch w.left) (λ x.
      cond x.0 (parts_read lengths then_parts (begun x.1 w.spare)) (parts_read lengths else_parts (begun x.1 w.spare)) >>= λ inner. Ok (behind w x.2 inner))
  part_read lengths (part.Turns step name kind body) w = demanded step w (first_rows w.left) (λ x.
      turns_read step kind (λ inner. parts_read lengths body inner) x.0 (went w x.1) >>= λ after. turns_done step after)
  part_read lengths (part.Over step at name list input body) w = demanded step w (first_rows w.left) (λ x.
      counted step (get_or lengths input 0) x.0 (went w x.1)
      (turns_read step no_kind (λ inner. parts_read lengths body inner) x.0 (went w x.1) >>= λ after. turns_done step after))

  -- the walk behind parts in order, up to a fault
  pub parts_read : List ℕ → Parts → Walk → Result Walk ℕ
  parts_read lengths NoParts w = Ok w
  parts_read lengths (MoreParts p ps) w = cond w.stopped (Ok w) (part_read lengths p w >>= λ after. parts_read lengths ps after)

-- ---- nodes

-- A step that doesn't fit comes before what is left over.
abbrev pub judged : Result Walk ℕ → Result (Unit {0}) Unfit
judged (Ok w) = cond (leaves w) (Err Extra) (Ok tt)
judged (Err step) = Err (At step)

-- whether a node fits a remainder, or what doesn't; the list of each input that is one has the length at the input's number
unfoldable pub fits : Node → Parts → List ℕ → Result (Unit {0}) Unfit
fits n ps lengths = judged (parts_read lengths ps (begun n false))
