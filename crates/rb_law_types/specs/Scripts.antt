-- A law of scripts: the table that they leave fits, and their nodes have the entries that their steps give.
use Rattle.std.specs.Prelude.{◌≡◌, ◌<◌, ◌≤◌, ◌^◌, ℕ, suc, List, Bool, true, false, Option, Some, None, Ok, slice_get}
use Rattle.std.specs.List.{All}
use Rattle.rb_trees.specs.Limits.{longest_list}
use Rattle.rb_trees.specs.Validity.{has}
use Rattle.rb_trees.specs.declared.values.Value as value
use Rattle.rb_trees.specs.declared.values.Value.TheOpen.{Value-F}
use Rattle.rb_trees.specs.declared.values.Value.TheViews.{out-Value}
use Rattle.rb_trees.specs.declared.forests.NodeFault.{NodeFault}
use Rattle.rb_trees.specs.declared.services.Object.{Object}
use Rattle.rb_trees.specs.mirror.Scripts as script
use Rattle.rb_trees.specs.mirror.Scripts.{SExpr, SExprs, Step, Steps, Script}
use Rattle.rb_trees.specs.mirror.Forests.{Node, Nodes, Entry, Entries, Holds, Value, Branch, Rows, NoEntries, MoreEntries, NoNodes, MoreNodes}
use Rattle.rb_trees.specs.mirror.Declarations.{Class}
use Rattle.rb_meaning_types.specs.Values.{IsList}
use Rattle.rb_meaning_types.specs.Programs.{check_service}
use Rattle.rb_meaning_types.specs.Fits.{TableFits}
use Rattle.rb_meaning_code.specs.ScriptRun.{Ran, run_script}
use Rattle.rb_law_types.specs.Kept.{IsPrimitiveForm, IsPrimitive}
use Rattle.rb_law_types.specs.Formed.{AreFormed}
use Rattle.rb_law_types.specs.Remote.{IsFault, TableKeeps}

-- Scripts whose literals are primitive and within their limits, and whose numbers of steps and positions have 32 bits; no
-- expression has an input that is a list.

abbrev pub IsPlace : ℕ → Type 0
IsPlace at = at < 2 ^ 32

abbrev mutual
  pub IsBoundedSExpr : List ℕ → SExpr → Type 0
  IsBoundedSExpr lists (script.Lit v) = IsPrimitive v
  IsBoundedSExpr lists (script.Input number) = has number lists ≡ false
  IsBoundedSExpr lists (script.Var number) = Unit {0}
  IsBoundedSExpr lists script.Root = Unit {0}
  IsBoundedSExpr lists (script.Unary op at a) = IsPlace at × IsBoundedSExpr lists a
  IsBoundedSExpr lists (script.Binary op at a b) = IsPlace at × IsBoundedSExpr lists a × IsBoundedSExpr lists b
  IsBoundedSExpr lists (script.Call at kind method target args) = IsPlace at × IsBoundedSExpr lists target × AreBoundedSExprs lists args

  pub AreBoundedSExprs : List ℕ → SExprs → Type 0
  AreBoundedSExprs lists script.NoSExprs = Unit {0}
  AreBoundedSExprs lists (script.MoreSExprs e es) = IsBoundedSExpr lists e × AreBoundedSExprs lists es

abbrev mutual
  pub IsBoundedStep : List ℕ → Step → Type 0
  IsBoundedStep lists (script.Do id at e) = IsPlace id × IsPlace at × IsBoundedSExpr lists e
  IsBoundedStep lists (script.Keep id at e) = IsPlace id × IsPlace at × IsBoundedSExpr lists e
  IsBoundedStep lists (script.Let id at var keep e) = IsPlace id × IsPlace at × IsBoundedSExpr lists e
  IsBoundedStep lists (script.If id at e a b) = IsPlace id × IsPlace at × IsBoundedSExpr lists e × AreBoundedSteps lists a × AreBoundedSteps lists b
  IsBoundedStep lists (script.Each id at var keep e a) = IsPlace id × IsPlace at × IsBoundedSExpr lists e × AreBoundedSteps lists a
  IsBoundedStep lists (script.Over id at var input a) = IsPlace id × IsPlace at × AreBoundedSteps lists a

  pub AreBoundedSteps : List ℕ → Steps → Type 0
  AreBoundedSteps lists script.NoSteps = Unit {0}
  AreBoundedSteps lists (script.MoreSteps s ss) = IsBoundedStep lists s × AreBoundedSteps lists ss

-- a list of primitive values
abbrev pub IsListForm : Value-F value.Value → Type 0
IsListForm (Value-F.List items) = IsList items × All IsPrimitive items
IsListForm _ = ⊥

-- a value of an input: a list where the input is one, else primitive
abbrev pub IsInputForm : Bool → Value-F value.Value → Type 0
IsInputForm true v = IsListForm v
IsInputForm false v = IsPrimitiveForm v

-- values for inputs, of which those of these numbers are lists
abbrev pub AreInputs : List ℕ → List value.Value → Type 0
AreInputs lists values = (number : ℕ) (v : value.Value) → slice_get values number ≡ Some v → IsInputForm (has number lists) (out-Value v)

-- Nodes

-- the entry of a kept value
abbrev pub IsKept : Entry → Type 0
IsKept (Value v) = IsPrimitive v
IsKept (Branch taken node) = ⊥
IsKept (Rows nodes) = ⊥

-- how a node ends
abbrev pub IsEnd : Option NodeFault → Type 0
IsEnd None = Unit {0}
IsEnd (Some f) = IsPlace f.step × IsPlace f.at × IsFault f.fault

-- a node whose entries are as P says
abbrev pub IsNode : (Entries → Type 0) → Node → Type 0
IsNode P (Holds entries fault) = P entries × IsEnd fault

abbrev pub IsBranch : (Entries → Type 0) → (Entries → Type 0) → Entry → Type 0
IsBranch A B (Value v) = ⊥
IsBranch A B (Branch true node) = IsNode A node
IsBranch A B (Branch false node) = IsNode B node
IsBranch A B (Rows nodes) = ⊥

abbrev pub count_nodes : Nodes → ℕ
count_nodes NoNodes = 0
count_nodes (MoreNodes n ns) = suc (count_nodes ns)

abbrev pub AreNodes : (Entries → Type 0) → Nodes → Type 0
AreNodes P NoNodes = Unit {0}
AreNodes P (MoreNodes n ns) = IsNode P n × AreNodes P ns

-- the turns over at most as many rows as a list may have
abbrev pub AreTurns : (Entries → Type 0) → Entry → Type 0
AreTurns P (Value v) = ⊥
AreTurns P (Branch taken node) = ⊥
AreTurns P (Rows nodes) = (count_nodes nodes ≤ longest_list) × AreNodes P nodes

-- No entry more, or one as Q says and then as P does: a run that is stopped has fewer entries.
abbrev pub Then : (Entry → Type 0) → (Entries → Type 0) → Entries → Type 0
Then Q P NoEntries = Unit {0}
Then Q P (MoreEntries e es) = Q e × P es

abbrev pub AreNone : Entries → Type 0
AreNone NoEntries = Unit {0}
AreNone (MoreEntries e es) = ⊥

-- a kept value comes first, where there is one
abbrev pub KeptFirst : Bool → (Entries → Type 0) → Entries → Type 0
KeptFirst true P es = Then IsKept P es
KeptFirst false P es = P es

-- The entries that a step gives, and then those as P says: a node has at most one for each step of its block, and the
-- turns of a kept row one more, the row.
abbrev mutual
  pub StepGives : Step → (Entries → Type 0) → Entries → Type 0
  StepGives (script.Do id at e) P es = P es
  StepGives (script.Keep id at e) P es = Then IsKept P es
  StepGives (script.Let id at var keep e) P es = KeptFirst keep P es
  StepGives (script.If id at e a b) P es = Then (IsBranch (λ xs. StepsGive a AreNone xs) (λ xs. StepsGive b AreNone xs)) P es
  StepGives (script.Each id at var keep e a) P es = Then (AreTurns (λ xs. KeptFirst keep (λ ys. StepsGive a AreNone ys) xs)) P es
  StepGives (script.Over id at var input a) P es = Then (AreTurns (λ xs. StepsGive a AreNone xs)) P es

  pub StepsGive : Steps → (Entries → Type 0) → Entries → Type 0
  StepsGive script.NoSteps P es = P es
  StepsGive (script.MoreSteps s ss) P es = StepGives s (λ xs. StepsGive ss P xs) es

-- A run: its node's entries are as P says, its fault is one, and the table still fits.
pub record RanKeeps (classes : List Class) (root : ℕ) (before : List Object) (P : Entries → Type 0) (r : Ran) : Type 0 where
  pub node : IsNode P r.node
  pub table : TableKeeps classes root before r.server.table

-- A script on typed classes and a table that fits keeps the table fitting, and gives a node of its steps.
abbrev pub ScriptsKeep : Type 0
ScriptsKeep = (classes : List Class) → check_service classes ≡ Ok tt → AreFormed classes
    → (root : ℕ) (table : List Object) → TableFits classes root table
    → (s : Script) (inputs : List value.Value) → AreBoundedSteps s.lists s.body → AreInputs s.lists inputs
    → RanKeeps classes root table (λ es. StepsGive s.body AreNone es) (run_script s inputs classes root table)
