-- A law of scripts: the fault that stops a run is the one fault in its node.
use Rattle.std.specs.Prelude.{◌≡◌, ℕ, List, [], ◌∷◌, ◌++◌, Option, None, Some}
use Rattle.rb_trees.specs.declared.values.Value as value
use Rattle.rb_trees.specs.declared.forests.NodeFault.{NodeFault}
use Rattle.rb_trees.specs.declared.services.Object.{Object}
use Rattle.rb_trees.specs.mirror.Scripts.{Script}
use Rattle.rb_trees.specs.mirror.Forests.{Node, Nodes, Entry, Entries, Holds, Value, Branch, Rows, NoEntries, MoreEntries, NoNodes, MoreNodes}
use Rattle.rb_trees.specs.mirror.Declarations.{Class}
use Rattle.rb_meaning_code.specs.ScriptRun.{PlacedFault, Ran, run_script}

-- none or one, as a list
abbrev pub at_most_one : Option PlacedFault → List PlacedFault
at_most_one None = []
at_most_one (Some f) = f ∷ []

-- the fault at the end of a node, without its step
abbrev pub last_fault : Option NodeFault → List PlacedFault
last_fault None = []
last_fault (Some f) = record { at = f.at; fault = f.fault } ∷ []

-- the faults in a node with their positions, wherever in it they stand
abbrev mutual
  pub faults_in : Node → List PlacedFault
  faults_in (Holds es f) = faults_among es ++ last_fault f

  pub faults_among : Entries → List PlacedFault
  faults_among NoEntries = []
  faults_among (MoreEntries e es) = faults_within e ++ faults_among es

  pub faults_within : Entry → List PlacedFault
  faults_within (Value v) = []
  faults_within (Branch taken node) = faults_in node
  faults_within (Rows nodes) = faults_of_turns nodes

  pub faults_of_turns : Nodes → List PlacedFault
  faults_of_turns NoNodes = []
  faults_of_turns (MoreNodes n ns) = faults_in n ++ faults_of_turns ns

-- In the node of a run stands the fault that stopped it, and no other.
abbrev pub HoldsItsFault : Ran → Type 0
HoldsItsFault r = faults_in r.node ≡ at_most_one r.fault

-- So it is with every script, whatever it is, with any inputs on any classes and table.
abbrev pub NodesHoldTheFault : Type 0
NodesHoldTheFault = (s : Script) (inputs : List value.Value) (classes : List Class) (root : ℕ) (table : List Object) → HoldsItsFault (run_script s inputs classes root table)
