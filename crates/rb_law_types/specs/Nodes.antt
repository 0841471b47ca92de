-- How deep and how large the nodes of a script get.
use Rattle.std.specs.Prelude.{◌≡◌, ◌≤◌, ℕ, zero, suc, max, List, Ok}
use Rattle.rb_trees.specs.Limits.{longest_list}
use Rattle.rb_trees.specs.declared.values.Value as value
use Rattle.rb_trees.specs.declared.services.Object.{Object}
use Rattle.rb_trees.specs.mirror.Scripts.{Step, Steps, Script, Do, Keep, Let, If, Each, Over, NoSteps, MoreSteps}
use Rattle.rb_trees.specs.mirror.Forests.{Node, Nodes, Entry, Entries, Holds, Value, Branch, Rows, NoEntries, MoreEntries, NoNodes, MoreNodes}
use Rattle.rb_trees.specs.mirror.Declarations.{Class}
use Rattle.rb_meaning_types.specs.Programs.{check_service}
use Rattle.rb_meaning_types.specs.Fits.{TableFits}
use Rattle.rb_meaning_code.specs.ScriptRun.{run_script}
use Rattle.rb_law_types.specs.Kept.{IsPrimitive}
use Rattle.rb_law_types.specs.Formed.{AreFormed}
use Rattle.rb_law_types.specs.Scripts.{AreBoundedSteps, AreInputs, IsEnd, count_nodes}

abbrev pub step_count : Steps → ℕ
step_count NoSteps = 0
step_count (MoreSteps s ss) = suc (step_count ss)

abbrev pub count_entries : Entries → ℕ
count_entries NoEntries = 0
count_entries (MoreEntries e es) = suc (count_entries es)

-- how many blocks stand within each other in a step, and in the steps of a block
abbrev mutual
  pub step_depth : Step → ℕ
  step_depth (Do id at e) = 0
  step_depth (Keep id at e) = 0
  step_depth (Let id at var keep e) = 0
  step_depth (If id at e a b) = suc (max (steps_depth a) (steps_depth b))
  step_depth (Each id at var keep e a) = suc (steps_depth a)
  step_depth (Over id at var input a) = suc (steps_depth a)

  pub steps_depth : Steps → ℕ
  steps_depth NoSteps = 0
  steps_depth (MoreSteps s ss) = max (step_depth s) (steps_depth ss)

-- the most entries of a node within a step, and within the steps of a block: one for each step of its block, and one for a
-- kept row
abbrev mutual
  pub step_most : Step → ℕ
  step_most (Do id at e) = 0
  step_most (Keep id at e) = 0
  step_most (Let id at var keep e) = 0
  step_most (If id at e a b) = max (max (suc (step_count a)) (steps_most a)) (max (suc (step_count b)) (steps_most b))
  step_most (Each id at var keep e a) = max (suc (step_count a)) (steps_most a)
  step_most (Over id at var input a) = max (suc (step_count a)) (steps_most a)

  pub steps_most : Steps → ℕ
  steps_most NoSteps = 0
  steps_most (MoreSteps s ss) = max (step_most s) (steps_most ss)

-- the most entries of a node that a block gives
abbrev pub block_most : Steps → ℕ
block_most steps = max (suc (step_count steps)) (steps_most steps)

-- A node with at most so many nodes within each other, and so many entries in each; its values are primitive and within
-- their limits, its faults are faults.
abbrev mutual
  pub IsNodeWithin : ℕ → ℕ → Node → Type 0
  IsNodeWithin zero most node = ⊥
  IsNodeWithin (suc depth) most (Holds entries fault) = (count_entries entries ≤ most) × AreEntriesWithin depth most entries × IsEnd fault

  pub IsEntryWithin : ℕ → ℕ → Entry → Type 0
  IsEntryWithin depth most (Value v) = IsPrimitive v
  IsEntryWithin depth most (Branch taken node) = IsNodeWithin depth most node
  IsEntryWithin depth most (Rows nodes) = (count_nodes nodes ≤ longest_list) × AreNodesWithin depth most nodes

  pub AreEntriesWithin : ℕ → ℕ → Entries → Type 0
  AreEntriesWithin depth most NoEntries = Unit {0}
  AreEntriesWithin depth most (MoreEntries e es) = IsEntryWithin depth most e × AreEntriesWithin depth most es

  pub AreNodesWithin : ℕ → ℕ → Nodes → Type 0
  AreNodesWithin depth most NoNodes = Unit {0}
  AreNodesWithin depth most (MoreNodes n ns) = IsNodeWithin depth most n × AreNodesWithin depth most ns

-- The node of a script has at most as many nodes within each other as the script has blocks, its body counted, and each
-- has at most as many entries as steps, and one more.
abbrev pub NodesStayWithin : Type 0
NodesStayWithin = (classes : List Class) → check_service classes ≡ Ok tt → AreFormed classes
    → (root : ℕ) (table : List Object) → TableFits classes root table
    → (s : Script) (inputs : List value.Value) → AreBoundedSteps s.lists s.body → AreInputs s.lists inputs
    → IsNodeWithin (suc (steps_depth s.body)) (block_most s.body) (run_script s inputs classes root table).node
