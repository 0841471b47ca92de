-- Nodes of steps are as deep as their blocks, and have as many entries as these have steps.
use Rattle.std.proofs.Common.{ℕ, zero, suc, ◌+◌, ◌≤◌, arith, Bool as Truth, true, false}
use Rattle.rb_trees.specs.mirror.Scripts.{Step, Steps, Do, Keep, Let, If, Each, Over, NoSteps, MoreSteps}
use Rattle.rb_trees.specs.mirror.Forests.{Node, Nodes, Entry, Entries, Holds, Value, Branch, Rows, NoEntries, MoreEntries, NoNodes, MoreNodes}
use Rattle.rb_law_types.specs.Scripts.{IsKept, IsNode, IsBranch, AreNodes, AreTurns, Then, AreNone, KeptFirst, StepGives, StepsGive}
use Rattle.rb_law_types.specs.Nodes.{step_count, count_entries, step_depth, steps_depth, step_most, steps_most, block_most, IsNodeWithin, IsEntryWithin, AreEntriesWithin, AreNodesWithin, NodesStayWithin}
use Rattle.rb_law_types.proofs.ScriptRuns.{scripts_keep}

-- entries within so many nodes, of which there are at most so many
abbrev Within : ℕ → ℕ → ℕ → Entries → Type 0
Within depth most count es = AreEntriesWithin depth most es × (count_entries es ≤ count)

then_within : (depth most count : ℕ) (Q : Entry → Type 0) (P : Entries → Type 0) → ((e : Entry) → Q e → IsEntryWithin depth most e) → ((es : Entries) → P es → Within depth most count es)
    → (es : Entries) → Then Q P es → Within depth most (suc count) es
then_within depth most count Q P q p NoEntries h = (tt, omega arith)
then_within depth most count Q P q p (MoreEntries e es) h = let rest = p es h.1 in ((q e h.0, rest.0), omega (arith, rest.1))

kept_within : (depth most : ℕ) (e : Entry) → IsKept e → IsEntryWithin depth most e
kept_within depth most (Value v) h = h
kept_within depth most (Branch taken node) h = absurd h
kept_within depth most (Rows nodes) h = absurd h

first_within : (depth most count : ℕ) (keep : Truth) (P : Entries → Type 0) → ((es : Entries) → P es → Within depth most count es) → (es : Entries) → KeptFirst keep P es → Within depth most (suc count) es
first_within depth most count true P p es h = then_within depth most count IsKept P (kept_within depth most) p es h
first_within depth most count false P p es h = let rest = p es h in (rest.0, omega (arith, rest.1))

none_within : (depth most : ℕ) (es : Entries) → AreNone es → Within depth most 0 es
none_within depth most NoEntries h = (tt, omega arith)
none_within depth most (MoreEntries e es) h = absurd h

node_within : (depth most count : ℕ) (P : Entries → Type 0) → count ≤ most → ((es : Entries) → P es → Within depth most count es) → (node : Node) → IsNode P node → IsNodeWithin (suc depth) most node
node_within depth most count P le p (Holds es f) h = let inside = p es h.0 in (omega (arith, le, inside.1), inside.0, h.1)

nodes_within : (depth most count : ℕ) (P : Entries → Type 0) → count ≤ most → ((es : Entries) → P es → Within depth most count es) → (nodes : Nodes) → AreNodes P nodes → AreNodesWithin (suc depth) most nodes
nodes_within depth most count P le p NoNodes h = tt
nodes_within depth most count P le p (MoreNodes n ns) h = (node_within depth most count P le p n h.0, nodes_within depth most count P le p ns h.1)

branch_within : (depth most one two : ℕ) (A B : Entries → Type 0) → one ≤ most → two ≤ most → ((es : Entries) → A es → Within depth most one es) → ((es : Entries) → B es → Within depth most two es)
    → (e : Entry) → IsBranch A B e → IsEntryWithin (suc depth) most e
branch_within depth most one two A B la lb a b (Value v) h = absurd h
branch_within depth most one two A B la lb a b (Branch true node) h = node_within depth most one A la a node h
branch_within depth most one two A B la lb a b (Branch false node) h = node_within depth most two B lb b node h
branch_within depth most one two A B la lb a b (Rows nodes) h = absurd h

turns_within : (depth most count : ℕ) (P : Entries → Type 0) → count ≤ most → ((es : Entries) → P es → Within depth most count es) → (e : Entry) → AreTurns P e → IsEntryWithin (suc depth) most e
turns_within depth most count P le p (Value v) h = absurd h
turns_within depth most count P le p (Branch taken node) h = absurd h
turns_within depth most count P le p (Rows nodes) h = (h.0, nodes_within depth most count P le p nodes h.1)

mutual
  step_within : (s : Step) (depth most count : ℕ) (P : Entries → Type 0) → step_depth s ≤ depth → step_most s ≤ most → ((es : Entries) → P es → Within depth most count es) → (es : Entries) → StepGives s P es → Within depth most (suc count) es
  step_within (Do id at e) depth most count P d m p es h = let rest = p es h in (rest.0, omega (arith, rest.1))
  step_within (Keep id at e) depth most count P d m p es h = then_within depth most count IsKept P (kept_within depth most) p es h
  step_within (Let id at var keep e) depth most count P d m p es h = first_within depth most count keep P p es h
  step_within (If id at e a b) zero most count P d m p es h = absurd (omega (arith, d))
  step_within (If id at e a b) (suc depth) most count P d m p es h =
      then_within (suc depth) most count (IsBranch (λ xs. StepsGive a AreNone xs) (λ xs. StepsGive b AreNone xs)) P
      (branch_within depth most (step_count a + 0) (step_count b + 0) (λ xs. StepsGive a AreNone xs) (λ xs. StepsGive b AreNone xs) (omega (arith, m)) (omega (arith, m))
      (steps_within a depth most 0 AreNone (omega (arith, d)) (omega (arith, m)) (none_within depth most))
      (steps_within b depth most 0 AreNone (omega (arith, d)) (omega (arith, m)) (none_within depth most))) p es h
  step_within (Each id at var keep e a) zero most count P d m p es h = absurd (omega (arith, d))
  step_within (Each id at var keep e a) (suc depth) most count P d m p es h =
      then_within (suc depth) most count (AreTurns (λ xs. KeptFirst keep (λ ys. StepsGive a AreNone ys) xs)) P
      (turns_within depth most (suc (step_count a + 0)) (λ xs. KeptFirst keep (λ ys. StepsGive a AreNone ys) xs) (omega (arith, m))
      (first_within depth most (step_count a + 0) keep (λ ys. StepsGive a AreNone ys)
      (steps_within a depth most 0 AreNone (omega (arith, d)) (omega (arith, m)) (none_within depth most)))) p es h
  step_within (Over id at var input a) zero most count P d m p es h = absurd (omega (arith, d))
  step_within (Over id at var input a) (suc depth) most count P d m p es h =
      then_within (suc depth) most count (AreTurns (λ xs. StepsGive a AreNone xs)) P
      (turns_within depth most (step_count a + 0) (λ xs. StepsGive a AreNone xs) (omega (arith, m))
      (steps_within a depth most 0 AreNone (omega (arith, d)) (omega (arith, m)) (none_within depth most))) p es h

  steps_within : (ss : Steps) (depth most count : ℕ) (P : Entries → Type 0) → steps_depth ss ≤ depth → steps_most ss ≤ most → ((es : Entries) → P es → Within depth most count es)
      → (es : Entries) → StepsGive ss P es → Within depth most (step_count ss + count) es
  steps_within NoSteps depth most count P d m p es h = let rest = p es h in (rest.0, omega (arith, rest.1))
  steps_within (MoreSteps s ss) depth most count P d m p es h =
      let all = step_within s depth most (step_count ss + count) (λ xs. StepsGive ss P xs) (omega (arith, d)) (omega (arith, m)) (steps_within ss depth most count P (omega (arith, d)) (omega (arith, m)) p) es h in
      (all.0, omega (arith, all.1))

pub nodes_stay_within : NodesStayWithin
nodes_stay_within classes typed formed root table fits s inputs bounded given =
    node_within (steps_depth s.body) (block_most s.body) (step_count s.body + 0) (λ es. StepsGive s.body AreNone es) (omega arith)
    (steps_within s.body (steps_depth s.body) (block_most s.body) 0 AreNone (omega arith) (omega arith) (none_within (steps_depth s.body) (block_most s.body)))
    _ (scripts_keep classes typed formed root table fits s inputs bounded given).node
