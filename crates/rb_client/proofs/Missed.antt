-- What stands first in what is open, by what is left of the innermost node.
use Rattle.std.proofs.Common.{◌≡◌, refl, sym, ap, ◌∙◌, ℕ, List, ◌∷◌}
use Rattle.std.proofs.lemmas.Bool.Decides.{nat_tests}
use Rattle.std.proofs.lemmas.Grind.{common_steps}
use Rattle.std.specs.Prelude.{Bool, true, false, None, Some, Ok, Err}
use Rattle.rb_trees.specs.declared.outcomes.Raised.{Raised}
use Rattle.rb_trees.specs.declared.values.Value.{Value}
use Rattle.rb_trees.specs.mirror.Forests as forest
use Rattle.rb_trees.specs.mirror.Forests.{Node, Nodes, Holds, NoEntries, MoreEntries, NoNodes, MoreNodes}
use Rattle.rb_meaning_bytes.specs.formats.ForestBytes.{count_nodes}
use Rattle.rb_meaning_code.specs.State.{Local}
use Rattle.rb_meaning_split.specs.Replay.{Seen, Replayed, fault_at, missed, on_branch, on_rows, stopped, taken}
use Rattle.rb_wire_forest.specs.CursorSteps.{Moves, closed, next_branch, next_rows, next_turn, next_value}
use Rattle.rb_wire_forest.specs.Opens.{Open, AtNode, AtRows}
use Rattle.rb_client.specs.Missed.{fault_open, missed_open, taken_open, value_or}

pub ruleset tests = (nat_tests, common_steps)

pub fault_seen_at : (step : ℕ) (n : Node) (below : List Open) → fault_open step (AtNode n ∷ below) ≡ fault_at step n
fault_seen_at step (Holds NoEntries f) below = refl
fault_seen_at step (Holds (MoreEntries e es) f) below = refl

pub missed_at : (step : ℕ) (n : Node) (below : List Open) → missed_open step (AtNode n ∷ below) ≡ missed (fault_at step n)
missed_at step n below = ap missed (fault_seen_at step n below)

-- what a step kept
pub taken_at : (step : ℕ) (n : Node) (below : List Open) → taken_open step (AtNode n ∷ below) ≡ ((taken step n).0, AtNode (taken step n).1 ∷ below)
taken_at step (Holds NoEntries f) below = refl
taken_at step (Holds (MoreEntries (forest.Value v) es) f) below = refl
taken_at step (Holds (MoreEntries (forest.Branch b n) es) f) below = refl
taken_at step (Holds (MoreEntries (forest.Rows ns) es) f) below = refl

-- The branch that stands first was opened: its node over what is left behind it.
pub record Branched (n : Node) (below : List Open) (holds : Bool) (os : List Open) : Type 0 where
  pub inner : Node
  pub rest : Node
  pub open_so : os ≡ AtNode inner ∷ AtNode rest ∷ below
  pub leads : (step : ℕ) (l : Local) (s : Seen) (go : Bool → Node → Node → Replayed) → on_branch step n l s go ≡ go holds inner rest

pub branched : (n : Node) (below : List Open) (holds : Bool) (os : List Open) → next_branch (AtNode n ∷ below) ≡ Some (holds, os) → Branched n below holds os
branched (Holds NoEntries f) below holds os e = absurd (cc e)
branched (Holds (MoreEntries (forest.Value v) es) f) below holds os e = absurd (cc e)
branched (Holds (MoreEntries (forest.Branch b n) es) f) below holds os e =
    let pair : (b, AtNode n ∷ AtNode (Holds es f) ∷ below) ≡ (holds, os) = cc e in
    record {
      inner = n;
      rest = Holds es f;
      open_so = sym (ap (λ (x : Bool × List Open). x.1) pair);
      leads = λ step l s go. ap (λ x. go x n (Holds es f)) (ap (λ (x : Bool × List Open). x.0) pair);
    }
branched (Holds (MoreEntries (forest.Rows ns) es) f) below holds os e = absurd (cc e)

pub no_branch : (n : Node) (below : List Open) → next_branch (AtNode n ∷ below) ≡ None → (step : ℕ) (l : Local) (s : Seen) (go : Bool → Node → Node → Replayed) → on_branch step n l s go ≡ stopped (missed (fault_at step n)) l s
no_branch (Holds NoEntries f) below e step l s go = refl
no_branch (Holds (MoreEntries (forest.Value v) es) f) below e step l s go = refl
no_branch (Holds (MoreEntries (forest.Branch b n) es) f) below e step l s go = absurd (cc e)
no_branch (Holds (MoreEntries (forest.Rows ns) es) f) below e step l s go = refl

-- The rows that stand first were opened: their nodes over what is left behind them.
pub record Rowed (n : Node) (below : List Open) (count : ℕ) (os : List Open) : Type 0 where
  pub nodes : Nodes
  pub rest : Node
  pub open_so : os ≡ AtRows nodes ∷ AtNode rest ∷ below
  pub count_so : count_nodes nodes ≡ count
  pub leads : (step : ℕ) (l : Local) (s : Seen) (go : Nodes → Node → Replayed) → on_rows step n l s go ≡ go nodes rest

pub rowed : (n : Node) (below : List Open) (count : ℕ) (os : List Open) → next_rows (AtNode n ∷ below) ≡ Some (count, os) → Rowed n below count os
rowed (Holds NoEntries f) below count os e = absurd (cc e)
rowed (Holds (MoreEntries (forest.Value v) es) f) below count os e = absurd (cc e)
rowed (Holds (MoreEntries (forest.Branch b n) es) f) below count os e = absurd (cc e)
rowed (Holds (MoreEntries (forest.Rows ns) es) f) below count os e =
    let pair : (count_nodes ns, AtRows ns ∷ AtNode (Holds es f) ∷ below) ≡ (count, os) = cc e in
    record {
      nodes = ns;
      rest = Holds es f;
      open_so = sym (ap (λ (x : ℕ × List Open). x.1) pair);
      count_so = ap (λ (x : ℕ × List Open). x.0) pair;
      leads = λ step l s go. refl;
    }

pub no_rows : (n : Node) (below : List Open) → next_rows (AtNode n ∷ below) ≡ None → (step : ℕ) (l : Local) (s : Seen) (go : Nodes → Node → Replayed) → on_rows step n l s go ≡ stopped (missed (fault_at step n)) l s
no_rows (Holds NoEntries f) below e step l s go = refl
no_rows (Holds (MoreEntries (forest.Value v) es) f) below e step l s go = refl
no_rows (Holds (MoreEntries (forest.Branch b n) es) f) below e step l s go = refl
no_rows (Holds (MoreEntries (forest.Rows ns) es) f) below e step l s go = absurd (cc e)

-- the innermost was closed
pub closed_to : (x outer : Open) (below os os1 : List Open) (did : Bool) → os ≡ x ∷ outer ∷ below → Moves closed os did os1 → os1 ≡ outer ∷ below
closed_to x outer below os os1 true e h = let c : closed os ≡ Some (outer ∷ below) = ap closed e in cc (c, h)
closed_to x outer below os os1 false e h = let c : closed os ≡ Some (outer ∷ below) = ap closed e in let none = h.0 in absurd (cc (c, none))

-- the next node of the innermost rows was opened
pub turned_to : (n : Node) (ns : Nodes) (below os os1 : List Open) (did : Bool) → os ≡ AtRows (MoreNodes n ns) ∷ below → Moves next_turn os did os1 → os1 ≡ AtNode n ∷ AtRows ns ∷ below
turned_to n ns below os os1 true e h = let c : next_turn os ≡ Some (AtNode n ∷ AtRows ns ∷ below) = ap next_turn e in cc (c, h)
turned_to n ns below os os1 false e h = let c : next_turn os ≡ Some (AtNode n ∷ AtRows ns ∷ below) = ap next_turn e in let none = h.0 in absurd (cc (c, none))

-- a value was read, or none was
pub took_value : (step : ℕ) (os os1 : List Open) (v : Value) → next_value os ≡ Some (v, os1) → taken_open step os ≡ (Ok v, os1)
took_value step os os1 v e = ap (value_or (missed_open step os) os) e

pub took_none : (step : ℕ) (os os1 : List Open) (r : Raised) → next_value os ≡ None → os1 ≡ os → r ≡ missed_open step os1 → taken_open step os ≡ (Err r, os1)
took_none step os os1 r e same is = ap (value_or (missed_open step os) os) e ∙ ap (λ x. (Err (missed_open step x), x)) (sym same) ∙ ap (λ x. (Err x, os1)) (sym is)
