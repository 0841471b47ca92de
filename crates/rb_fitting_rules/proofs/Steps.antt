-- Tests by their two truths, and what a step does to a walk.
use Rattle.std.proofs.Common.{◌≡◌, ℕ, List, [], ◌∷◌, Bool, true, false, ◌||◌, cond, Option, Some, None, Result, Ok, refl, ap, sym, ◌∙◌, subst}
use Rattle.rb_trees.specs.declared.forests.NodeFault.{NodeFault}
use Rattle.rb_trees.specs.mirror.Forests.{Node, Holds, Entries, Nodes, NoEntries, MoreEntries}
use Rattle.rb_trees.specs.mirror.Remainders.{Parts, NoParts, MoreParts}
use Rattle.rb_meaning_bytes.specs.Fits.{Walk, begun, leaves, step_of, are_left, is_left, faults_at, passed, values_read, parts_read}
use Rattle.rb_fitting_rules.specs.Heads.{chosen, faults_now, holds_anything, Loop, have_turns}
use Rattle.rb_fitting_rules.specs.Rules.{End, Whole, Stopped}

-- by the two truths of a test
pub by_truth : {A : Type 0} (b : Bool) → (b ≡ true → A) → (b ≡ false → A) → A
by_truth true hit miss = hit refl
by_truth false hit miss = miss refl

pub or_none : (b : Bool) → (b || false) ≡ b
or_none true = refl
or_none false = refl

pub or_more : (a b c : Bool) → ((a || b) || c) ≡ (a || (b || c))
or_more true b c = refl
or_more false b c = refl

pub neither : (a b : Bool) → (a || b) ≡ false → (a ≡ false) × (b ≡ false)
neither true b h = absurd (cc)
neither false b h = (refl, h)

-- whether a fault stopped the parts
abbrev pub is_stopped : End → Bool
is_stopped Whole = false
is_stopped Stopped = true

-- A walk came to its end: whether a fault stopped it, and whether something is left over.
pub record Came (r : Result Walk ℕ) (end : End) (left : Bool) : Type 0 where
  pub walk : Walk
  pub is : r ≡ Ok walk
  pub stops : walk.stopped ≡ is_stopped end
  pub over : leaves walk ≡ left

pub came_so : (r s : Result Walk ℕ) (end : End) (left : Bool) → r ≡ s → Came s end left → Came r end left
came_so r s end left e came = subst (λ t. Came t end left) (sym e) came

pub came_left : (r : Result Walk ℕ) (end : End) (left other : Bool) → left ≡ other → Came r end left → Came r end other
came_left r end left other e came = subst (λ b. Came r end b) e came

-- the node's fault at a step, as walks and as nodes tell it
pub faults_same : (step : ℕ) (es : Entries) (f : Option NodeFault) (spare : Bool) → faults_at step (begun (Holds es f) spare) ≡ faults_now step (Holds es f)
faults_same step NoEntries None spare = refl
faults_same step NoEntries (Some f) spare = refl
faults_same step (MoreEntries e es) f spare = refl

pub held_same : (es : Entries) (f : Option NodeFault) → (are_left es || is_left (step_of f)) ≡ holds_anything (Holds es f)
held_same NoEntries None = refl
held_same NoEntries (Some f) = refl
held_same (MoreEntries e es) f = refl

pub chosen_read : (lengths : List ℕ) (side : Bool) (a b : Parts) (w : Walk) → cond side (parts_read lengths a w) (parts_read lengths b w) ≡ parts_read lengths (chosen side a b) w
chosen_read lengths true a b w = refl
chosen_read lengths false a b w = refl

-- a stopped walk stays
pub rest_stays : (lengths : List ℕ) (ps : Parts) (w : Walk) → w.stopped ≡ true → parts_read lengths ps w ≡ Ok w
rest_stays lengths NoParts w e = refl
rest_stays lengths (MoreParts p ps) w e = rw e refl

pub takes_stay : (takes : List (ℕ × ℕ)) (w : Walk) → w.stopped ≡ true → values_read takes w ≡ Ok w
takes_stay [] w e = refl
takes_stay (take ∷ takes) w e = rw e refl

-- a step without an entry, at which the node's fault isn't
pub step_passed : (step : ℕ) (es : Entries) (f : Option NodeFault) (spare : Bool) → faults_now step (Holds es f) ≡ false
    → passed step (begun (Holds es f) spare) ≡ Ok (begun (Holds es f) spare)
step_passed step es f spare miss = rw (faults_same step es f spare ∙ miss) refl

-- where it is known whether the fault is at the step behind rows, there are as many turns, and the other way round
pub counts_behind : (loop : Loop) (ns : Nodes) (n : Node) (faulted : Bool) → faults_now loop.step n ≡ faulted → have_turns loop.items ns faulted ≡ true
    → have_turns loop.items ns (faults_now loop.step n) ≡ true
counts_behind loop ns n faulted same counts = ap (λ (b : Bool). have_turns loop.items ns b) same ∙ counts

pub still : (loop : Loop) (ns : Nodes) (n : Node) (faulted : Bool) → faults_now loop.step n ≡ faulted → have_turns loop.items ns (faults_now loop.step n) ≡ true
    → have_turns loop.items ns faulted ≡ true
still loop ns n faulted same counts = ap (λ (b : Bool). have_turns loop.items ns b) (sym same) ∙ counts
