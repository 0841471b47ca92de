-- The node that a script gives has a spelling, where the script was sent: its nodes are within each other as the blocks
-- of the script, and no node has more entries than its block has steps, and one for a kept row.
use Rattle.std.proofs.Common.{◌≡◌, refl, ap, ℕ, zero, suc, ◌+◌, ◌<◌, ◌≤◌, ◌^◌, arith, List, [], eq-eqb, inl, inr}
use Rattle.std.proofs.lemmas.Bool.Decides.{nat_tests}
use Rattle.std.proofs.lemmas.Str.{IsUtf8-from_is_utf8, is_utf8-from_IsUtf8}
use Rattle.std.specs.Prelude.{Bool, true, false, nat_eq, Option, None, Some, ◌⊎◌}
use Rattle.rb_trees.specs.declared.values.Value.{Value, out-Value}
use Rattle.rb_trees.specs.declared.values.Value.TheOpen.{Value-F}
use Rattle.rb_trees.specs.declared.forests.NodeFault.{NodeFault}
use Rattle.rb_trees.specs.mirror.Scripts as script
use Rattle.rb_trees.specs.mirror.Scripts.{Step, Steps}
use Rattle.rb_trees.specs.mirror.Forests as forest
use Rattle.rb_trees.specs.mirror.Forests.{Node, Nodes, Entry, Entries}
use Rattle.rb_meaning_types.specs.Values.{IsText}
use Rattle.rb_meaning_bytes.specs.formats.Fields.{Text, Fits}
use Rattle.rb_meaning_bytes.specs.formats.Forests.{is_fault_code, thrown}
use Rattle.rb_meaning_bytes.specs.formats.ScriptBytes.{count_steps, step_weight, steps_weight}
use Rattle.rb_meaning_bytes.specs.formats.FormedScripts as formed
use Rattle.rb_meaning_bytes.specs.formats.FormedScripts.{StepWithin, StepsWithin}
use Rattle.rb_meaning_bytes.specs.formats.ForestBytes.{count_entries, count_nodes, formed_text, FormedEnd, FormedNode, FormedNodes, FormedEntry, FormedEntries}
use Rattle.rb_law_types.specs.Kept as kept
use Rattle.rb_law_types.specs.Remote.{IsFault}
use Rattle.rb_law_types.specs.Scripts as given
use Rattle.rb_law_types.specs.Scripts.{IsKept, IsEnd, IsNode, IsBranch, AreNodes, AreTurns, Then, AreNone, KeptFirst, StepGives, StepsGive}

-- values

text_fits : (text : List ℕ) → IsText text → Fits Text text
text_fits text h = (h.1, is_utf8-from_IsUtf8 text h.0)

pub primitive_fits : (v : Value-F Value) → kept.IsPrimitiveForm v → formed.primitive_form v
primitive_fits (Value-F.Int number) h = h
primitive_fits (Value-F.Bool truth) h = tt
primitive_fits (Value-F.Text text) h = text_fits text h
primitive_fits _ h = absurd h

pub fitting_primitive : (v : Value-F Value) → formed.primitive_form v → kept.IsPrimitiveForm v
fitting_primitive (Value-F.Int number) h = h
fitting_primitive (Value-F.Bool truth) h = tt
fitting_primitive (Value-F.Text text) h = (IsUtf8-from_is_utf8 text h.1, h.0)
fitting_primitive _ h = absurd h

-- ends

code_is_one : (code : ℕ) → 1 ≤ code → code ≤ 12 → is_fault_code code ≡ true
code_is_one code least most = grind (arith, nat_tests)

where_thrown : (b : Bool) (text : List ℕ) → Fits Text text → (b ≡ false → text ≡ []) → formed_text b text
where_thrown true text fits plain = fits
where_thrown false text fits plain = plain refl

only_thrown : (code : ℕ) (text : List ℕ) → (code ≡ 8) ⊎ (text ≡ []) → nat_eq code thrown ≡ false → text ≡ []
only_thrown code text (inl is) other = absurd (cc (eq-eqb code 8 is, other))
only_thrown code text (inr is) other = is

end_formed : (f : Option NodeFault) → IsEnd f → FormedEnd f
end_formed None h = tt
end_formed (Some f) h =
    let is : IsFault f.fault = h.2 in (
      h.0,
      h.1,
      code_is_one f.fault.code is.least is.most,
      where_thrown (nat_eq f.fault.code thrown) f.fault.text (text_fits f.fault.text is.text) (only_thrown f.fault.code f.fault.text is.plain),
    )

-- entries

-- They are formed, with so many nodes within each other, and at most so many.
pub record Good (n most : ℕ) (es : Entries) : Type 0 where
  pub formed : FormedEntries n es
  pub count : count_entries es ≤ most

-- All entries of which P holds are.
abbrev pub AllGood : ℕ → ℕ → (Entries → Type 0) → Type 0
AllGood n most P = (es : Entries) → P es → Good n most es

none_good : (n : ℕ) → AllGood n 0 AreNone
none_good n forest.NoEntries h = record { formed = tt; count = omega arith }
none_good n (forest.MoreEntries e es) h = absurd h

more_good : (n m most : ℕ) (P : Entries → Type 0) → m ≤ most → AllGood n m P → AllGood n most P
more_good n m most P le good es h = let r = good es h in let few = r.count in record { formed = r.formed; count = omega arith }

then_good : (n m : ℕ) (Q : Entry → Type 0) (P : Entries → Type 0) → ((e : Entry) → Q e → FormedEntry n e) → AllGood n m P → AllGood n (suc m) (Then Q P)
then_good n m Q P first good forest.NoEntries h = record { formed = tt; count = omega arith }
then_good n m Q P first good (forest.MoreEntries e es) h = let r = good es h.1 in let few = r.count in record { formed = (first e h.0, r.formed); count = omega arith }

kept_formed : (n : ℕ) (e : Entry) → IsKept e → FormedEntry n e
kept_formed n (forest.Value v) h = primitive_fits (out-Value v) h
kept_formed n (forest.Branch taken node) h = absurd h
kept_formed n (forest.Rows nodes) h = absurd h

first_good : (keep : Bool) (n m : ℕ) (P : Entries → Type 0) → AllGood n m P → AllGood n (suc m) (KeptFirst keep P)
first_good true n m P good = then_good n m IsKept P (kept_formed n) good
first_good false n m P good = more_good n m (suc m) P (omega arith) good

node_formed : (n m : ℕ) (P : Entries → Type 0) → m < 2 ^ 32 → AllGood n m P → (node : Node) → IsNode P node → FormedNode (suc n) node
node_formed n m P small good (forest.Holds es f) h = let r = good es h.0 in let few = r.count in (omega arith, r.formed, end_formed f h.1)

nodes_formed : (n m : ℕ) (P : Entries → Type 0) → m < 2 ^ 32 → AllGood n m P → (nodes : Nodes) → AreNodes P nodes → FormedNodes (suc n) nodes
nodes_formed n m P small good forest.NoNodes h = tt
nodes_formed n m P small good (forest.MoreNodes node nodes) h = (node_formed n m P small good node h.0, nodes_formed n m P small good nodes h.1)

branch_formed : (n a b : ℕ) (A B : Entries → Type 0) → a < 2 ^ 32 → b < 2 ^ 32 → AllGood n a A → AllGood n b B → (e : Entry) → IsBranch A B e → FormedEntry (suc n) e
branch_formed n a b A B few less good best (forest.Value v) h = absurd h
branch_formed n a b A B few less good best (forest.Branch true node) h = node_formed n a A few good node h
branch_formed n a b A B few less good best (forest.Branch false node) h = node_formed n b B less best node h
branch_formed n a b A B few less good best (forest.Rows nodes) h = absurd h

same_count : (nodes : Nodes) → given.count_nodes nodes ≡ count_nodes nodes
same_count forest.NoNodes = refl
same_count (forest.MoreNodes node nodes) = ap suc (same_count nodes)

turns_formed : (n m : ℕ) (P : Entries → Type 0) → m < 2 ^ 32 → AllGood n m P → (e : Entry) → AreTurns P e → FormedEntry (suc n) e
turns_formed n m P small good (forest.Value v) h = absurd h
turns_formed n m P small good (forest.Branch taken node) h = absurd h
turns_formed n m P small good (forest.Rows nodes) h =
    let same = same_count nodes in let few = h.0 in (omega arith, nodes_formed n m P small good nodes h.1)

-- the greatest number of steps of a script
abbrev pub most : ℕ
most = 16777216

step_counts : (s : Step) → 1 ≤ step_weight s
step_counts (script.Do id at e) = omega arith
step_counts (script.Keep id at e) = omega arith
step_counts (script.Let id at var keep e) = omega arith
step_counts (script.If id at e a b) = omega arith
step_counts (script.Each id at var keep e a) = omega arith
step_counts (script.Over id at var input a) = omega arith

few_steps : (ss : Steps) → count_steps ss ≤ steps_weight ss
few_steps script.NoSteps = omega arith
few_steps (script.MoreSteps s ss) = let more = few_steps ss in let one = step_counts s in omega arith

mutual
  step_good : (n : ℕ) (s : Step) → StepWithin n s → step_weight s ≤ most → (m : ℕ) (P : Entries → Type 0) → AllGood n m P → AllGood n (suc m) (StepGives s P)
  step_good n (script.Do id at e) within small m P good = more_good n m (suc m) P (omega arith) good
  step_good n (script.Keep id at e) within small m P good = then_good n m IsKept P (kept_formed n) good
  step_good n (script.Let id at var keep e) within small m P good = first_good keep n m P good
  step_good zero (script.If id at e a b) within small m P good = absurd within
  step_good (suc n) (script.If id at e a b) within small m P good =
      let few = few_steps a in
      let less = few_steps b in
      then_good (suc n) m _ P
      (branch_formed n (count_steps a + 0) (count_steps b + 0) (λ xs. StepsGive a AreNone xs) (λ xs. StepsGive b AreNone xs) (omega arith) (omega arith)
      (steps_good n a within.1 (omega arith) 0 AreNone (none_good n)) (steps_good n b within.2 (omega arith) 0 AreNone (none_good n))) good
  step_good zero (script.Each id at var keep e a) within small m P good = absurd within
  step_good (suc n) (script.Each id at var keep e a) within small m P good =
      let few = few_steps a in
      then_good (suc n) m _ P
      (turns_formed n (suc (count_steps a + 0)) (λ xs. KeptFirst keep (λ ys. StepsGive a AreNone ys) xs) (omega arith)
      (first_good keep n (count_steps a + 0) (λ ys. StepsGive a AreNone ys) (steps_good n a within.1 (omega arith) 0 AreNone (none_good n)))) good
  step_good zero (script.Over id at var input a) within small m P good = absurd within
  step_good (suc n) (script.Over id at var input a) within small m P good =
      let few = few_steps a in
      then_good (suc n) m _ P
      (turns_formed n (count_steps a + 0) (λ xs. StepsGive a AreNone xs) (omega arith) (steps_good n a within (omega arith) 0 AreNone (none_good n))) good

  pub steps_good : (n : ℕ) (ss : Steps) → StepsWithin n ss → steps_weight ss ≤ most → (m : ℕ) (P : Entries → Type 0) → AllGood n m P → AllGood n (count_steps ss + m) (StepsGive ss P)
  steps_good n script.NoSteps within small m P good = more_good n m (0 + m) P (omega arith) good
  steps_good n (script.MoreSteps s ss) within small m P good =
      more_good n (suc (count_steps ss + m)) (suc (count_steps ss) + m) _ (omega arith)
      (step_good n s within.0 (omega arith) (count_steps ss + m) (λ xs. StepsGive ss P xs) (steps_good n ss within.1 (omega arith) m P good))

-- the node of a script
pub root_formed : (ss : Steps) → StepsWithin 63 ss → steps_weight ss ≤ most → (node : Node) → IsNode (λ es. StepsGive ss AreNone es) node → FormedNode 64 node
root_formed ss within small node h =
    let few = few_steps ss in
    node_formed 63 (count_steps ss + 0) (λ es. StepsGive ss AreNone es) (omega arith) (steps_good 63 ss within small 0 AreNone (none_good 63)) node h
