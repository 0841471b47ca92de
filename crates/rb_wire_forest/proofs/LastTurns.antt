-- How many turns a list has, and whether a fault ends the last of them.
use Rattle.std.proofs.Common.{◌≡◌, ◌-◌, ◌<◌, ℕ, suc, List, [], ◌∷◌, length, get_or, refl, ap, sym, ◌∙◌, arith, Bool, false, cond, ◌&&◌, ◌||◌, nat_eq, nat_lt, not}
use Rattle.std.proofs.lemmas.Bool.Decides.{nat_tests}
use Rattle.std.proofs.lemmas.Bool.{eq-eqb, lt-ltb, le-ltb}
use Rattle.std.proofs.lemmas.Grind.{common_steps}
use Rattle.rb_trees.specs.declared.forests.Node as node
use Rattle.rb_trees.specs.declared.forests.Entry as entry
use Rattle.rb_trees.specs.mirror.Forests.{Nodes, NoNodes, MoreNodes, mirror_node, mirror_nodes, mirror_entry, mirror_entries}
use Rattle.rb_trees.proofs.mirror.Nodes.{nodes as mirrored}
use Rattle.rb_meaning_bytes.specs.Fits.{ends_early, last_ends_early, entry_ends_early, last_turn_ends_early, count_turns, is_counted}
use Rattle.rb_meaning_bytes.specs.formats.ForestBytes.{count_nodes}

pub count_same : (ns : List node.Node) → count_turns (mirror_nodes ns) ≡ length ns
count_same [] = refl
count_same (n ∷ ns) = ap suc (count_same ns)

pub last_entry : (es : List entry.Entry) (d : entry.Entry) → 0 < length es → last_ends_early (mirror_entries es) ≡ entry_ends_early (mirror_entry (get_or es (length es - 1) d))
last_entry [] d h = absurd (omega arith)
last_entry (e ∷ []) d h = refl
last_entry (e ∷ f ∷ es) d h =
    let k : length (e ∷ f ∷ es) - 1 ≡ suc (length (f ∷ es) - 1) = omega arith in
    last_entry (f ∷ es) d (omega arith) ∙ ap (λ i. entry_ends_early (mirror_entry (get_or (e ∷ f ∷ es) i d))) (sym k)

pub last_turn : (ns : List node.Node) (d : node.Node) → 0 < length ns → last_turn_ends_early (mirror_nodes ns) ≡ ends_early (mirror_node (get_or ns (length ns - 1) d))
last_turn [] d h = absurd (omega arith)
last_turn (n ∷ []) d h = refl
last_turn (n ∷ m ∷ ns) d h =
    let k : length (n ∷ m ∷ ns) - 1 ≡ suc (length (m ∷ ns) - 1) = omega arith in
    last_turn (m ∷ ns) d (omega arith) ∙ ap (λ i. ends_early (mirror_node (get_or (n ∷ m ∷ ns) i d))) (sym k)

-- as nodes of a forest are counted
pub nodes_same : (ns : Nodes) → count_turns ns ≡ count_nodes ns
nodes_same NoNodes = refl
nodes_same (MoreNodes n ns) = ap suc (nodes_same ns)

abbrev by_tests : Bool → Bool → Nodes → Bool → Bool
by_tests same fewer ns faulted = cond same (not faulted) (fewer && (faulted || last_turn_ends_early ns))

-- There are more turns than items.
pub counts_more : (items turns : ℕ) (ns : Nodes) (faulted : Bool) → count_turns ns ≡ turns → items < turns → is_counted items ns faulted ≡ false
counts_more items turns ns faulted h l =
    let differs : nat_eq (count_turns ns) items ≡ false = grind (arith, nat_tests, h, l) in
    ap (λ b. by_tests b (nat_lt (count_turns ns) items) ns faulted) differs ∙ ap (λ b. by_tests false b ns faulted) (le-ltb (count_turns ns) items (omega (arith, h, l)))

-- There are as many.
pub counts_same : (items turns : ℕ) (ns : Nodes) (faulted : Bool) → count_turns ns ≡ turns → turns ≡ items → is_counted items ns faulted ≡ not faulted
counts_same items turns ns faulted h l = ap (λ b. by_tests b (nat_lt (count_turns ns) items) ns faulted) (eq-eqb (count_turns ns) items (h ∙ l))

-- There are fewer.
pub counts_fewer : (items turns : ℕ) (ns : Nodes) (faulted : Bool) → count_turns ns ≡ turns → turns < items → is_counted items ns faulted ≡ (faulted || last_turn_ends_early ns)
counts_fewer items turns ns faulted h l =
    let differs : nat_eq (count_turns ns) items ≡ false = grind (arith, nat_tests, h, l) in
    ap (λ b. by_tests b (nat_lt (count_turns ns) items) ns faulted) differs ∙ ap (λ b. by_tests false b ns faulted) (lt-ltb (count_turns ns) items (omega (arith, h, l)))

pub ruleset nodes = (mirrored, common_steps)

pub ruleset lists = (last_entry, last_turn, common_steps)

pub ruleset counts = (count_same, nat_tests, common_steps)
