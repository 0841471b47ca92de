-- What the mirror of a node and of each form of an entry is.
use Rattle.std.proofs.Common.{◌≡◌, List, [], ◌∷◌, Bool, map, ap, sym, ◌∙◌, refl}
use Rattle.rb_trees.specs.declared.values.Value as value
use Rattle.rb_trees.specs.declared.forests.Node as node
use Rattle.rb_trees.specs.declared.forests.Entry as entry
use Rattle.rb_trees.specs.declared.forests.Entry.TheVariants as form
use Rattle.rb_trees.specs.declared.forests.Entry.TheOpen.{Entry-F}
use Rattle.rb_trees.specs.declared.forests.Entry.TheFolds.{fold-Node, fold-Entry, fold_out-Node, fold-roll-Entry}
use Rattle.rb_trees.specs.mirror.Forests.{Node, Holds, Entry, Value, Branch, Rows, MoreEntries, MoreNodes, entries_from, nodes_from, entry_step, node_step, mirror_node, mirror_entry, mirror_entries, mirror_nodes}

pub entries_lists : (es : List entry.Entry) → entries_from (map (fold-Entry Entry Node entry_step node_step) es) ≡ mirror_entries es
unfolding mirror_entry
entries_lists [] = refl
entries_lists (e ∷ es) = ap (MoreEntries (mirror_entry e)) (entries_lists es)

pub nodes_lists : (ns : List node.Node) → nodes_from (map (fold-Node Entry Node entry_step node_step) ns) ≡ mirror_nodes ns
unfolding mirror_node
nodes_lists [] = refl
nodes_lists (n ∷ ns) = ap (MoreNodes (mirror_node n)) (nodes_lists ns)

pub at_Node : (n : node.Node) → mirror_node n ≡ Holds (mirror_entries n.entries) n.fault
unfolding mirror_node
at_Node n = fold_out-Node Entry Node entry_step node_step n ∙ ap (λ x. Holds x n.fault) (entries_lists n.entries)

pub form_Value : (v : value.Value) → mirror_entry (form.Value v) ≡ Value v
unfolding mirror_entry
form_Value v = ap mirror_entry (sym (form.rolls-Value v)) ∙ fold-roll-Entry Entry Node entry_step node_step (Entry-F.Value v)

pub form_Branch : (taken : Bool) (n : node.Node) → mirror_entry (form.Branch taken n) ≡ Branch taken (mirror_node n)
unfolding mirror_entry mirror_node
form_Branch taken n = ap mirror_entry (sym (form.rolls-Branch taken n)) ∙ fold-roll-Entry Entry Node entry_step node_step (Entry-F.Branch taken n)

pub form_Rows : (ns : List node.Node) → mirror_entry (form.Rows ns) ≡ Rows (mirror_nodes ns)
unfolding mirror_entry
form_Rows ns = ap mirror_entry (sym (form.rolls-Rows ns)) ∙ fold-roll-Entry Entry Node entry_step node_step (Entry-F.Rows ns) ∙ ap Rows (nodes_lists ns)

pub ruleset nodes = (at_Node, form_Value, form_Branch, form_Rows)
