-- What a buffer holds while the parts of a forest are put behind it.
use Rattle.std.proofs.Common.{◌≡◌, suc, List, [], ◌∷◌, length, refl, ap, append_assoc}
use Rattle.std.proofs.lemmas.Grind.{common_steps}
use Rattle.rb_trees.specs.declared.forests.Node as rust_node
use Rattle.rb_trees.specs.declared.forests.Entry as rust_entry
use Rattle.rb_trees.specs.mirror.Forests.{mirror_entries, mirror_nodes}
use Rattle.rb_trees.proofs.mirror.Nodes.{nodes as mirrored}
use Rattle.rb_meaning_bytes.specs.formats.ForestBytes.{count_entries, count_nodes}
use Rattle.rb_wire_fields.proofs.Kept.{keeps_same, keeps_after}

pub counted_entries : (es : List rust_entry.Entry) → count_entries (mirror_entries es) ≡ length es
counted_entries [] = refl
counted_entries (e ∷ es) = ap suc (counted_entries es)

pub counted_nodes : (ns : List rust_node.Node) → count_nodes (mirror_nodes ns) ≡ length ns
counted_nodes [] = refl
counted_nodes (n ∷ ns) = ap suc (counted_nodes ns)

pub ruleset nodes = (keeps_same, keeps_after, mirrored, counted_entries, counted_nodes, append_assoc, common_steps)
