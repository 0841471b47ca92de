use Rattle.std.proofs.Common.{ap, ◌∙◌, arith}
use Rattle.std.proofs.lemmas.Bool.Decides.{nat_tests}
use Rattle.rb_meaning_bytes.specs.formats.Forests.{node, entry, entry_forms}
use Rattle.rb_wire_forest.proofs.Equations.{entry_read}
use Rattle.rb_wire_fields.specs.Stops.{fault_of, told}
use Rattle.rb_wire_fields.proofs.Tags.{no_tag}
use Rattle.rb_wire_forest.proofs.nodes.+nodes.Goals as goal

pub entry-returns-in_default : goal.entry-returns-in_default
entry-returns-in_default n c = no_tag (entry c.args.version (node c.args.version c.args.left)) (entry_forms c.args.version (node c.args.version c.args.left)) _ c.in_ok-tag.tag _ _ (entry_read c.args.version (node c.args.version c.args.left) _) c.in_ok-tag.ensures (grind (arith, nat_tests, c.in_default)) (ap fault_of c.from.ensures ∙ ap told c.bad_tag.ensures)
