use Rattle.std.proofs.Common.{ap, arith}
use Rattle.std.proofs.lemmas.Bool.Decides.{nat_tests}
use Rattle.rb_meaning_bytes.specs.formats.Scripts.{binary_op, binary_ops}
use Rattle.rb_wire_script.proofs.Equations.{binary_read}
use Rattle.rb_wire_fields.specs.Stops.{told}
use Rattle.rb_wire_fields.proofs.Tags.{no_tag}
use Rattle.rb_wire_script.proofs.operators.binary_op.Goals as goal

pub returns-in_default : goal.returns-in_default
returns-in_default c = no_tag binary_op binary_ops _ c.in_ok-op.op _ _ (binary_read _) c.in_ok-op.ensures (grind (arith, nat_tests, c.in_default)) (ap told c.bad_tag.ensures)
