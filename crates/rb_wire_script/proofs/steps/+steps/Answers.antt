use Rattle.std.proofs.Common.{ap, ◌∙◌, arith}
use Rattle.std.proofs.lemmas.Bool.Decides.{nat_tests}
use Rattle.rb_meaning_bytes.specs.formats.Scripts.{block, step, step_forms}
use Rattle.rb_meaning_bytes.specs.formats.Staged.{at_stage}
use Rattle.rb_wire_script.proofs.Equations.{step_read, no_step}
use Rattle.rb_wire_fields.specs.Stops.{fault_of, told}
use Rattle.rb_wire_fields.proofs.Tags.{no_tag}
use Rattle.rb_wire_script.proofs.steps.+steps.Goals as goal

pub step-returns-in_default : goal.step-returns-in_default
step-returns-in_default n c =
    let pool = c.args.pool.now in
    let used = c.args.from.used in
    let inner = block pool.version pool.texts c.args.left in
    no_tag (step pool.version pool.texts inner used) (at_stage used (step_forms pool.version pool.texts inner)) _ c.in_ok-tag.tag _ _ (step_read pool.version pool.texts inner used _) c.in_ok-tag.ensures
    (no_step pool.version pool.texts inner used c.in_ok-tag.tag (grind (arith, nat_tests, c.in_default)) (grind (arith, nat_tests, c.in_default)))
    (ap fault_of c.from-in_default.ensures ∙ ap told c.bad_tag-in_default.ensures)
