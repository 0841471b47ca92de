use Rattle.std.proofs.Common.{ap, ◌∙◌, arith, ◌-◌}
use Rattle.std.proofs.lemmas.Bool.Decides.{nat_tests}
use Rattle.rb_meaning_bytes.specs.formats.Scripts.{expr, expr_forms}
use Rattle.rb_meaning_bytes.specs.formats.Staged.{at_stage}
use Rattle.rb_wire_script.proofs.Equations.{expr_read}
use Rattle.rb_wire_fields.specs.Stops.{fault_of, told}
use Rattle.rb_wire_fields.proofs.Tags.{no_tag}
use Rattle.rb_wire_script.proofs.exprs.+exprs.Goals as goal

pub expr-returns-in_default : goal.expr-returns-in_default
expr-returns-in_default n c =
    let pool = c.args.pool.now in
    no_tag (expr pool.version pool.texts c.args.left c.args.from.used) (at_stage c.args.from.used (expr_forms pool.version pool.texts (expr pool.version pool.texts (c.args.left - 1))))
    _ c.in_ok-tag.tag _ _ (expr_read pool.version pool.texts c.args.left c.args.from.used _ (omega arith)) c.in_ok-tag.ensures (grind (arith, nat_tests, c.in_default)) (ap fault_of c.from-in_default.ensures ∙ ap told c.bad_tag.ensures)
