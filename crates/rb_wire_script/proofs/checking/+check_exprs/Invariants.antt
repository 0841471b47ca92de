use Rattle.std.proofs.Common.{◌≡◌, drop}
use Rattle.rb_trees.specs.mirror.Scripts.{mirror_sexprs, mirror_script}
use Rattle.rb_trees.specs.Validity.{first, inputs_of, exprs_refusals}
use Rattle.rb_wire_script.proofs.checking.+check_exprs.Given as goal

abbrev pub invariant-check_exprs-loop-expr : goal.invariant-check_exprs-loop-expr
invariant-check_exprs-loop-expr l =
    first (exprs_refusals (inputs_of (mirror_script l.script)) l.bound l.step l.depth (mirror_sexprs (drop l.expr-index l.exprs)))
    ≡ first (exprs_refusals (inputs_of (mirror_script l.script)) l.bound l.step l.depth (mirror_sexprs l.exprs))
