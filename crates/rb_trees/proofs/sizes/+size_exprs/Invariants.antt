use Rattle.std.proofs.Common.{◌≡◌, ◌+◌, ◌<◌, ◌^◌, drop}
use Rattle.rb_trees.specs.mirror.Scripts.{mirror_sexprs}
use Rattle.rb_trees.specs.CodeSize.{exprs_size, capped}
use Rattle.rb_trees.proofs.sizes.+size_exprs.Given as goal

abbrev pub invariant-size_of_exprs-loop-expr : goal.invariant-size_of_exprs-loop-expr
invariant-size_of_exprs-loop-expr l =
    (capped (l.total + exprs_size (mirror_sexprs (drop l.expr-index l.exprs))) ≡ capped (exprs_size (mirror_sexprs l.exprs))) × (l.total < 2 ^ 64)
