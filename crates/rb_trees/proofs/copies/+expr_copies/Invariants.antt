use Rattle.std.proofs.Common.{◌≡◌, take}
use Rattle.rb_trees.proofs.copies.+expr_copies.Given as goal

abbrev pub invariant-copy_exprs-loop-expr : goal.invariant-copy_exprs-loop-expr
invariant-copy_exprs-loop-expr l = l.copies ≡ take l.expr-index l.exprs
