use Rattle.std.proofs.Common.{◌≡◌, take}
use Rattle.rb_trees.proofs.copies.+stmt_copies.Given as goal

abbrev pub invariant-copy_stmts-loop-stmt : goal.invariant-copy_stmts-loop-stmt
invariant-copy_stmts-loop-stmt l = l.copies ≡ take l.stmt-index l.stmts
