use Rattle.std.proofs.Common.{◌≡◌, drop}
use Rattle.rb_trees.specs.mirror.Code.{mirror_stmts}
use Rattle.rb_types.specs.Checks.{state_of}
use Rattle.rb_types.specs.Steps.{stmts}
use Rattle.rb_types.specs.Views.{context_of}
use Rattle.rb_types.proofs.checker.Checker.+stmts.Given as goal

abbrev pub invariant-check_stmts-loop-s : goal.invariant-check_stmts-loop-s
invariant-check_stmts-loop-s l = stmts (context_of l.x) (mirror_stmts (drop l.s-index l.ss)) (state_of l.self) ≡ stmts (context_of l.x) (mirror_stmts l.ss) (state_of l.fn.self)
