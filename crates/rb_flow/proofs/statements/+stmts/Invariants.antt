use Rattle.std.proofs.Common.{◌≡◌, drop, take, length}
use Rattle.rb_trees.specs.mirror.Code.{mirror_stmts}
use Rattle.rb_flow.specs.Views.{facts}
use Rattle.rb_flow.specs.Walked as words
use Rattle.rb_flow.proofs.statements.+stmts.Given as goal

abbrev pub invariant-walk_stmts-loop-s : goal.invariant-walk_stmts-loop-s
invariant-walk_stmts-loop-s l = record {
  found : words.block_walked (facts l.x) l.standing l.scope l.found (mirror_stmts (drop l.s-index l.ss)) ≡ words.block_walked (facts l.x) l.standing l.fn.scope l.fn.found (mirror_stmts l.ss);
  kept : take (length l.fn.scope) l.scope ≡ l.fn.scope;
}
