use Rattle.std.proofs.Common.{◌≡◌, drop, take, length}
use Rattle.rb_trees.specs.mirror.Code.{mirror_stmts}
use Rattle.rb_flow.specs.Views.{facts}
use Rattle.rb_flow.specs.Carried as words
use Rattle.rb_flow.proofs.loops.+stmts.Given as goal

abbrev pub invariant-note_stmts-loop-s : goal.invariant-note_stmts-loop-s
invariant-note_stmts-loop-s l = record {
  loops : words.block_noted (facts l.x) l.scope l.loops (mirror_stmts (drop l.s-index l.ss)) ≡ words.block_noted (facts l.x) l.fn.scope l.fn.loops (mirror_stmts l.ss);
  kept : take (length l.fn.scope) l.scope ≡ l.fn.scope;
}
