use Rattle.std.proofs.Common.{◌≡◌, drop, take, length}
use Rattle.rb_trees.specs.mirror.Code.{mirror_stmts}
use Rattle.rb_flow.specs.Views.{facts}
use Rattle.rb_flow.specs.Readings as words
use Rattle.rb_flow.proofs.reading.+stmts.Given as goal

abbrev pub invariant-read_stmts-loop-s : goal.invariant-read_stmts-loop-s
invariant-read_stmts-loop-s l = record {
  reads : words.block_read (facts l.x) l.scope l.reading (mirror_stmts (drop l.s-index l.ss)) ≡ words.block_read (facts l.x) l.fn.scope l.fn.reading (mirror_stmts l.ss);
  kept : take (length l.fn.scope) l.scope ≡ l.fn.scope;
}
