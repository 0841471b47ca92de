use Rattle.std.proofs.Common.{◌≡◌, drop, take, length}
use Rattle.rb_trees.specs.mirror.Code.{mirror_stmts}
use Rattle.rb_trees.specs.mirror.Declarations.{mirror_program}
use Rattle.rb_meaning_flow.specs.Facts.{facts_of}
use Rattle.rb_marks.specs.Passes as passes
use Rattle.rb_marks.proofs.outermost.+outer_marks.Given as goal

abbrev pub invariant-mark_outer_stmts-loop-s : goal.invariant-mark_outer_stmts-loop-s
invariant-mark_outer_stmts-loop-s l = record {
  marks : passes.outer_block_marked (facts_of (mirror_program l.facts)) l.scope l.notes.marks.items (mirror_stmts (drop l.s-index l.ss))
      ≡ passes.outer_block_marked (facts_of (mirror_program l.facts)) l.fn.scope l.fn.notes.marks.items (mirror_stmts l.ss);
  places : passes.outer_block_placed (facts_of (mirror_program l.facts)) l.scope l.notes.places.items (mirror_stmts (drop l.s-index l.ss))
      ≡ passes.outer_block_placed (facts_of (mirror_program l.facts)) l.fn.scope l.fn.notes.places.items (mirror_stmts l.ss);
  kept : take (length l.fn.scope) l.scope ≡ l.fn.scope;
}
