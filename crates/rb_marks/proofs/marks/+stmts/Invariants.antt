use Rattle.std.proofs.Common.{◌≡◌, drop, take, length}
use Rattle.rb_trees.specs.mirror.Code.{mirror_stmts}
use Rattle.rb_marks.specs.Views.{facts_in}
use Rattle.rb_marks.specs.Passes as passes
use Rattle.rb_marks.proofs.marks.+stmts.Given as goal

abbrev pub invariant-mark_stmts-loop-s : goal.invariant-mark_stmts-loop-s
invariant-mark_stmts-loop-s l = record {
  marks : passes.block_marked (facts_in l.x) l.x.assigned l.script l.scope l.notes.marks.items (mirror_stmts (drop l.s-index l.ss))
      ≡ passes.block_marked (facts_in l.x) l.x.assigned l.script l.fn.scope l.fn.notes.marks.items (mirror_stmts l.ss);
  places : passes.block_placed (facts_in l.x) l.x.assigned l.script l.scope l.notes.places.items (mirror_stmts (drop l.s-index l.ss))
      ≡ passes.block_placed (facts_in l.x) l.x.assigned l.script l.fn.scope l.fn.notes.places.items (mirror_stmts l.ss);
  kept : take (length l.fn.scope) l.scope ≡ l.fn.scope;
}
