use Rattle.std.proofs.Common.{◌≡◌, drop, map}
use Rattle.rb_trees.specs.mirror.Declarations.{mirror_method, mirror_program}
use Rattle.rb_meaning_flow.specs.Facts.{facts_of}
use Rattle.rb_marks.specs.Passes as passes
use Rattle.rb_marks.proofs.outermost.mark_methods.Given as goal

abbrev pub invariant-loop-m : goal.invariant-loop-m
invariant-loop-m l = record {
  marks : passes.methods_marked (facts_of (mirror_program l.facts)) l.notes.marks.items (map mirror_method (drop l.m-index l.methods))
      ≡ passes.methods_marked (facts_of (mirror_program l.facts)) l.fn.notes.marks.items (map mirror_method l.methods);
  places : passes.methods_placed (facts_of (mirror_program l.facts)) l.notes.places.items (map mirror_method (drop l.m-index l.methods))
      ≡ passes.methods_placed (facts_of (mirror_program l.facts)) l.fn.notes.places.items (map mirror_method l.methods);
}
