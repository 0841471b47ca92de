use Rattle.std.proofs.Common.{◌≡◌, drop, map}
use Rattle.rb_trees.specs.mirror.Declarations.{mirror_class, mirror_program}
use Rattle.rb_meaning_flow.specs.Facts.{facts_of}
use Rattle.rb_marks.specs.Passes as passes
use Rattle.rb_marks.proofs.outermost.mark_classes.Given as goal

abbrev pub invariant-loop-class : goal.invariant-loop-class
invariant-loop-class l = record {
  marks : passes.classes_marked (facts_of (mirror_program l.facts)) l.notes.marks.items (map mirror_class (drop l.class-index l.classes))
      ≡ passes.classes_marked (facts_of (mirror_program l.facts)) l.fn.notes.marks.items (map mirror_class l.classes);
  places : passes.classes_placed (facts_of (mirror_program l.facts)) l.notes.places.items (map mirror_class (drop l.class-index l.classes))
      ≡ passes.classes_placed (facts_of (mirror_program l.facts)) l.fn.notes.places.items (map mirror_class l.classes);
}
