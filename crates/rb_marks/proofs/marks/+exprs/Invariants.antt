use Rattle.std.proofs.Common.{◌≡◌, drop}
use Rattle.rb_trees.specs.mirror.Code.{mirror_exprs}
use Rattle.rb_marks.specs.Views.{facts_in, seen}
use Rattle.rb_marks.specs.Passes as passes
use Rattle.rb_marks.proofs.marks.+exprs.Given as goal

abbrev pub invariant-mark_exprs-loop-e : goal.invariant-mark_exprs-loop-e
invariant-mark_exprs-loop-e l = passes.all_marked (facts_in l.x) (seen l.x l.scope) l.inside l.notes.items (mirror_exprs (drop l.e-index l.es))
    ≡ passes.all_marked (facts_in l.x) (seen l.x l.scope) l.inside l.fn.notes.items (mirror_exprs l.es)
