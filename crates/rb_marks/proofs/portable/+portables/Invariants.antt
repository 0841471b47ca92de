use Rattle.std.proofs.Common.{◌≡◌, drop}
use Rattle.rb_trees.specs.mirror.Code.{mirror_exprs}
use Rattle.rb_meaning_flow.specs.Portable as words
use Rattle.rb_marks.specs.Views.{facts_in, seen}
use Rattle.rb_marks.proofs.portable.+portables.Given as goal

abbrev pub invariant-all_portable-loop-e : goal.invariant-all_portable-loop-e
invariant-all_portable-loop-e l = words.all_portable (facts_in l.x) (seen l.x l.scope) (mirror_exprs (drop l.e-index l.es)) ≡ words.all_portable (facts_in l.x) (seen l.x l.scope) (mirror_exprs l.es)
