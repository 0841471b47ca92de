use Rattle.std.proofs.Common.{◌≡◌, drop}
use Rattle.rb_trees.specs.mirror.Code.{mirror_exprs}
use Rattle.rb_meaning_flow.specs.Portable as words
use Rattle.rb_trees.specs.mirror.Declarations.{mirror_program}
use Rattle.rb_meaning_flow.specs.Facts.{facts_of}
use Rattle.rb_marks.proofs.portable.+calls.Given as goal

abbrev pub invariant-any_holds_call-loop-e : goal.invariant-any_holds_call-loop-e
invariant-any_holds_call-loop-e l = words.any_holds_call (facts_of (mirror_program l.facts)) (mirror_exprs (drop l.e-index l.es)) ≡ words.any_holds_call (facts_of (mirror_program l.facts)) (mirror_exprs l.es)
