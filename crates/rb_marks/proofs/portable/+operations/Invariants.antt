use Rattle.std.proofs.Common.{◌≡◌, drop}
use Rattle.rb_trees.specs.mirror.Code.{mirror_stmts}
use Rattle.rb_meaning_flow.specs.Portable as words
use Rattle.rb_trees.specs.mirror.Declarations.{mirror_program}
use Rattle.rb_meaning_flow.specs.Facts.{facts_of}
use Rattle.rb_marks.proofs.portable.+operations.Given as goal

abbrev pub invariant-block_holds-loop-s : goal.invariant-block_holds-loop-s
invariant-block_holds-loop-s l = words.block_holds (facts_of (mirror_program l.facts)) (mirror_stmts (drop l.s-index l.ss)) ≡ words.block_holds (facts_of (mirror_program l.facts)) (mirror_stmts l.ss)
