use Rattle.std.proofs.Common.{◌≡◌, ◌++◌, drop}
use Rattle.rb_trees.specs.mirror.Code.{mirror_stmts}
use Rattle.rb_meaning_flow.specs.Scopes.{assigned_in}
use Rattle.rb_marks.proofs.batch.+assignments.Given as goal

abbrev pub invariant-note_all_assigned-loop-s : goal.invariant-note_all_assigned-loop-s
invariant-note_all_assigned-loop-s l = l.names ++ assigned_in (mirror_stmts (drop l.s-index l.ss)) ≡ l.fn.names ++ assigned_in (mirror_stmts l.ss)
