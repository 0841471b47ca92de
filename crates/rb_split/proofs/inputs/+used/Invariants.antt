use Rattle.std.proofs.Common.{◌≡◌, ◌+◌, drop, length, take}
use Rattle.rb_trees.specs.mirror.Code.{mirror_stmts}
use Rattle.rb_meaning_split.specs.Inputs as meant
use Rattle.rb_split.specs.Uses.{noted}
use Rattle.rb_split.specs.Views.{facts}
use Rattle.rb_split.proofs.Weight.{stmt_of, stmts_of}
use Rattle.rb_split.proofs.inputs.+used.Given as goal

abbrev pub invariant-note_stmts-stmts : goal.invariant-note_stmts-stmts
invariant-note_stmts-stmts l = record {
  uses : noted l.uses (meant.used_in (facts l.x) l.scope (mirror_stmts (drop l.s-index l.ss))) ≡ noted l.fn.uses (meant.used_in (facts l.x) l.fn.scope (mirror_stmts l.ss));
  kept : take (length l.fn.scope) l.scope ≡ l.fn.scope;
}

abbrev pub decreases-note_stmts : goal.decreases-note_stmts
decreases-note_stmts l = stmts_of l.ss.now + 1

abbrev pub decreases-note_block : goal.decreases-note_block
decreases-note_block l = stmts_of l.ss.now + 2

abbrev pub decreases-note_stmt : goal.decreases-note_stmt
decreases-note_stmt l = stmt_of l.s.now

abbrev pub decreases-note_turn : goal.decreases-note_turn
decreases-note_turn l = stmts_of l.turns.now.block.now + 2
