use Rattle.std.proofs.Common.{◌≡◌, ◌+◌, max}
use Rattle.rb_plain.proofs.Stepped.{StmtsOn, TurnsOn}
use Rattle.rb_plain.proofs.Weight.{stmt_of, stmts_of}
use Rattle.rb_plain.proofs.walk.+walking.Given as goal

abbrev pub decreases-perform_all : goal.decreases-perform_all
decreases-perform_all l = stmts_of l.stmts.now + 1

abbrev pub decreases-perform_block : goal.decreases-perform_block
decreases-perform_block l = stmts_of l.stmts.now + 2

abbrev pub decreases-perform_stmt : goal.decreases-perform_stmt
decreases-perform_stmt l = stmt_of l.stmt.now

abbrev pub decreases-perform_branch : goal.decreases-perform_branch
decreases-perform_branch l = max (stmts_of l.branch.now.yes.now) (stmts_of l.branch.now.no.now) + 3

abbrev pub decreases-perform_rows : goal.decreases-perform_rows
decreases-perform_rows l = stmts_of l.turns.now.block.now + 4

abbrev pub decreases-perform_items : goal.decreases-perform_items
decreases-perform_items l = stmts_of l.turns.now.block.now + 4

abbrev pub decreases-perform_turns : goal.decreases-perform_turns
decreases-perform_turns l = stmts_of l.turns.now.block.now + 3

abbrev pub decreases-perform_turn : goal.decreases-perform_turn
decreases-perform_turn l = stmts_of l.turns.now.block.now + 2

abbrev pub invariant-perform_all-stmts : goal.invariant-perform_all-stmts
invariant-perform_all-stmts l = StmtsOn l.stmts l.fn.scope l.fn.frame l.fn.world l.stmt-index l.scope l.frame l.world

abbrev pub invariant-perform_turns-rows : goal.invariant-perform_turns-rows
invariant-perform_turns-rows l = record {
  frame : l.frame ≡ l.fn.frame;
  scope : l.scope ≡ l.fn.scope;
  turns : TurnsOn l.fn.scope l.turns l.fn.frame l.rows l.fn.world l.row-index l.world;
}
