use Rattle.std.proofs.Common.{◌≡◌, ◌+◌, drop, length, take}
use Rattle.rb_trees.specs.mirror.Code.{mirror_stmts}
use Rattle.rb_trees.specs.mirror.Declarations.{mirror_program}
use Rattle.rb_split.specs.Drafts as words
use Rattle.rb_split.specs.Views.{refs_of}
use Rattle.rb_split.proofs.Weight.{stmt_of, stmts_of}
use Rattle.rb_split.proofs.walk.+walking.Given as goal

abbrev pub invariant-draft_all-stmts : goal.invariant-draft_all-stmts
invariant-draft_all-stmts l = record {
  drafted : words.block_drafted (mirror_program l.x) (refs_of l.refs) l.scope (words.drafted l.draft) (mirror_stmts (drop l.s-index l.ss))
      ≡ words.block_drafted (mirror_program l.x) (refs_of l.fn.refs) l.fn.scope (words.drafted l.fn.draft) (mirror_stmts l.ss);
  scope : take (length l.fn.scope) l.scope ≡ l.fn.scope;
  refs : take (length l.fn.refs) l.refs ≡ l.fn.refs;
}

abbrev pub decreases-draft_all : goal.decreases-draft_all
decreases-draft_all l = stmts_of l.ss.now + 1

abbrev pub decreases-draft_block : goal.decreases-draft_block
decreases-draft_block l = stmts_of l.ss.now + 2

abbrev pub decreases-draft_stmt : goal.decreases-draft_stmt
decreases-draft_stmt l = stmt_of l.s.now

abbrev pub decreases-draft_turn : goal.decreases-draft_turn
decreases-draft_turn l = stmts_of l.turns.now.block.now + 2
