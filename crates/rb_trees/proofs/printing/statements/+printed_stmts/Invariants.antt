use Rattle.std.proofs.Common.{◌≡◌, ◌++◌, drop}
use Rattle.rb_trees.specs.mirror.Code.{mirror_stmts}
use Rattle.rb_trees.specs.printing.Pieces.{spelled}
use Rattle.rb_trees.specs.printing.Stmts.{stmts_pieces}
use Rattle.rb_trees.proofs.printing.statements.+printed_stmts.Given as goal

-- with the statements that are left, the text is that of all statements
abbrev pub invariant-print_stmts-loop-stmt : goal.invariant-print_stmts-loop-stmt
invariant-print_stmts-loop-stmt l =
    l.into ++ spelled (stmts_pieces l.indent (mirror_stmts (drop l.stmt-index l.stmts))) ≡ l.initial.into ++ spelled (stmts_pieces l.indent (mirror_stmts l.stmts))
