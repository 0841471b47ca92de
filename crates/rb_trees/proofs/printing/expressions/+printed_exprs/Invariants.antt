use Rattle.std.proofs.Common.{◌≡◌, ◌++◌, cond, drop}
use Rattle.rb_trees.specs.mirror.Code.{mirror_exprs}
use Rattle.rb_trees.specs.printing.Pieces.{spelled}
use Rattle.rb_trees.specs.printing.Exprs.{args_pieces, more_args_pieces}
use Rattle.rb_trees.proofs.printing.expressions.+printed_exprs.Given as goal

-- with the arguments that are left, the text is that of all arguments
abbrev pub invariant-print_args-loop-arg : goal.invariant-print_args-loop-arg
invariant-print_args-loop-arg l =
    let left = mirror_exprs (drop l.arg-index l.args) in
    l.into ++ spelled (cond l.is_first (args_pieces left) (more_args_pieces left)) ≡ l.initial.into ++ spelled (args_pieces (mirror_exprs l.args))
