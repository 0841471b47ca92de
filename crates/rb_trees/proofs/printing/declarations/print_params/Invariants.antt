use Rattle.std.proofs.Common.{◌≡◌, ◌++◌, cond, map, drop}
use Rattle.rb_trees.specs.mirror.Declarations.{mirror_param}
use Rattle.rb_trees.specs.printing.Pieces.{spelled}
use Rattle.rb_trees.specs.printing.Programs.{params_pieces, more_params_pieces}
use Rattle.rb_trees.proofs.printing.declarations.print_params.Given as goal

-- with the parameters that are left, the text is that of all parameters
abbrev pub invariant-loop-param : goal.invariant-loop-param
invariant-loop-param l =
    let left = map mirror_param (drop l.param-index l.params) in
    l.into ++ spelled (cond l.is_first (params_pieces left) (more_params_pieces left)) ≡ l.initial.into ++ spelled (params_pieces (map mirror_param l.params))
