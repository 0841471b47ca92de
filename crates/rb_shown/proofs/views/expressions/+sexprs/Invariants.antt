use Rattle.std.proofs.Common.{◌≡◌, ◌++◌, cond, drop}
use Rattle.rb_trees.specs.mirror.Scripts.{mirror_sexprs}
use Rattle.rb_shown.specs.Views.{shown_args, more_shown_args}
use Rattle.rb_shown.proofs.views.expressions.+sexprs.Given as goal

-- with the arguments that are left, the text is that of all arguments
abbrev pub invariant-add_args-loop-arg : goal.invariant-add_args-loop-arg
invariant-add_args-loop-arg l =
    let left = mirror_sexprs (drop l.arg-index l.args) in
    l.into ++ cond l.is_first (shown_args left) (more_shown_args left) ≡ l.initial.into ++ shown_args (mirror_sexprs l.args)
