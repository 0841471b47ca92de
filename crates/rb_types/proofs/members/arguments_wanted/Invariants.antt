use Rattle.std.proofs.Common.{◌≡◌, map, drop}
use Rattle.rb_trees.specs.mirror.Declarations.{mirror_param}
use Rattle.rb_meaning_types.specs.Members.{arguments_wanted}
use Rattle.rb_types.specs.Views.{placed_of}
use Rattle.rb_types.proofs.members.arguments_wanted.Given as goal

abbrev pub invariant-loop-i : goal.invariant-loop-i
invariant-loop-i l = arguments_wanted (map mirror_param (drop l.i l.params)) (map placed_of (drop l.i l.args))
    ≡ arguments_wanted (map mirror_param l.params) (map placed_of l.args)
