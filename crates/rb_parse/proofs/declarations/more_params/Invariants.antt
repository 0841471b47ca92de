use Rattle.std.proofs.Common.{◌≡◌, ◌≤◌, length}
use Rattle.rb_trees.specs.mirror.Declarations.{mirror_param}
use Rattle.rb_parse.specs.Heads.{params_on}
use Rattle.rb_parse.proofs.ItemLists.{listed_on}
use Rattle.rb_parse.proofs.DeclarationEquations.{more_params}
use Rattle.rb_parse.proofs.declarations.more_params.Given as goal

abbrev pub invariant-loop-alloc : goal.invariant-loop-alloc
invariant-loop-alloc l = record { value : params_on l.source (mirror_param l.fn.first) l.tokens ≡ listed_on more_params l.source l.list l.rest; shorter : length l.rest ≤ length l.tokens }

abbrev pub decreases-loop-alloc : goal.decreases-loop-alloc
decreases-loop-alloc l = length l.rest
