use Rattle.std.proofs.Common.{◌≡◌, take, map}
use Rattle.rb_trees.specs.mirror.Declarations.{mirror_param}
use Rattle.rb_meaning_flow.specs.Outermost as outermost
use Rattle.rb_flow.proofs.outermost.parameters.Given as goal

abbrev pub invariant-loop-param : goal.invariant-loop-param
invariant-loop-param l = l.scope ≡ outermost.parameters (map mirror_param (take l.param-index l.params))
