use Rattle.std.proofs.Common.{◌≡◌, drop}
use Rattle.rb_trees.specs.mirror.Code.{mirror_exprs}
use Rattle.rb_flow.specs.Views.{facts}
use Rattle.rb_flow.specs.Walked as words
use Rattle.rb_flow.proofs.walk.+exprs.Given as goal

abbrev pub invariant-walk_exprs-loop-e : goal.invariant-walk_exprs-loop-e
invariant-walk_exprs-loop-e l = words.exprs_walked (facts l.x) l.scope l.around l.inside l.found (mirror_exprs (drop l.e-index l.es))
    ≡ words.exprs_walked (facts l.x) l.scope l.around l.inside l.fn.found (mirror_exprs l.es)
