use Rattle.std.proofs.Common.{◌≡◌, drop}
use Rattle.rb_trees.specs.mirror.Code.{mirror_exprs}
use Rattle.rb_flow.specs.Views.{facts}
use Rattle.rb_flow.specs.Walked as words
use Rattle.rb_flow.proofs.parts.look_at_all.Given as goal

abbrev pub invariant-loop-e : goal.invariant-loop-e
invariant-loop-e l = words.all_looked (facts l.x) l.scope l.part (mirror_exprs (drop l.e-index l.es)) ≡ words.all_looked (facts l.x) l.scope l.fn.part (mirror_exprs l.es)
