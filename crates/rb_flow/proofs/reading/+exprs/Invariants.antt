use Rattle.std.proofs.Common.{◌≡◌, drop}
use Rattle.rb_trees.specs.mirror.Code.{mirror_exprs}
use Rattle.rb_flow.specs.Views.{facts}
use Rattle.rb_flow.specs.Readings as words
use Rattle.rb_flow.proofs.reading.+exprs.Given as goal

abbrev pub invariant-read_exprs-loop-e : goal.invariant-read_exprs-loop-e
invariant-read_exprs-loop-e l = words.exprs_read (facts l.x) l.scope l.called l.reading (mirror_exprs (drop l.e-index l.es))
    ≡ words.exprs_read (facts l.x) l.scope l.called l.fn.reading (mirror_exprs l.es)
