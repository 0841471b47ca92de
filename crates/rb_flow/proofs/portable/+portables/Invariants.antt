use Rattle.std.proofs.Common.{◌≡◌, drop}
use Rattle.rb_trees.specs.mirror.Code.{mirror_exprs}
use Rattle.rb_meaning_flow.specs.Portable as told
use Rattle.rb_flow.specs.Views.{facts}
use Rattle.rb_flow.proofs.portable.+portables.Given as goal

abbrev pub invariant-are_portable-loop-e : goal.invariant-are_portable-loop-e
invariant-are_portable-loop-e l = told.all_portable (facts l.x) l.scope (mirror_exprs (drop l.e-index l.es)) ≡ told.all_portable (facts l.x) l.scope (mirror_exprs l.es)
