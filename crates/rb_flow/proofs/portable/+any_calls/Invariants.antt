use Rattle.std.proofs.Common.{◌≡◌, drop}
use Rattle.rb_trees.specs.mirror.Code.{mirror_exprs}
use Rattle.rb_meaning_flow.specs.Refusals as told
use Rattle.rb_flow.proofs.portable.+any_calls.Given as goal

abbrev pub invariant-any_has_call-loop-e : goal.invariant-any_has_call-loop-e
invariant-any_has_call-loop-e l = told.any_has_call (mirror_exprs (drop l.e-index l.es)) ≡ told.any_has_call (mirror_exprs l.es)
