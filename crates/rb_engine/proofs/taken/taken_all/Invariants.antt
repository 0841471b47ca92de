use Rattle.std.proofs.Common.{◌≡◌, map}
use Rattle.rb_trees.specs.mirror.Declarations.{mirror_param}
use Rattle.rb_meaning_code.specs.Remote as rules
use Rattle.rb_engine.proofs.Items.{after}
use Rattle.rb_engine.proofs.Arguments.{taken_from}
use Rattle.rb_engine.proofs.taken.taken_all.Given as goal

abbrev pub invariant-loop-place : goal.invariant-loop-place
invariant-loop-place l = after l.values (taken_from l.heap l.place l.params l.args) ≡ rules.taken_all l.heap (map mirror_param l.params) l.args
