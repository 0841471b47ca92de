use Rattle.std.proofs.Common.{◌≡◌, ◌++◌, map, drop}
use Rattle.rb_trees.specs.mirror.Declarations.{mirror_param}
use Rattle.rb_meaning_code.specs.Objects.{matched}
use Rattle.rb_engine.proofs.objects.match_values.Given as goal

abbrev pub invariant-loop-place : goal.invariant-loop-place
invariant-loop-place l =
    l.names ++ matched (map mirror_param (drop l.place l.params)) (drop l.place l.values) ≡ l.fn.names ++ matched (map mirror_param l.params) l.values
