use Rattle.std.proofs.Common.{◌≡◌, map, take}
use Rattle.rb_trees.specs.mirror.Declarations.{mirror_param}
use Rattle.rb_engine.specs.Slots.{renamed}
use Rattle.rb_engine.proofs.args.name_slots.Given as goal

abbrev pub invariant-loop-place : goal.invariant-loop-place
invariant-loop-place l = l.slots ≡ renamed (map mirror_param (take l.place l.params)) l.fn.slots
