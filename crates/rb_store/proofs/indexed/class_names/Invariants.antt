use Rattle.std.proofs.Common.{◌≡◌, map, take}
use Rattle.rb_store.proofs.indexed.class_names.Given as goal

abbrev pub invariant-loop-class : goal.invariant-loop-class
invariant-loop-class l = l.names ≡ map (λ c. c.name) (take l.class-index l.classes)
