use Rattle.std.proofs.Common.{◌≡◌, map, take}
use Rattle.rb_types.proofs.classes.Classes.new.Given as goal

abbrev pub invariant-loop-class : goal.invariant-loop-class
invariant-loop-class l = (l.items ≡ take l.class-index l.classes) × (l.names ≡ map (λ c. c.name) l.items)
