use Rattle.std.proofs.Common.{◌≡◌, map, take}
use Rattle.rb_types.proofs.interfaces.Interfaces.new.Given as goal

abbrev pub invariant-loop-interface : goal.invariant-loop-interface
invariant-loop-interface l = (l.items ≡ take l.interface-index l.interfaces) × (l.names ≡ map (λ i. i.name) l.items)
