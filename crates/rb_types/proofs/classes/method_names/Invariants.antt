use Rattle.std.proofs.Common.{◌≡◌, map, take}
use Rattle.rb_types.proofs.classes.method_names.Given as goal

abbrev pub invariant-loop-method : goal.invariant-loop-method
invariant-loop-method l = l.names ≡ map (λ m. m.signature.name) (take l.method-index l.methods)
