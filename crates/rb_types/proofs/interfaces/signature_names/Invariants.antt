use Rattle.std.proofs.Common.{◌≡◌, map, take}
use Rattle.rb_types.proofs.interfaces.signature_names.Given as goal

abbrev pub invariant-loop-signature : goal.invariant-loop-signature
invariant-loop-signature l = l.names ≡ map (λ s. s.name) (take l.signature-index l.signatures)
