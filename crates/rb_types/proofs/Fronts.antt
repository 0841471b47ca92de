-- The front of a scope.
use Rattle.std.proofs.Common.{◌≡◌, ℕ, List, map, take}
use Rattle.std.proofs.lemmas.List.{take-map}
use Rattle.rb_types.specs.declared.scope.Variable as variable
use Rattle.rb_types.specs.Views.{variable_of}

pub take_mapped : (n : ℕ) (variables : List variable.Variable) → take n (map variable_of variables) ≡ map variable_of (take n variables)
take_mapped n variables = take-map variable_of n variables
