use Rattle.std.proofs.Common.{◌≡◌, take}
use Rattle.rb_code.specs.Places.{names_of_methods}
use Rattle.rb_code.proofs.indexes.method_names.Given as goal

abbrev pub invariant-loop-method : goal.invariant-loop-method
invariant-loop-method l = l.names ≡ names_of_methods (take l.method-index l.methods)
