use Rattle.std.proofs.Common.{◌≡◌, take}
use Rattle.rb_code.proofs.copies.copy_methods.Given as goal

abbrev pub invariant-loop-method : goal.invariant-loop-method
invariant-loop-method l = l.copies ≡ take l.method-index l.methods
