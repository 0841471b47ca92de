use Rattle.std.proofs.Common.{◌≡◌, take}
use Rattle.rb_code.specs.Places.{methods_of_each}
use Rattle.rb_code.proofs.indexes.names_of_each.Given as goal

abbrev pub invariant-loop-class : goal.invariant-loop-class
invariant-loop-class l = l.names ≡ methods_of_each (take l.class-index l.classes)
