use Rattle.std.proofs.Common.{◌≡◌, take}
use Rattle.rb_code.specs.Places.{names_of_classes}
use Rattle.rb_code.proofs.indexes.class_names.Given as goal

abbrev pub invariant-loop-class : goal.invariant-loop-class
invariant-loop-class l = l.names ≡ names_of_classes (take l.class-index l.classes)
