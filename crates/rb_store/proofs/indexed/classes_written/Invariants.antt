use Rattle.std.proofs.Common.{◌≡◌, ℕ, nat_eq, map, drop}
use Rattle.std.specs.HashMap.{get}
use Rattle.rb_trees.specs.mirror.Services.{mirror_object}
use Rattle.rb_meaning_types.specs.Stores.{class_written}
use Rattle.rb_store.specs.Written.{earlier}
use Rattle.rb_store.proofs.indexed.classes_written.Given as goal

-- with the objects that are left, the classes are those of all objects
abbrev pub invariant-loop-object : goal.invariant-loop-object
invariant-loop-object l = (number : ℕ) → earlier (get nat_eq l.written number) (class_written (map mirror_object (drop l.object-index l.objects)) number) ≡ class_written (map mirror_object l.objects) number
