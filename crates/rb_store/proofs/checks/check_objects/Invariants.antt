use Rattle.std.proofs.Common.{◌≡◌, map, drop}
use Rattle.rb_trees.specs.mirror.Services.{mirror_object, mirror_service_text}
use Rattle.rb_meaning_types.specs.Stores.{check_objects}
use Rattle.rb_store.proofs.checks.check_objects.Given as goal

-- with the objects that are left it is as with all objects
abbrev pub invariant-loop-object : goal.invariant-loop-object
invariant-loop-object l =
    (l.place ≡ l.object-index)
    × (check_objects (mirror_service_text l.text) l.place (map mirror_object (drop l.object-index l.objects)) ≡ check_objects (mirror_service_text l.text) 0 (map mirror_object l.objects))
