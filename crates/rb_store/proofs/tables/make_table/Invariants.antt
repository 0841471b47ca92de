use Rattle.std.proofs.Common.{◌≡◌, ◌++◌, ◌^◌, map, drop, length}
use Rattle.rb_trees.specs.mirror.Services.{mirror_object}
use Rattle.rb_meaning_types.specs.Stores.{table_of}
use Rattle.rb_store.specs.Referred.{ObjectsBelow}
use Rattle.rb_store.proofs.tables.make_table.Given as goal

-- with the objects that are left it is as with all objects
abbrev pub invariant-loop-object : goal.invariant-loop-object
invariant-loop-object l =
    let left = map mirror_object (drop l.object-index l.objects) in
    ObjectsBelow (2 ^ 32) left × (length l.table ≡ l.object-index) × (l.table ++ table_of left ≡ table_of (map mirror_object l.objects))
