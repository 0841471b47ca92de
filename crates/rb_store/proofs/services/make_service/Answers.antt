use Rattle.std.proofs.Common.{◌≡◌, ◌^◌, map, subst, sym}
use Rattle.rb_trees.specs.mirror.Services.{mirror_object}
use Rattle.rb_meaning_types.specs.Stores.{table_of}
use Rattle.rb_store.specs.Referred.{ObjectsBelow}
use Rattle.rb_store.proofs.Made.{below, root_below, typed}
use Rattle.rb_store.proofs.services.make_service.Goals as goal

pub make_table-requires-clause-below : goal.make_table-requires-clause-below
make_table-requires-clause-below c =
    subst (λ os. ObjectsBelow (2 ^ 32) (map mirror_object os)) (sym c.as_slice.ensures) (below c.args.text c.in_ok-check_text.ensures.gives c.requires.room)

pub service_part-requires : goal.service_part-requires
service_part-requires c = root_below c.args.text c.in_ok-check_text.ensures.gives c.requires.room

pub returns-clause-typed : goal.returns-clause-typed
returns-clause-typed c =
    typed c.args.text c.service_part.result c.in_ok-table.table c.service_part.ensures.classes c.service_part.ensures.root
    (subst (λ os. c.in_ok-table.table ≡ table_of (map mirror_object os)) c.as_slice.ensures c.in_ok-table.ensures)
    c.requires.lawful c.in_ok-check_text.ensures.gives
