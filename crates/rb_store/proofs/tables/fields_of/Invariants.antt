use Rattle.std.proofs.Common.{◌≡◌, ◌++◌, ◌^◌, drop}
use Rattle.rb_meaning_types.specs.Stores as stores
use Rattle.rb_store.specs.Referred.{FieldsBelow}
use Rattle.rb_store.specs.Views.{written_fields}
use Rattle.rb_store.proofs.tables.fields_of.Given as goal

-- with the fields that are left it is as with all fields
abbrev pub invariant-loop-field : goal.invariant-loop-field
invariant-loop-field l =
    let left = written_fields (drop l.field-index l.fields) in
    FieldsBelow (2 ^ 32) left × (l.values ++ stores.fields_of left ≡ stores.fields_of (written_fields l.fields))
