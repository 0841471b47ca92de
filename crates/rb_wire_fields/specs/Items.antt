-- The values that items are.
use Rattle.rb_trees.specs.declared.values.Value.{Value}
use Rattle.rb_trees.specs.declared.values.Value.TheVariants as values
use Rattle.rb_wire_fields.specs.declared.texts.Item.{Item}
use Rattle.rb_wire_fields.specs.declared.texts.Item.TheVariants as items

abbrev pub value_seen : Item → Value
value_seen (items.Int z) = values.Int z
value_seen (items.Bool b) = values.Bool b
value_seen (items.Text bytes) = values.Text bytes.now
