-- The value of an operand, whether it is lent or was made.
use Rattle.rb_trees.specs.declared.values.Value.{Value}
use Rattle.rb_engine.specs.declared.operand.Held.{Held}
use Rattle.rb_engine.specs.declared.operand.Held.TheVariants as held

abbrev pub held_value : Held → Value
held_value (held.Lent value) = value.now
held_value (held.Made value) = value
