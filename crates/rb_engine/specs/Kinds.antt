-- Kinds of values, as the code has them.
use Rattle.rb_meaning_code.specs.Remote as meant
use Rattle.rb_trees.specs.declared.kinds.Item.{Item}
use Rattle.rb_trees.specs.declared.kinds.Item.TheVariants as item
use Rattle.rb_trees.specs.declared.kinds.CallKind.{CallKind}
use Rattle.rb_trees.specs.declared.kinds.CallKind.TheVariants as kind

abbrev pub mirror_item : Item → meant.Item
mirror_item item.Int = meant.AnInt
mirror_item item.Bool = meant.ABool
mirror_item item.Text = meant.AText
mirror_item item.Object = meant.AnObject

abbrev pub mirror_kind : CallKind → meant.Kind
mirror_kind kind.Nothing = meant.Nothing
mirror_kind (kind.One i) = meant.One (mirror_item i)
mirror_kind (kind.Rows i) = meant.Rows (mirror_item i)

-- The client sees such a value as it is.
abbrev pub StaysTheSame : meant.Item → Type 0
StaysTheSame meant.AnObject = ⊥
StaysTheSame _ = Unit {0}
