-- The kinds of what remote calls give, and the numbers that stand for them in scripts, remainders and payloads.
use Rattle.std.specs.Prelude.{ℕ, ◌+◌, List, [], ◌∷◌}
use Rattle.rb_trees.specs.declared.kinds.Item.{Item}
use Rattle.rb_trees.specs.declared.kinds.Item.TheVariants as item
use Rattle.rb_trees.specs.declared.kinds.CallKind.{CallKind}
use Rattle.rb_trees.specs.declared.kinds.CallKind.TheVariants as kind

-- the kinds in the order of their numbers, from 0
abbrev pub kinds : List CallKind
kinds =
    kind.Nothing ∷ kind.One item.Int ∷ kind.One item.Bool ∷ kind.One item.Text ∷ kind.One item.Object
    ∷ kind.Rows item.Int ∷ kind.Rows item.Bool ∷ kind.Rows item.Text ∷ kind.Rows item.Object ∷ []

-- the number of a single value's kind
abbrev pub item_number : Item → ℕ
item_number item.Int = 1
item_number item.Bool = 2
item_number item.Text = 3
item_number item.Object = 4

abbrev pub kind_number : CallKind → ℕ
kind_number kind.Nothing = 0
kind_number (kind.One i) = item_number i
kind_number (kind.Rows i) = item_number i + 4
