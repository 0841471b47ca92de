use Rattle.std.proofs.Common.{◌≡◌, map, drop}
use Rattle.rb_meaning_types.specs.Kinds.{kind_of_form}
use Rattle.rb_meaning_types.specs.Expressions.{all_wanted}
use Rattle.rb_types.specs.Views.{placed_of}
use Rattle.rb_types.proofs.expressions.all_wanted.Given as goal

abbrev pub invariant-loop-item : goal.invariant-loop-item
invariant-loop-item l = all_wanted (kind_of_form l.kind) (map placed_of (drop l.item-index l.items)) ≡ all_wanted (kind_of_form l.kind) (map placed_of l.items)
