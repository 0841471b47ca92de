-- How many items the inputs of a batch have, told one after the other.
use Rattle.std.proofs.Common.{◌≡◌, ◌≤◌, ℕ, ◌+◌, List, ◌++◌}
use Rattle.rb_meaning_bytes.specs.formats.Items.{count_items, most_items}
use Rattle.rb_meaning_code.specs.State.{Names}
use Rattle.rb_meaning_split.specs.Client.{input_values, lengths}

-- These numbers were told, these inputs are left, and there is room for so many items.
pub record Measuring (inputs left : List (List ℕ)) (names : Names) (counts : List ℕ) (room : ℕ) : Type 0 where
  pub told : lengths (input_values inputs names) ≡ counts ++ lengths (input_values left names)
  pub sum : count_items (input_values inputs names) + room ≡ most_items + count_items (input_values left names)
  pub little : room ≤ most_items
