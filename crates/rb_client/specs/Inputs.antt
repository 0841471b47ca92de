-- How many items the inputs of a batch have where it begins.
use Rattle.std.specs.Prelude.{◌≡◌, ℕ, List, Bool, true, false, nat_lt, Option, None, Some}
use Rattle.rb_meaning_bytes.specs.formats.Items.{count_items, most_items}
use Rattle.rb_meaning_code.specs.State.{Names}
use Rattle.rb_meaning_split.specs.Client.{input_values, lengths}

-- whether inputs have more items together than a request may have
abbrev pub exceed : List (List ℕ) → Names → Bool
exceed inputs names = nat_lt most_items (count_items (input_values inputs names))

-- How many items each input has was told, unless they have too many together.
abbrev pub Measures : List (List ℕ) → Names → Option (List ℕ) → Type 0
Measures inputs names None = exceed inputs names ≡ true
Measures inputs names (Some counts) = (exceed inputs names ≡ false) × (counts ≡ lengths (input_values inputs names))
