-- JSON values are numbered from 0: a value before its parts, the members of an object in the order of their keys.
use Rattle.std.specs.Prelude.{ℕ, suc, ◌+◌, List, Option, None, Some}
use Rattle.serde_json.specs.Data.{Data, null, boolean, number, string, array, object, Items, no_items, item, Members, no_members, member}

-- how many values a value is: itself, and its parts
abbrev mutual
  pub count : Data → ℕ
  count null = 1
  count (boolean b) = 1
  count (number n) = 1
  count (string s) = 1
  count (array ds) = suc (count_items ds)
  count (object ms) = suc (count_members ms)

  pub count_items : Items → ℕ
  count_items no_items = 0
  count_items (item d ds) = count d + count_items ds

  pub count_members : Members → ℕ
  count_members no_members = 0
  count_members (member k d ms) = count d + count_members ms

-- how many items an array has
abbrev pub items_number : Items → ℕ
items_number no_items = 0
items_number (item d ds) = suc (items_number ds)

-- how many members an object has
abbrev pub members_number : Members → ℕ
members_number no_members = 0
members_number (member k d ms) = suc (members_number ms)

-- the word with which an array begins, and the parts behind it
abbrev pub worded : Data → Option (List ℕ × Items)
worded (array (item (string word) ds)) = Some (word, ds)
worded _ = None
