use Rattle.std.proofs.Common.{◌≡◌, ◌≤◌, ◌+◌, drop, length}
use Rattle.rb_meaning_bytes.specs.formats.Items.{most_items}
use Rattle.serde_json.specs.View.{items_view}
use Rattle.rb_json.specs.Counts.{count_items}
use Rattle.rb_json.specs.Values.{inputs_in}
use Rattle.rb_json.proofs.Looks.{onto}
use Rattle.rb_json.proofs.reader.Reader.input_values.Given as goal

-- behind the values that were read comes what the rest gives
abbrev pub invariant-loop-item : goal.invariant-loop-item
invariant-loop-item l =
    (onto l.values (inputs_in l.self.place l.used (items_view (drop l.item-index l.items))) ≡ inputs_in l.initial.self.place 0 (items_view l.items))
    × (l.self.place + count_items (items_view (drop l.item-index l.items)) ≡ l.initial.self.place + count_items (items_view l.items))
    × (l.used ≤ most_items)
    × (length l.values ≡ l.item-index)
