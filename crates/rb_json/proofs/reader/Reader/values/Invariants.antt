use Rattle.std.proofs.Common.{◌≡◌, ◌+◌, drop, length}
use Rattle.serde_json.specs.View.{items_view}
use Rattle.rb_json.specs.Counts.{count_items}
use Rattle.rb_json.specs.Values.{values_in}
use Rattle.rb_json.proofs.Looks.{onto}
use Rattle.rb_json.proofs.reader.Reader.values.Given as goal

-- behind the values that were read comes what the rest gives
abbrev pub invariant-loop-item : goal.invariant-loop-item
invariant-loop-item l =
    (onto l.values (values_in l.self.place (items_view (drop l.item-index l.items))) ≡ values_in l.initial.self.place (items_view l.items))
    × (l.self.place + count_items (items_view (drop l.item-index l.items)) ≡ l.initial.self.place + count_items (items_view l.items))
    × (length l.values ≡ l.item-index)
