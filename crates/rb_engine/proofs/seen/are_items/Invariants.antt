use Rattle.std.proofs.Common.{◌≡◌, drop}
use Rattle.std.specs.Prelude.{is_some}
use Rattle.rb_meaning_code.specs.Remote.{seen_items}
use Rattle.rb_engine.specs.Kinds.{mirror_item}
use Rattle.rb_engine.proofs.seen.are_items.Given as goal

abbrev pub invariant-loop-value : goal.invariant-loop-value
invariant-loop-value l =
    is_some (seen_items (mirror_item l.item) (drop l.value-index l.values)) ≡ is_some (seen_items (mirror_item l.item) l.values)
