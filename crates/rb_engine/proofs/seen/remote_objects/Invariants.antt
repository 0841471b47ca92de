use Rattle.std.proofs.Common.{◌≡◌, drop}
use Rattle.rb_meaning_code.specs.Remote.{AnObject, seen_items}
use Rattle.rb_engine.proofs.Items.{after}
use Rattle.rb_engine.proofs.seen.remote_objects.Given as goal

abbrev pub invariant-loop-value : goal.invariant-loop-value
invariant-loop-value l = after l.objects (seen_items AnObject (drop l.value-index l.values)) ≡ seen_items AnObject l.values
