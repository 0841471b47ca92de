use Rattle.std.proofs.Common.{◌≡◌, take}
use Rattle.rb_meaning.specs.Changes.{all_changed}
use Rattle.rb_changes.proofs.changes.apply_all.Given as goal

abbrev pub invariant-changes : goal.invariant-changes
invariant-changes l = l.heap ≡ all_changed (take l.change-index l.changes) l.initial.heap
