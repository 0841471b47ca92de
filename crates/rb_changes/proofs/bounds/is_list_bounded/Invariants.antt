use Rattle.std.proofs.Common.{take}
use Rattle.rb_meaning.specs.Changes.{AreBounded}
use Rattle.rb_changes.proofs.bounds.is_list_bounded.Given as goal

abbrev pub invariant-changes : goal.invariant-changes
invariant-changes l = AreBounded (take l.change-index l.changes)
