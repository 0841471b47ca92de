use Rattle.std.proofs.Common.{take}
use Rattle.rb_meaning.specs.Changes.{AllBounded}
use Rattle.rb_changes.proofs.bounds.are_bounded.Given as goal

abbrev pub invariant-lists : goal.invariant-lists
invariant-lists l = AllBounded (take l.list-index l.lists)
