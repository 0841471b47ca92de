use Rattle.std.proofs.Common.{◌≡◌, ◌++◌, map, drop}
use Rattle.rb_meaning_split.specs.Division.{mirror_split}
use Rattle.rb_shown.specs.Views.{shown_divisions}
use Rattle.rb_top.proofs.divisions.views.Given as goal

abbrev pub invariant-loop-split : goal.invariant-loop-split
invariant-loop-split l =
    l.view.items ++ shown_divisions l.places (map mirror_split (drop l.split-index l.splits)) ≡ shown_divisions l.places (map mirror_split l.splits)
