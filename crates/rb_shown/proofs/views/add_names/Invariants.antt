use Rattle.std.proofs.Common.{◌≡◌, ◌++◌, drop}
use Rattle.rb_shown.specs.Views.{shown_names}
use Rattle.rb_shown.proofs.views.add_names.Given as goal

-- with the names that are left, the text is that of all names
abbrev pub invariant-loop-name : goal.invariant-loop-name
invariant-loop-name l = l.into ++ shown_names (drop l.name-index l.names) ≡ l.initial.into ++ shown_names l.names
