use Rattle.std.proofs.Common.{◌≡◌, ◌++◌, drop}
use Rattle.std.specs.List.{zip}
use Rattle.rb_meaning.specs.Shown.{shown_fields}
use Rattle.rb_shown.proofs.objects.add_fields.Given as goal

-- with the fields that are left, the text is that of all fields
abbrev pub invariant-loop-place : goal.invariant-loop-place
invariant-loop-place l =
    l.into ++ shown_fields (zip (drop l.place l.names) (drop l.place l.values)) ≡ l.initial.into ++ shown_fields (zip l.names l.values)
