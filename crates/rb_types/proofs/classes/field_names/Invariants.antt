use Rattle.std.proofs.Common.{◌≡◌, map, take}
use Rattle.rb_types.proofs.classes.field_names.Given as goal

abbrev pub invariant-loop-field : goal.invariant-loop-field
invariant-loop-field l = l.names ≡ map (λ f. f.name) (take l.field-index l.fields)
