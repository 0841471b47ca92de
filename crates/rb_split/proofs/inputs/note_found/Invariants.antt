use Rattle.std.proofs.Common.{◌≡◌, drop}
use Rattle.std.specs.List.{flat_map}
use Rattle.rb_meaning_split.specs.Inputs as meant
use Rattle.rb_split.specs.Uses.{noted}
use Rattle.rb_split.specs.Views.{trees}
use Rattle.rb_split.proofs.inputs.note_found.Given as goal

abbrev pub invariant-found : goal.invariant-found
invariant-found l =
    noted l.uses (flat_map (meant.constants l.scope) (trees (drop l.e-index l.found))) ≡ noted l.fn.uses (flat_map (meant.constants l.scope) (trees l.found))
