use Rattle.std.proofs.Common.{◌≡◌, ◌++◌, drop}
use Rattle.rb_meaning_split.specs.Division as meant
use Rattle.rb_split.specs.Views.{refs_of}
use Rattle.rb_split.proofs.division.first_refs.Given as goal

abbrev pub invariant-inputs : goal.invariant-inputs
invariant-inputs l = refs_of l.refs ++ meant.numbered l.i (drop l.i l.inputs) ≡ meant.first_refs l.root l.inputs
