-- Misfits of the code as those of the definition.
use Rattle.std.specs.Prelude.{Option, Some}
use Rattle.rb_meaning_bytes.specs.Fits as meaning
use Rattle.rb_meaning_bytes.specs.Fits.{Unfit}
use Rattle.rb_wire_forest.specs.declared.fitting.Misfit.{Misfit}
use Rattle.rb_wire_forest.specs.declared.fitting.Misfit.TheVariants.{At, Extra}

-- There is no more to see of a node that fits.
abbrev pub nothing : Unit {0} → Unit {0}
nothing u = u

abbrev pub unfit : Misfit → Option Unfit
unfit (At step) = Some (meaning.At step)
unfit Extra = Some meaning.Extra
