-- What the stops of reading tell.
use Rattle.std.specs.Prelude.{◌%◌, Bool, true, false, Option, None, Some}
use Rattle.rb_meaning_bytes.specs.formats.Reading.{Fault}
use Rattle.rb_wire_fields.specs.declared.groups.NoGroups.{NoGroups}
use Rattle.rb_wire_fields.specs.declared.groups.NoGroups.TheVariants.{Cut, Wrong}
use Rattle.rb_wire_fields.specs.declared.stop.Stop.{Stop}
use Rattle.rb_wire_fields.specs.declared.stop.Stop.TheVariants as stops
use Rattle.rb_wire_fields.specs.declared.stop.Violation.{Violation}

-- A violation, by how many bytes are left at its place. Its number is a byte.
abbrev pub told : Violation → Option Fault
told violation = Some (violation.number % 256, violation.left)

-- The violation that reading stopped at. Out of memory tells none.
abbrev pub fault_of : Stop → Option Fault
fault_of (stops.Refused violation) = told violation
fault_of stops.Memory = None

-- Whether bytes lack where no number in groups stands.
abbrev pub is_cut : NoGroups → Option Bool
is_cut Cut = Some true
is_cut Wrong = Some false
