-- Why a program isn't admitted, as the refusal that is told.
use Rattle.std.specs.Prelude.{Option, Some, None}
use Rattle.rb_trees.specs.declared.refusals.Refusal.{Refusal}
use Rattle.rb_flow.specs.declared.admission.AdmitStop.{AdmitStop}
use Rattle.rb_flow.specs.declared.admission.AdmitStop.TheVariants as stops

abbrev pub refusal_of : AdmitStop → Option Refusal
refusal_of (stops.Refused r) = Some r
refusal_of stops.Memory = None
