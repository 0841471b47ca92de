-- How it is shown that a link failed, and why a reply was refused.
use Rattle.std.specs.Prelude.{ℕ, List, ◌++◌, codes}
use Rattle.std.specs.Fmt.{decimal}
use Rattle.rb_client.specs.declared.stops.BadReason.{BadReason}
use Rattle.rb_client.specs.declared.stops.BadReason.TheVariants as reasons
use Rattle.rb_wire_forest.specs.declared.fitting.Misfit.{Misfit}
use Rattle.rb_wire_forest.specs.declared.fitting.Misfit.TheVariants as misfits

-- a number and where
abbrev pub numbered_at : ℕ → ℕ → List ℕ
numbered_at number at = decimal number ++ (codes " at " ++ decimal at)

abbrev pub shown_misfit : Misfit → List ℕ
shown_misfit (misfits.At step) = codes "misfit " ++ decimal step
shown_misfit misfits.Extra = codes "misfit extra"

abbrev pub shown_reason : BadReason → List ℕ
shown_reason (reasons.Cut got) = codes "cut at " ++ decimal got
shown_reason (reasons.Frame at) = codes "frame at " ++ decimal at
shown_reason (reasons.Forest number at) = codes "forest " ++ numbered_at number at
shown_reason (reasons.Misfit misfit) = shown_misfit misfit
shown_reason (reasons.Refused number at) = codes "refused " ++ numbered_at number at
shown_reason reasons.Garbled = codes "garbled"

-- the reply after so many was refused for its reason, without a line feed
abbrev pub shown_bad_reply : ℕ → BadReason → List ℕ
shown_bad_reply done why = codes "bad reply " ++ (decimal done ++ (codes " " ++ shown_reason why))

-- the exchange after so many failed, without a line feed
abbrev pub shown_link_fault : ℕ → List ℕ
shown_link_fault k = codes "link fault " ++ decimal k
