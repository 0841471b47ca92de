-- The refusals that the code reads.
use Rattle.std.specs.Prelude.{ℕ}
use Rattle.rb_trees.specs.declared.versions.Version.{Version}
use Rattle.rb_meaning_bytes.specs.formats.Messages.{Refused}
use Rattle.rb_wire_forest.specs.declared.refusals.Refusal.{Refusal}

-- a refusal of a version, with this number and this place
abbrev pub refused_with : Version → (number at : ℕ) → Refused
refused_with version number at = record { version = version; number = number; at = at }

abbrev pub seen : Refusal → Refused
seen r = refused_with r.version r.number r.at
