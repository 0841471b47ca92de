-- The version of the wire that the bytes of a forest or of a refusal begin with.
use Rattle.std.specs.Prelude.{◌+◌, ℕ, List, cond, nat_eq, length, Ok, Err}
use Rattle.rb_trees.specs.declared.versions.Version.{Version}
use Rattle.rb_trees.specs.declared.versions.Version.TheVariants.{One, Two}
use Rattle.rb_meaning_bytes.specs.formats.Fields.{Byte, bad_tag}
use Rattle.rb_meaning_bytes.specs.formats.Reading.{Read, look, on}

abbrev pub and_rest : Version → List ℕ → Read Version
and_rest version rest = Ok (version, rest)

-- by the first byte, with these bytes after it
abbrev pub version_by : ℕ → List ℕ → Read Version
version_by b rest = cond (nat_eq b 0x01) (and_rest One rest) (cond (nat_eq b 0x02) (and_rest Two rest) (Err (bad_tag, length rest + 1)))

-- the version, and the bytes after it
unfoldable pub version_at : List ℕ → Read Version
version_at bytes = on (look Byte bytes) (λ b rest. version_by b rest)
