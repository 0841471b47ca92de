-- The format of refusals, by the version: the number of what is refused, and its place.
use Rattle.std.specs.Prelude.{ℕ, [], ◌∷◌, Bool, nat_eq, nat_lt, nat_le, ◌&&◌, ◌||◌}
use Rattle.rb_trees.specs.declared.versions.Version.{Version}
use Rattle.rb_trees.specs.declared.versions.Version.TheVariants.{One, Two}
use Rattle.rb_meaning_bytes.specs.formats.Fields.{Tag}
use Rattle.rb_meaning_bytes.specs.formats.Messages.{Refused}
use Rattle.rb_meaning_bytes.specs.formats.Formats.{Format, Done, ◌>>=◌, the, choose}
use Rattle.rb_meaning_bytes.specs.formats.Values.{natural}

-- From 1 on where the bytes violate the format, from 11 on where they spell a script that isn't valid.
abbrev pub is_refusal_number : Version → ℕ → Bool
is_refusal_number One n = (nat_lt 0 n && nat_le n 6) || (nat_lt 10 n && nat_le n 13)
is_refusal_number Two n = (nat_lt 0 n && nat_le n 8) || (nat_lt 10 n && nat_le n 13) || nat_eq n 15

abbrev pub refusal : Version → Format Refused
refusal version = do
  number ← the (Tag (λ n. is_refusal_number version n))
  at ← natural version
  Done (record { version = version; number = number; at = at })

unfoldable pub refusal_message : Format Refused
refusal_message = choose ((0x01, refusal One) ∷ (0x02, refusal Two) ∷ [])
