-- The formats of numbers, texts and values, by the version. On the wire a value is primitive.
use Rattle.std.specs.Prelude.{ℕ, ℤ, List, [], ◌∷◌}
use Rattle.rb_trees.specs.Limits.{longest_text}
use Rattle.rb_trees.specs.declared.values.Value.{Value}
use Rattle.rb_trees.specs.declared.values.Value.TheVariants as a_value
use Rattle.rb_trees.specs.declared.versions.Version.{Version}
use Rattle.rb_trees.specs.declared.versions.Version.TheVariants.{One, Two}
use Rattle.rb_meaning_bytes.specs.formats.Fields.{Number, Wide, Truth, Text, Short, Zig, Brief}
use Rattle.rb_meaning_bytes.specs.formats.Formats.{Format, Done, ◌>>=◌, the, choose}
use Rattle.rb_meaning_bytes.specs.formats.Pools.{any_number, text_test}

-- the byte with which a message of a version begins
abbrev pub version_byte : Version → ℕ
version_byte One = 0x01
version_byte Two = 0x02

-- a number of 32 bits
unfoldable pub natural : Version → Format ℕ
natural One = the Number
natural Two = the (Short any_number)

-- a signed number of 64 bits
unfoldable pub integer : Version → Format ℤ
integer One = the Wide
integer Two = the Zig

-- a text of at most 4,096 bytes, where it stands in no pool
unfoldable pub words : Version → Format (List ℕ)
words One = the Text
words Two = the (Brief longest_text text_test)

abbrev pub int_value : Version → Format Value
int_value version = do
  z ← integer version
  Done (a_value.Int z)

abbrev pub bool_value : Format Value
bool_value = do
  b ← the Truth
  Done (a_value.Bool b)

abbrev pub text_value : Version → Format Value
text_value version = do
  bytes ← words version
  Done (a_value.Text bytes)

abbrev pub value_forms : Version → List (ℕ × Format Value)
value_forms version = (0x01, int_value version) ∷ (0x02, bool_value) ∷ (0x03, text_value version) ∷ []

unfoldable pub value : Version → Format Value
value version = choose (value_forms version)
