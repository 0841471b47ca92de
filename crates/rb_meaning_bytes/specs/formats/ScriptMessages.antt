-- The format of a message that holds a script: in version 2 a pool of texts, then the values of inputs, then the code.
use Rattle.std.specs.Prelude.{ℕ, zero, suc, ◌^◌, List, [], ◌∷◌, ◌++◌}
use Rattle.rb_trees.specs.declared.versions.Version.{Version}
use Rattle.rb_trees.specs.declared.versions.Version.TheVariants.{One, Two}
use Rattle.rb_meaning_bytes.specs.formats.Fields.{Byte, Short, Brief, Check}
use Rattle.rb_meaning_bytes.specs.formats.Formats.{Format, Done, ◌>>=◌, the, choose}
use Rattle.rb_meaning_bytes.specs.formats.Items.{list_numbers}
use Rattle.rb_meaning_bytes.specs.formats.Messages.{Sent}
use Rattle.rb_meaning_bytes.specs.formats.Pools.{any_number, new_text_test, unused}
use Rattle.rb_meaning_bytes.specs.formats.Scripts.{values_and_code}

-- so many texts of a pool behind earlier ones
unfoldable pub more_texts : ℕ → List (List ℕ) → Format (List (List ℕ))
more_texts zero earlier = Done earlier
more_texts (suc n) earlier = do
  text ← the (Brief (2 ^ 32) (new_text_test earlier))
  more_texts n (earlier ++ text ∷ [])

unfoldable pub pool : Version → Format (List (List ℕ))
pool One = Done []
pool Two = do
  count ← the (Short any_number)
  more_texts count []

-- Behind the code all texts of the pool were used.
unfoldable pub all_used : Version → List (List ℕ) → ℕ → Format (Unit {0})
all_used One texts used = Done tt
all_used Two texts used = the (Check (unused texts used))

-- behind the version: the pool, the number of inputs, their values, and the code
abbrev pub script : Version → Format Sent
script version = do
  texts ← pool version
  count ← the Byte
  x ← values_and_code version texts count 0
  u ← all_used version texts x.1
  Done (record { version = version; script = record { inputs = count; lists = list_numbers 0 x.0.0; body = x.0.1 }; values = x.0.0 })

-- a script with the values of its inputs
unfoldable pub script_message : Format Sent
script_message = choose ((0x01, script One) ∷ (0x02, script Two) ∷ [])
