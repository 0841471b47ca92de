-- What the payloads of requests and replies are.
use Rattle.std.specs.Prelude.{ℕ, List}
use Rattle.rb_trees.specs.declared.values.Value.{Value}
use Rattle.rb_trees.specs.declared.versions.Version.{Version}
use Rattle.rb_trees.specs.mirror.Scripts.{Script}
use Rattle.rb_trees.specs.mirror.Forests.{Node}
use Rattle.rb_meaning_bytes.specs.formats.Formats.{Spells}
use Rattle.rb_meaning_bytes.specs.formats.ScriptMessages.{script_message}
use Rattle.rb_meaning_bytes.specs.formats.Forests.{forest_of, forest_message}
use Rattle.rb_meaning_bytes.specs.formats.Refusals.{refusal_message}

-- the bytes of a script with the values of its inputs, in this version
abbrev pub IsRequestOf : Version → List ℕ → Script → List Value → Type 0
IsRequestOf version payload script values = Spells script_message payload (record { version = version; script = script; values = values })

-- the bytes of the node that a script gave, in this version
abbrev pub IsForestOf : Version → List ℕ → Node → Type 0
IsForestOf version payload node = Spells (forest_of version) payload node

-- the bytes of a node, in either version
abbrev pub IsForest : List ℕ → Node → Type 0
IsForest payload node = Spells forest_message payload node

-- the bytes of a refusal with its number and its place, in this version
abbrev pub IsRefusalOf : Version → List ℕ → (number at : ℕ) → Type 0
IsRefusalOf version payload number at = Spells refusal_message payload (record { version = version; number = number; at = at })

-- the bytes of a refusal, in either version
abbrev pub IsRefusal : List ℕ → (number at : ℕ) → Type 0
IsRefusal payload number at = (version : Version) × IsRefusalOf version payload number at
