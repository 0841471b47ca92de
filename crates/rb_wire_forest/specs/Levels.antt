-- Formats of what stands in a node, where so many nodes may be within each other below it.
use Rattle.std.specs.Prelude.{ℕ, List}
use Rattle.rb_trees.specs.declared.versions.Version.{Version}
use Rattle.rb_trees.specs.mirror.Forests.{Node, Entry}
use Rattle.rb_meaning_bytes.specs.formats.Formats.{Format, times}
use Rattle.rb_meaning_bytes.specs.formats.Forests.{node, entry}

abbrev pub entry_within : Version → (left : ℕ) → Format Entry
entry_within version left = entry version (node version left)

-- so many entries
abbrev pub entries_within : Version → (left count : ℕ) → Format (List Entry)
entries_within version left count = times count (entry_within version left)

-- so many nodes of turns
abbrev pub nodes_within : Version → (left count : ℕ) → Format (List Node)
nodes_within version left count = times count (node version left)
