-- What a buffer has gained, and what is counted of it.
use Rattle.std.specs.Prelude.{◌≡◌, ◌+◌, ◌%◌, ◌^◌, ℕ, List, ◌++◌}
use Rattle.rb_trees.specs.declared.versions.Version.{Version}
use Rattle.rb_trees.specs.mirror.Forests.{Entries, Nodes}
use Rattle.rb_meaning_bytes.specs.formats.ForestBytes.{entries_bytes, count_entries, nodes_bytes, count_nodes}

-- the bytes of a buffer that is written in a version of the wire, and a count by 32 bits
pub record Written (version : Version) : Type 0 where
  pub bytes : List ℕ
  pub count : ℕ

abbrev pub written : (version : Version) → List ℕ → ℕ → Written version
written version bytes count = record { bytes = bytes; count = count }

module _ {version : Version} where
  -- The buffer has gained these bytes, and so many more are counted.
  pub record Adds (more : List ℕ) (number : ℕ) (before after : Written version) : Type 0 where
    pub bytes : after.bytes ≡ before.bytes ++ more
    pub counts : after.count % 2 ^ 32 ≡ (before.count + number) % 2 ^ 32

  -- It has gained these entries, or nodes, as the version spells them, and they are counted.
  abbrev pub AddsEntries : Entries → Written version → Written version → Type 0
  AddsEntries es before after = Adds (entries_bytes version es) (count_entries es) before after

  abbrev pub AddsNodes : Nodes → Written version → Written version → Type 0
  AddsNodes ns before after = Adds (nodes_bytes version ns) (count_nodes ns) before after

  -- It has gained some entries, and this is to be said of them.
  pub record Gains (before after : Written version) (Says : Entries → Type 0) : Type 0 where
    pub entries : Entries
    pub adds : AddsEntries entries before after
    pub says : Says entries
