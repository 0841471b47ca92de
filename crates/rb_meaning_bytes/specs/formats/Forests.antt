-- The format of forests, by the version.
use Rattle.std.specs.Prelude.{ℕ, zero, suc, List, [], ◌∷◌, nat_eq, nat_le, nat_lt, ◌&&◌, Bool, cond, Option, None, Some}
use Rattle.rb_trees.specs.declared.forests.NodeFault.{NodeFault}
use Rattle.rb_trees.specs.declared.versions.Version.{Version}
use Rattle.rb_trees.specs.declared.versions.Version.TheVariants.{One, Two}
use Rattle.rb_trees.specs.mirror.Forests as tree
use Rattle.rb_trees.specs.mirror.Forests.{Node, Entry, entries_from, nodes_from}
use Rattle.rb_meaning_bytes.specs.formats.Fields.{Tag, Number, Truth}
use Rattle.rb_meaning_bytes.specs.formats.Formats.{Format, Done, ◌>>=◌, the, deeper, choose, times}
use Rattle.rb_meaning_bytes.specs.formats.Values.{version_byte, natural, words, value}

-- the greatest number of nodes within each other; the root is the first
abbrev pub most_nodes : ℕ
most_nodes = 64

-- ---- ends of nodes

-- the code of a thrown text, the one fault with a text
abbrev pub thrown : ℕ
thrown = 8

-- The codes of faults are 1 to 12.
abbrev pub is_fault_code : ℕ → Bool
is_fault_code code = nat_lt 0 code && nat_le code 12

abbrev pub fault_text : Version → ℕ → Format (List ℕ)
fault_text version code = cond (nat_eq code thrown) (words version) (Done [])

-- the fault that a node ends with: its step and its position, its code, and its text
abbrev pub fault : Version → Format (Option NodeFault)
fault version = do
  step ← natural version
  at ← natural version
  code ← the (Tag is_fault_code)
  text ← fault_text version code
  Done (Some (record { step = step; at = at; fault = record { code = code; text = text } }))

abbrev pub ends : Version → List (ℕ × Format (Option NodeFault))
ends version = (0x00, Done None) ∷ (0x01, fault version) ∷ []

unfoldable pub end : Version → Format (Option NodeFault)
end version = choose (ends version)

-- ---- entries, by the format of the nodes within them

abbrev pub value_entry : Version → Format Entry
value_entry version = do
  v ← value version
  Done (tree.Value v)

-- the branch that was taken, and its node
abbrev pub branch_entry : Format Node → Format Entry
branch_entry node = do
  taken ← the Truth
  n ← node
  Done (tree.Branch taken n)

-- a node for each turn
abbrev pub rows_entry : Format Node → Format Entry
rows_entry node = do
  count ← the Number
  turns ← times count node
  Done (tree.Rows (nodes_from turns))

abbrev pub entry_forms : Version → Format Node → List (ℕ × Format Entry)
entry_forms version node = (0x31, value_entry version) ∷ (0x32, branch_entry node) ∷ (0x33, rows_entry node) ∷ []

unfoldable pub entry : Version → Format Node → Format Entry
entry version node = choose (entry_forms version node)

-- A node, with so many within each other. Its counts are of 32 bits in each version, since they are written afterwards.
unfoldable pub node : Version → ℕ → Format Node
node version zero = deeper
node version (suc n) = do
  count ← the Number
  entries ← times count (entry version (node version n))
  ending ← end version
  Done (tree.Holds (entries_from entries) ending)

-- a forest of a version, which is its root
unfoldable pub forest_of : Version → Format Node
forest_of version = choose ((version_byte version, node version most_nodes) ∷ [])

-- a forest of either version
unfoldable pub forest_message : Format Node
forest_message = choose ((0x01, node One most_nodes) ∷ (0x02, node Two most_nodes) ∷ [])
