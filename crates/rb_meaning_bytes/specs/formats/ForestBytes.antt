-- The bytes of a forest and of a refusal by the version, and which forests have a spelling.
use Rattle.std.specs.Prelude.{◌≡◌, ◌<◌, ◌^◌, ℕ, zero, suc, nat_eq, List, [], ◌∷◌, ◌++◌, cond, Bool, true, false, Option, None, Some}
use Rattle.rb_trees.specs.declared.forests.NodeFault.{NodeFault}
use Rattle.rb_trees.specs.declared.versions.Version.{Version}
use Rattle.rb_trees.specs.mirror.Forests as tree
use Rattle.rb_trees.specs.mirror.Forests.{Node, Entry, Entries, Nodes}
use Rattle.rb_meaning_bytes.specs.formats.Messages.{Refused}
use Rattle.rb_meaning_bytes.specs.formats.Fields.{Text, Fits, number, truth}
use Rattle.rb_meaning_bytes.specs.formats.Forests.{thrown, is_fault_code, most_nodes}
use Rattle.rb_meaning_bytes.specs.formats.Refusals.{is_refusal_number}
use Rattle.rb_meaning_bytes.specs.formats.ScriptBytes.{natural_bytes, words_bytes, value_bytes}
use Rattle.rb_meaning_bytes.specs.formats.Values.{version_byte}
use Rattle.rb_meaning_bytes.specs.formats.FormedScripts.{IsPrimitive}

-- the bytes of a fault's text
abbrev pub fault_text_bytes : Version → ℕ → List ℕ → List ℕ
fault_text_bytes version code words = cond (nat_eq code thrown) (words_bytes version words) []

abbrev pub end_bytes : Version → Option NodeFault → List ℕ
end_bytes version None = 0x00 ∷ []
end_bytes version (Some f) = 0x01 ∷ natural_bytes version f.step ++ natural_bytes version f.at ++ f.fault.code ∷ fault_text_bytes version f.fault.code f.fault.text

abbrev pub count_entries : Entries → ℕ
count_entries tree.NoEntries = 0
count_entries (tree.MoreEntries e es) = suc (count_entries es)

abbrev pub count_nodes : Nodes → ℕ
count_nodes tree.NoNodes = 0
count_nodes (tree.MoreNodes n ns) = suc (count_nodes ns)

abbrev mutual
  pub node_bytes : Version → Node → List ℕ
  node_bytes version (tree.Holds es f) = number (count_entries es) ++ entries_bytes version es ++ end_bytes version f

  pub entry_bytes : Version → Entry → List ℕ
  entry_bytes version (tree.Value v) = 0x31 ∷ value_bytes version v
  entry_bytes version (tree.Branch taken n) = 0x32 ∷ truth taken ++ node_bytes version n
  entry_bytes version (tree.Rows ns) = 0x33 ∷ number (count_nodes ns) ++ nodes_bytes version ns

  pub entries_bytes : Version → Entries → List ℕ
  entries_bytes version tree.NoEntries = []
  entries_bytes version (tree.MoreEntries e es) = entry_bytes version e ++ entries_bytes version es

  pub nodes_bytes : Version → Nodes → List ℕ
  nodes_bytes version tree.NoNodes = []
  nodes_bytes version (tree.MoreNodes n ns) = node_bytes version n ++ nodes_bytes version ns

-- a forest, which is its root
abbrev pub forest_bytes : Version → Node → List ℕ
forest_bytes version n = version_byte version ∷ node_bytes version n

-- the number of what is refused, and its place
abbrev pub refusal_bytes : Refused → List ℕ
refusal_bytes r = version_byte r.version ∷ r.number ∷ natural_bytes r.version r.at

-- ---- which forests have one

-- A text stands with the fault Thrown alone.
abbrev pub formed_text : Bool → List ℕ → Type 0
formed_text true words = Fits Text words
formed_text false words = words ≡ []

abbrev pub FormedText : ℕ → List ℕ → Type 0
FormedText code words = formed_text (nat_eq code thrown) words

abbrev pub FormedEnd : Option NodeFault → Type 0
FormedEnd None = Unit {0}
FormedEnd (Some f) = (f.step < 2 ^ 32) × (f.at < 2 ^ 32) × (is_fault_code f.fault.code ≡ true) × FormedText f.fault.code f.fault.text

-- nodes with at most so many within each other
abbrev mutual
  pub FormedNode : ℕ → Node → Type 0
  FormedNode zero node = ⊥
  FormedNode (suc n) (tree.Holds es f) = (count_entries es < 2 ^ 32) × FormedEntries n es × FormedEnd f

  pub FormedEntry : ℕ → Entry → Type 0
  FormedEntry n (tree.Value v) = IsPrimitive v
  FormedEntry n (tree.Branch taken node) = FormedNode n node
  FormedEntry n (tree.Rows ns) = (count_nodes ns < 2 ^ 32) × FormedNodes n ns

  pub FormedEntries : ℕ → Entries → Type 0
  FormedEntries n tree.NoEntries = Unit {0}
  FormedEntries n (tree.MoreEntries e es) = FormedEntry n e × FormedEntries n es

  pub FormedNodes : ℕ → Nodes → Type 0
  FormedNodes n tree.NoNodes = Unit {0}
  FormedNodes n (tree.MoreNodes m ms) = FormedNode n m × FormedNodes n ms

unfoldable pub FormedForest : Node → Type 0
FormedForest n = FormedNode most_nodes n

-- a refusal that has a spelling
abbrev pub FormedRefusal : Refused → Type 0
FormedRefusal r = (is_refusal_number r.version r.number ≡ true) × (r.at < 2 ^ 32)
