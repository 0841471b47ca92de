-- A forest that is formed spells its bytes, and so does a refusal. By the version.
use Rattle.std.proofs.Common.{◌≡◌, ℕ, zero, suc, ◌<◌, Bool, true, false, cond, nat_eq, List, [], ◌∷◌, ◌++◌, refl, ap, sym, subst, arith, append_assoc, Option, None, Some}
use Rattle.std.proofs.lemmas.Bool.Decides.{nat_tests}
use Rattle.rb_trees.specs.declared.forests.NodeFault.{NodeFault}
use Rattle.rb_trees.specs.declared.versions.Version.{Version}
use Rattle.rb_trees.specs.declared.versions.Version.TheVariants.{One, Two}
use Rattle.rb_trees.specs.mirror.Forests as tree
use Rattle.rb_trees.specs.mirror.Forests.{Node, Entry, Entries, Nodes, entries_from, nodes_from}
use Rattle.rb_meaning_bytes.specs.formats.Fields.{number}
use Rattle.rb_meaning_bytes.specs.formats.Formats.{Done, times, Spells, done, more}
use Rattle.rb_meaning_bytes.specs.formats.Values.{natural, words, value}
use Rattle.rb_meaning_bytes.specs.formats.Forests.{thrown, most_nodes, is_fault_code, fault_text, ends, end, rows_entry, entry_forms, entry, node, forest_of}
use Rattle.rb_meaning_bytes.specs.formats.Messages.{Refused}
use Rattle.rb_meaning_bytes.specs.formats.Refusals.{is_refusal_number, refusal, refusal_message}
use Rattle.rb_meaning_bytes.specs.formats.ScriptBytes.{natural_bytes, words_bytes, value_bytes}
use Rattle.rb_meaning_bytes.specs.formats.ForestBytes.{fault_text_bytes, end_bytes, count_entries, count_nodes, node_bytes, entry_bytes, entries_bytes, nodes_bytes, forest_bytes, refusal_bytes, formed_text, FormedText, FormedEnd, FormedNode, FormedEntry, FormedEntries, FormedNodes, FormedForest, FormedRefusal}
use Rattle.rb_meaning_bytes.proofs.formats.Spelled.{moved, after, finally, under}
use Rattle.rb_meaning_bytes.proofs.formats.Values.{natural_spelled, words_spelled, value_spelled}

grouped_3 : (a b c : List ℕ) → a ++ (b ++ c) ≡ a ++ b ++ c
grouped_3 a b c = sym (append_assoc a b c)

fault_text_spelled : (version : Version) (code : ℕ) (text : List ℕ) → FormedText code text → Spells (fault_text version code) (fault_text_bytes version code text) text
fault_text_spelled version code text h = go (nat_eq code thrown) h
  where
    go : (b : Bool) → formed_text b text → Spells (cond b (words version) (Done [])) (cond b (words_bytes version text) []) text
    go true h = words_spelled version text h
    go false h = subst (λ w. Spells (Done []) [] w) (sym h) (done [])

code_below : (code : ℕ) → is_fault_code code ≡ true → code < 256
code_below code h = grind (arith, nat_tests)

end_spelled : (version : Version) (f : Option NodeFault) → FormedEnd f → Spells (end version) (end_bytes version f) f
unfolding end
end_spelled version None h = under (ends version) 0x00 [] None refl (omega arith) (done None)
end_spelled version (Some f) h =
    let text = fault_text_bytes version f.fault.code f.fault.text in
    under (ends version) 0x01 _ (Some f) refl (omega arith)
    (moved (grouped_3 (natural_bytes version f.step) (natural_bytes version f.at) (f.fault.code ∷ text))
    (after (natural version) _ (natural_bytes version f.step) (natural_bytes version f.at ++ (f.fault.code ∷ text)) f.step _ (natural_spelled version f.step h.0)
    (after (natural version) _ (natural_bytes version f.at) (f.fault.code ∷ text) f.at _ (natural_spelled version f.at h.1)
    (more f.fault.code (h.2, code_below f.fault.code h.2)
    (finally (fault_text version f.fault.code) (λ words. Some (record { step = f.step; at = f.at; fault = record { code = f.fault.code; text = words } }))
    text f.fault.text (fault_text_spelled version f.fault.code f.fault.text h.3))))))

-- the list of the items
record ListedEntries (version : Version) (n : ℕ) (es : Entries) : Type 0 where
  items : List Entry
  is : entries_from items ≡ es
  spells : Spells (times (count_entries es) (entry version (node version n))) (entries_bytes version es) items

record ListedNodes (version : Version) (n : ℕ) (ns : Nodes) : Type 0 where
  items : List Node
  is : nodes_from items ≡ ns
  spells : Spells (times (count_nodes ns) (node version n)) (nodes_bytes version ns) items

mutual
  unfolding node entry times

  node_spelled : (version : Version) (n : ℕ) (m : Node) → FormedNode n m → Spells (node version n) (node_bytes version m) m
  node_spelled version zero m h = absurd h
  node_spelled version (suc n) (tree.Holds es f) h =
      let l = entries_spelled version n es h.1 in
      subst (λ x. Spells (node version (suc n)) (node_bytes version (tree.Holds es f)) (tree.Holds x f)) l.is
      (moved (grouped_3 (number (count_entries es)) (entries_bytes version es) (end_bytes version f))
      (more (count_entries es) h.0
      (after (times (count_entries es) (entry version (node version n))) _ (entries_bytes version es) (end_bytes version f) l.items _ l.spells
      (finally (end version) (λ x. tree.Holds (entries_from l.items) x) (end_bytes version f) f (end_spelled version f h.2)))))

  entry_spelled : (version : Version) (n : ℕ) (e : Entry) → FormedEntry n e → Spells (entry version (node version n)) (entry_bytes version e) e
  entry_spelled version n (tree.Value v) h = under (entry_forms version (node version n)) 0x31 _ (tree.Value v) refl (omega arith) (finally (value version) (λ x. tree.Value x) (value_bytes version v) v (value_spelled version v h))
  entry_spelled version n (tree.Branch taken m) h = under (entry_forms version (node version n)) 0x32 _ (tree.Branch taken m) refl (omega arith)
      (more taken tt (finally (node version n) (λ x. tree.Branch taken x) (node_bytes version m) m (node_spelled version n m h)))
  entry_spelled version n (tree.Rows ns) h =
      let l = nodes_spelled version n ns h.1 in
      under (entry_forms version (node version n)) 0x33 _ (tree.Rows ns) refl (omega arith)
      (subst (λ x. Spells (rows_entry (node version n)) (number (count_nodes ns) ++ nodes_bytes version ns) (tree.Rows x)) l.is
      (more (count_nodes ns) h.0 (finally (times (count_nodes ns) (node version n)) (λ xs. tree.Rows (nodes_from xs)) (nodes_bytes version ns) l.items l.spells)))

  entries_spelled : (version : Version) (n : ℕ) (es : Entries) → FormedEntries n es → ListedEntries version n es
  entries_spelled version n tree.NoEntries h = record { items = []; is = refl; spells = done [] }
  entries_spelled version n (tree.MoreEntries e es) h =
      let l = entries_spelled version n es h.1 in
      record {
        items = e ∷ l.items;
        is = ap (tree.MoreEntries e) l.is;
        spells = after (entry version (node version n)) _ (entry_bytes version e) (entries_bytes version es) e _ (entry_spelled version n e h.0)
            (finally (times (count_entries es) (entry version (node version n))) (λ xs. e ∷ xs) (entries_bytes version es) l.items l.spells);
      }

  nodes_spelled : (version : Version) (n : ℕ) (ns : Nodes) → FormedNodes n ns → ListedNodes version n ns
  nodes_spelled version n tree.NoNodes h = record { items = []; is = refl; spells = done [] }
  nodes_spelled version n (tree.MoreNodes m ms) h =
      let l = nodes_spelled version n ms h.1 in
      record {
        items = m ∷ l.items;
        is = ap (tree.MoreNodes m) l.is;
        spells = after (node version n) _ (node_bytes version m) (nodes_bytes version ms) m _ (node_spelled version n m h.0)
            (finally (times (count_nodes ms) (node version n)) (λ xs. m ∷ xs) (nodes_bytes version ms) l.items l.spells);
      }

pub forest_spelled : (version : Version) (n : Node) → FormedForest n → Spells (forest_of version) (forest_bytes version n) n
unfolding forest_of FormedForest
forest_spelled One n h = under ((0x01, node One most_nodes) ∷ []) 0x01 (node_bytes One n) n refl (omega arith) (node_spelled One most_nodes n h)
forest_spelled Two n h = under ((0x02, node Two most_nodes) ∷ []) 0x02 (node_bytes Two n) n refl (omega arith) (node_spelled Two most_nodes n h)

number_below : (version : Version) (n : ℕ) → is_refusal_number version n ≡ true → n < 256
number_below One n h = grind (arith, nat_tests)
number_below Two n h = grind (arith, nat_tests)

abbrev refused : Version → ℕ → ℕ → Refused
refused version n at = record { version = version; number = n; at = at }

-- behind the version
refusal_from : (version : Version) (n at : ℕ) → FormedRefusal (refused version n at) → Spells (refusal version) (n ∷ natural_bytes version at) (refused version n at)
refusal_from version n at h = more n (h.0, number_below version n h.0) (finally (natural version) (λ i. refused version n i) (natural_bytes version at) at (natural_spelled version at h.1))

refusal_at : (version : Version) (n at : ℕ) → FormedRefusal (refused version n at) → Spells refusal_message (refusal_bytes (refused version n at)) (refused version n at)
unfolding refusal_message
refusal_at One n at h = under ((0x01, refusal One) ∷ (0x02, refusal Two) ∷ []) 0x01 (n ∷ natural_bytes One at) (refused One n at) refl (omega arith) (refusal_from One n at h)
refusal_at Two n at h = under ((0x01, refusal One) ∷ (0x02, refusal Two) ∷ []) 0x02 (n ∷ natural_bytes Two at) (refused Two n at) refl (omega arith) (refusal_from Two n at h)

pub refusal_spelled : (r : Refused) → FormedRefusal r → Spells refusal_message (refusal_bytes r) r
refusal_spelled r h = refusal_at r.version r.number r.at h
