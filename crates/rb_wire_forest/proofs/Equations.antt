-- What reading the parts of a forest is, a step at a time.
use Rattle.std.proofs.Common.{◌≡◌, ◌+◌, ◌-◌, ◌<◌, ℕ, zero, suc, List, [], ◌∷◌, map, refl, ap, sym, ◌∙◌, arith, Ok, Err, Bool, true, false, cond, nat_eq, length}
use Rattle.std.proofs.lemmas.Bool.Decides.{nat_tests}
use Rattle.std.proofs.lemmas.Grind.{common_steps}
use Rattle.rb_trees.specs.declared.versions.Version.{Version}
use Rattle.rb_trees.specs.declared.versions.Version.TheVariants.{One, Two}
use Rattle.rb_trees.specs.declared.forests.Node as rust_node
use Rattle.rb_trees.specs.declared.forests.Entry as rust_entry
use Rattle.rb_trees.specs.mirror.Forests.{Node, Holds, Entry, MoreEntries, MoreNodes, entries_from, nodes_from, mirror_node, mirror_entry, mirror_entries, mirror_nodes}
use Rattle.rb_trees.proofs.mirror.Nodes.{nodes as mirrored}
use Rattle.rb_meaning_bytes.specs.formats.Fields.{Byte, Number, Tag, bad_tag}
use Rattle.rb_meaning_bytes.specs.formats.Formats.{Format, Done, ◌>>=◌, times}
use Rattle.rb_meaning_bytes.specs.formats.Reading.{Read, read, look, on, deep}
use Rattle.rb_meaning_bytes.specs.formats.Forests as format
use Rattle.rb_meaning_bytes.specs.formats.Forests.{entry, entry_forms, end, node, forest_message, most_nodes}
use Rattle.rb_wire_forest.specs.Versions.{version_at, version_by}
use Rattle.rb_meaning_bytes.proofs.formats.Exact.{bound}
use Rattle.rb_meaning_bytes.proofs.formats.Steps.{chosen, too_far, by_tag}

-- a byte that passes a test
pub tag_looked : (test : ℕ → Bool) (bytes : List ℕ) → look (Tag test) bytes ≡ on (look Byte bytes) (λ b rest. cond (test b) (Ok (b, rest)) (Err (bad_tag, length rest + 1)))
unfolding look
tag_looked test [] = refl
tag_looked test (b ∷ rest) = ap (λ n. cond (test b) (Ok (b, rest)) (Err (bad_tag, n))) (omega arith)

pub end_read : (version : Version) (bytes : List ℕ) → read (end version) bytes ≡ on (look Byte bytes) (λ b rest. by_tag (format.ends version) b rest)
unfolding end
end_read version bytes = chosen (format.ends version) bytes

pub entry_read : (version : Version) (F : Format Node) (bytes : List ℕ) → read (entry version F) bytes ≡ on (look Byte bytes) (λ b rest. by_tag (entry_forms version F) b rest)
unfolding entry
entry_read version F bytes = chosen (entry_forms version F) bytes

-- a node: the count of its entries, so many entries, and its end
abbrev pub parts_of : Version → Format Node → List ℕ → Read Node
parts_of version within bytes = on (look Number bytes) (λ count rest. on (read (times count (entry version within)) rest) (λ entries rest. on (read (end version) rest) (λ ending rest. Ok (Holds (entries_from entries) ending, rest))))

pub node_read : (version : Version) (n : ℕ) (bytes : List ℕ) → 0 < n → read (node version n) bytes ≡ parts_of version (node version (n - 1)) bytes
unfolding node read
node_read version zero bytes h = absurd (omega arith)
node_read version (suc n) bytes h =
    let e : suc n - 1 ≡ n = omega arith in
    go (look Number bytes) ∙ ap (λ m. parts_of version (node version m) bytes) (sym e)
  where
    last : (r : Read (List Entry)) → on r (λ entries rest. read (end version >>= λ ending. Done (Holds (entries_from entries) ending)) rest) ≡ on r (λ entries rest. on (read (end version) rest) (λ ending rest. Ok (Holds (entries_from entries) ending, rest)))
    last (Ok x) = bound (end version) (λ ending. Done (Holds (entries_from x.0) ending)) x.1
    last (Err e) = refl

    go : (r : Read ℕ) → on r (λ count rest. read (times count (entry version (node version n)) >>= λ entries. end version >>= λ ending. Done (Holds (entries_from entries) ending)) rest)
        ≡ on r (λ count rest. on (read (times count (entry version (node version n))) rest) (λ entries rest. on (read (end version) rest) (λ ending rest. Ok (Holds (entries_from entries) ending, rest))))
    go (Ok x) = bound (times x.0 (entry version (node version n))) (λ entries. end version >>= λ ending. Done (Holds (entries_from entries) ending)) x.1 ∙ last (read (times x.0 (entry version (node version n))) x.1)
    go (Err e) = refl

pub node_deep : (version : Version) (n : ℕ) (bytes : List ℕ) → n ≡ 0 → read (node version n) bytes ≡ Err (deep bytes)
unfolding node
node_deep version zero bytes h = too_far Node bytes
node_deep version (suc n) bytes h = absurd (omega arith)

-- a forest: its version, and its root
root_by : (b : ℕ) (rest : List ℕ) → by_tag ((0x01, node One most_nodes) ∷ (0x02, node Two most_nodes) ∷ []) b rest ≡ on (version_by b rest) (λ version after. read (node version most_nodes) after)
root_by b rest = go (nat_eq b 0x01) (nat_eq b 0x02)
  where
    go : (v w : Bool) → cond v (read (node One most_nodes) rest) (cond w (read (node Two most_nodes) rest) (Err (bad_tag, length rest + 1)))
        ≡ on (cond v (Ok (One, rest)) (cond w (Ok (Two, rest)) (Err (bad_tag, length rest + 1)))) (λ version after. read (node version most_nodes) after)
    go true w = refl
    go false true = refl
    go false false = refl

pub forest_read : (bytes : List ℕ) → read forest_message bytes ≡ on (version_at bytes) (λ version rest. read (node version most_nodes) rest)
unfolding forest_message version_at
forest_read bytes = chosen ((0x01, node One most_nodes) ∷ (0x02, node Two most_nodes) ∷ []) bytes ∙ go (look Byte bytes)
  where
    go : (r : Read ℕ) → on r (λ b rest. by_tag ((0x01, node One most_nodes) ∷ (0x02, node Two most_nodes) ∷ []) b rest) ≡ on (on r (λ b rest. version_by b rest)) (λ version rest. read (node version most_nodes) rest)
    go (Ok x) = root_by x.0 x.1
    go (Err e) = refl

-- lists in the mirror
pub listed_entries : (es : List rust_entry.Entry) → entries_from (map mirror_entry es) ≡ mirror_entries es
listed_entries [] = refl
listed_entries (e ∷ es) = ap (MoreEntries (mirror_entry e)) (listed_entries es)

pub listed_nodes : (ns : List rust_node.Node) → nodes_from (map mirror_node ns) ≡ mirror_nodes ns
listed_nodes [] = refl
listed_nodes (n ∷ ns) = ap (MoreNodes (mirror_node n)) (listed_nodes ns)

pub ruleset tags = (tag_looked, nat_tests, common_steps)

pub ruleset entries = (entry_read, bound, mirrored, listed_nodes)

pub ruleset nodes = (node_read, node_deep, mirrored, listed_entries)
