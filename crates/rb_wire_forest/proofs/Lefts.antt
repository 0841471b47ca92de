-- What is left of a node, an entry at a time.
use Rattle.std.proofs.Common.{◌≡◌, ℕ, zero, suc, List, [], ◌∷◌, length, refl, ap, sym, ◌∙◌, Ok, Err, Option}
use Rattle.rb_trees.specs.declared.versions.Version.{Version}
use Rattle.rb_trees.specs.declared.forests.NodeFault.{NodeFault}
use Rattle.rb_trees.specs.mirror.Forests.{Node, Holds, Entry, MoreEntries, entries_from}
use Rattle.rb_meaning_bytes.specs.formats.Fields.{Number}
use Rattle.rb_meaning_bytes.specs.formats.Formats.{Format, Done, ◌>>=◌, times}
use Rattle.rb_meaning_bytes.specs.formats.Reading.{Read, read, look, on}
use Rattle.rb_meaning_bytes.specs.formats.Forests.{node, entry, end}
use Rattle.rb_meaning_bytes.proofs.formats.Exact.{bound}
use Rattle.rb_meaning_bytes.proofs.formats.Steps.{one_more}
use Rattle.rb_wire_forest.specs.Opens.{node_left}

-- a node of these entries, by how it ends
abbrev pub with_end : Version → List Entry → List ℕ → Read Node
with_end version es rest = on (read (end version) rest) (λ f r. Ok (Holds (entries_from es) f, r))

pub left_read : (version : Version) (n count : ℕ) (bytes : List ℕ) → read (node_left version n count) bytes ≡ on (read (times count (entry version (node version n))) bytes) (λ es rest. with_end version es rest)
unfolding node_left read
left_read version n count bytes = bound (times count (entry version (node version n))) (λ es. end version >>= λ f. Done (Holds (entries_from es) f)) bytes ∙ go (read (times count (entry version (node version n))) bytes)
  where
    go : (r : Read (List Entry)) → on r (λ es rest. read (end version >>= λ f. Done (Holds (entries_from es) f)) rest) ≡ on r (λ es rest. with_end version es rest)
    go (Ok x) = bound (end version) (λ f. Done (Holds (entries_from x.0) f)) x.1
    go (Err e) = refl

-- a node is the number of its entries, and what is left of it
pub node_front : (version : Version) (m : ℕ) (bytes : List ℕ) → read (node version (suc m)) bytes ≡ on (look Number bytes) (λ count rest. read (node_left version m count) rest)
unfolding node node_left read
node_front version m bytes = refl

abbrev pub with_first : Entry → Node → Node
with_first x (Holds es f) = Holds (MoreEntries x es) f

abbrev pub first_on : Entry → Read Node → Read Node
first_on x r = on r (λ nd rest. Ok (with_first x nd, rest))

pub entry_left : (version : Version) (n e : ℕ) (bytes : List ℕ) → read (node_left version n (suc e)) bytes ≡ on (read (entry version (node version n)) bytes) (λ x rest. first_on x (read (node_left version n e) rest))
entry_left version n e bytes = left_read version n (suc e) bytes ∙ ap (λ r. on r (λ es rest. with_end version es rest)) (one_more e (entry version (node version n)) bytes) ∙ go (read (entry version (node version n)) bytes)
  where
    ended : (x : Entry) (xs : List Entry) (r : Read (Option NodeFault)) → on r (λ f rest. Ok (Holds (entries_from (x ∷ xs)) f, rest)) ≡ first_on x (on r (λ f rest. Ok (Holds (entries_from xs) f, rest)))
    ended x xs (Ok y) = refl
    ended x xs (Err d) = refl

    inner : (x : Entry) (r : Read (List Entry)) → on (on r (λ xs rest. Ok (x ∷ xs, rest))) (λ es rest. with_end version es rest) ≡ first_on x (on r (λ es rest. with_end version es rest))
    inner x (Ok y) = ended x y.0 (read (end version) y.1)
    inner x (Err d) = refl

    go : (r : Read Entry) → on (on r (λ x rest. on (read (times e (entry version (node version n))) rest) (λ xs rest. Ok (x ∷ xs, rest)))) (λ es rest. with_end version es rest)
        ≡ on r (λ x rest. first_on x (read (node_left version n e) rest))
    go (Ok x) = inner x.0 (read (times e (entry version (node version n))) x.1) ∙ ap (first_on x.0) (sym (left_read version n e x.1))
    go (Err d) = refl

-- no entries are left: the end comes
pub end_left : (version : Version) (n : ℕ) (bytes : List ℕ) → read (node_left version n 0) bytes ≡ with_end version [] bytes
unfolding times read
end_left version n bytes = left_read version n 0 bytes

-- one more of so many nodes
pub turn_left : (c : ℕ) (F : Format Node) (bytes : List ℕ) → read (times (suc c) F) bytes ≡ on (read F bytes) (λ x rest. on (read (times c F) rest) (λ xs rest. Ok (x ∷ xs, rest)))
turn_left c F bytes = one_more c F bytes

-- so many were read
pub many_read : {A : Type 0} (c : ℕ) (F : Format A) (bytes : List ℕ) (x : List A × List ℕ) → read (times c F) bytes ≡ Ok x → length x.0 ≡ c
unfolding times read
many_read zero F bytes x h =
    let e : ([], bytes) ≡ x = cc in
    ap (λ y. length y.0) (sym e)
many_read (suc c) F bytes x h = go (read F bytes) (sym (one_more c F bytes) ∙ h) (λ rest y i. many_read c F rest y i)
  where
    more : (a : _) (rest : List ℕ) (r : Read _) → read (times c F) rest ≡ r → on r (λ xs after. Ok (a ∷ xs, after)) ≡ Ok x → ((rest : List ℕ) (y : _ × List ℕ) → read (times c F) rest ≡ Ok y → length y.0 ≡ c) → length x.0 ≡ suc c
    more a rest (Ok y) i j k =
        let e : (a ∷ y.0, y.1) ≡ x = cc in
        ap (λ z. length z.0) (sym e) ∙ ap suc (k rest y i)
    more a rest (Err d) i j k = absurd cc

    go : (r : Read _) → on r (λ a rest. on (read (times c F) rest) (λ xs after. Ok (a ∷ xs, after))) ≡ Ok x → ((rest : List ℕ) (y : _ × List ℕ) → read (times c F) rest ≡ Ok y → length y.0 ≡ c) → length x.0 ≡ suc c
    go (Ok a) j k = more a.0 a.1 (read (times c F) a.1) refl j k
    go (Err d) j k = absurd cc
