-- What passing over the parts of a forest is, a step at a time.
use Rattle.std.proofs.Common.{◌≡◌, ◌+◌, ◌-◌, ◌<◌, ◌≤◌, ℕ, zero, suc, List, [], ◌∷◌, refl, ap, sym, ◌∙◌, arith, Result, Ok, Err, Bool, true, false, cond, nat_eq, length}
use Rattle.std.proofs.lemmas.Bool.Decides.{nat_tests}
use Rattle.std.proofs.lemmas.Grind.{common_steps}
use Rattle.rb_trees.specs.declared.versions.Version.{Version}
use Rattle.rb_trees.specs.mirror.Forests as tree
use Rattle.rb_trees.specs.mirror.Forests.{Node, Holds, Entry, entries_from, nodes_from}
use Rattle.rb_meaning_bytes.specs.formats.Fields.{Byte, Number, Truth, bad_tag, trailing}
use Rattle.rb_meaning_bytes.specs.formats.Formats.{Format, Done, ◌>>=◌, times}
use Rattle.rb_meaning_bytes.specs.formats.Values.{value}
use Rattle.rb_meaning_bytes.specs.formats.Reading.{Fault, Read, read, look, on, on_all, read_all}
use Rattle.rb_meaning_bytes.specs.formats.Forests.{entry, entry_forms, end, node, forest_message, most_nodes, branch_entry, rows_entry}
use Rattle.rb_meaning_bytes.proofs.formats.Exact.{bound}
use Rattle.rb_meaning_bytes.proofs.formats.Steps.{by_tag, one_more, more_left}
use Rattle.rb_wire_forest.specs.Versions.{version_at}
use Rattle.rb_wire_forest.specs.Passed.{behind, behind_all}
use Rattle.rb_wire_forest.specs.Opens.{node_left}
use Rattle.rb_wire_forest.proofs.Equations.{entry_read, forest_read, node_deep}
use Rattle.rb_wire_forest.proofs.Lefts.{left_read, node_front, with_end}

-- what a field's value leads to
abbrev pub skip_on : {A B : Type 0} → Read A → (A → List ℕ → Result B Fault) → Result B Fault
skip_on (Ok x) f = f x.0 x.1
skip_on (Err e) f = Err e

abbrev pub skip_next : {B : Type 0} → Result (List ℕ) Fault → (List ℕ → Result B Fault) → Result B Fault
skip_next (Ok rest) f = f rest
skip_next (Err e) f = Err e

behind_cond : {A : Type 0} (v : Bool) (x y : Read A) → behind (cond v x y) ≡ cond v (behind x) (behind y)
behind_cond true x y = refl
behind_cond false x y = refl

both : {A : Type 0} (v : Bool) (a b c d : A) → a ≡ b → c ≡ d → cond v a c ≡ cond v b d
both v a b c d h i = ap (λ x. cond v x c) h ∙ ap (λ y. cond v b y) i

-- what is made of a value takes no further bytes
finally : {A B : Type 0} (F : Format A) (g : A → B) (bytes : List ℕ) → behind (read (F >>= λ x. Done (g x)) bytes) ≡ behind (read F bytes)
unfolding read
finally F g bytes = ap behind (bound F (λ x. Done (g x)) bytes) ∙ go (read F bytes)
  where
    go : (r : Read _) → behind (on r (λ x rest. Ok (g x, rest))) ≡ behind r
    go (Ok x) = refl
    go (Err e) = refl

branch_skipped : (F : Format Node) (bytes : List ℕ) → behind (read (branch_entry F) bytes) ≡ skip_on (look Truth bytes) (λ taken rest. behind (read F rest))
unfolding read
branch_skipped F bytes = go (look Truth bytes)
  where
    go : (r : Read Bool) → behind (on r (λ taken rest. read (F >>= λ n. Done (tree.Branch taken n)) rest)) ≡ skip_on r (λ taken rest. behind (read F rest))
    go (Ok x) = finally F (λ n. tree.Branch x.0 n) x.1
    go (Err e) = refl

rows_skipped : (F : Format Node) (bytes : List ℕ) → behind (read (rows_entry F) bytes) ≡ skip_on (look Number bytes) (λ count rest. behind (read (times count F) rest))
unfolding read
rows_skipped F bytes = go (look Number bytes)
  where
    go : (r : Read ℕ) → behind (on r (λ count rest. read (times count F >>= λ turns. Done (tree.Rows (nodes_from turns))) rest)) ≡ skip_on r (λ count rest. behind (read (times count F) rest))
    go (Ok x) = finally (times x.0 F) (λ turns. tree.Rows (nodes_from turns)) x.1
    go (Err e) = refl

abbrev pub skip_by : Version → Format Node → ℕ → List ℕ → Result (List ℕ) Fault
skip_by version F b rest = cond (nat_eq b 0x31) (behind (read (value version) rest))
    (cond (nat_eq b 0x32) (skip_on (look Truth rest) (λ taken after. behind (read F after)))
    (cond (nat_eq b 0x33) (skip_on (look Number rest) (λ count after. behind (read (times count F) after))) (Err (bad_tag, length rest + 1))))

pub entry_skipped : (version : Version) (F : Format Node) (bytes : List ℕ) → behind (read (entry version F) bytes) ≡ skip_on (look Byte bytes) (λ b rest. skip_by version F b rest)
entry_skipped version F bytes = ap behind (entry_read version F bytes) ∙ go (look Byte bytes)
  where
    form : (b : ℕ) (rest : List ℕ) → behind (by_tag (entry_forms version F) b rest) ≡ skip_by version F b rest
    form b rest =
        behind_cond (nat_eq b 0x31) _ _
        ∙ both (nat_eq b 0x31) _ _ _ _ (finally (value version) (λ v. tree.Value v) rest)
        (behind_cond (nat_eq b 0x32) _ _
        ∙ both (nat_eq b 0x32) _ _ _ _ (branch_skipped F rest)
        (behind_cond (nat_eq b 0x33) _ _
        ∙ both (nat_eq b 0x33) _ _ _ _ (rows_skipped F rest) refl))

    go : (r : Read ℕ) → behind (on r (λ b rest. by_tag (entry_forms version F) b rest)) ≡ skip_on r (λ b rest. skip_by version F b rest)
    go (Ok x) = form x.0 x.1
    go (Err e) = refl

pub left_skipped : (version : Version) (n count : ℕ) (bytes : List ℕ) → behind (read (node_left version n count) bytes) ≡ skip_next (behind (read (times count (entry version (node version n))) bytes)) (λ rest. behind (read (end version) rest))
left_skipped version n count bytes = ap behind (left_read version n count bytes) ∙ go (read (times count (entry version (node version n))) bytes)
  where
    ended : (es : List Entry) (r : Read _) → behind (on r (λ f rest. Ok (Holds (entries_from es) f, rest))) ≡ behind r
    ended es (Ok x) = refl
    ended es (Err e) = refl

    go : (r : Read (List Entry)) → behind (on r (λ es rest. with_end version es rest)) ≡ skip_next (behind r) (λ rest. behind (read (end version) rest))
    go (Ok x) = ended x.0 (read (end version) x.1)
    go (Err e) = refl

abbrev pub skip_parts : Version → ℕ → List ℕ → Result (List ℕ) Fault
skip_parts version n bytes = skip_on (look Number bytes) (λ count rest. behind (read (node_left version n count) rest))

pub node_skipped : (version : Version) (n : ℕ) (bytes : List ℕ) → 0 < n → behind (read (node version n) bytes) ≡ skip_parts version (n - 1) bytes
node_skipped version zero bytes h = absurd (omega arith)
node_skipped version (suc n) bytes h =
    let e : suc n - 1 ≡ n = omega arith in
    ap behind (node_front version n bytes) ∙ go (look Number bytes) ∙ ap (λ m. skip_parts version m bytes) (sym e)
  where
    go : (r : Read ℕ) → behind (on r (λ count rest. read (node_left version n count) rest)) ≡ skip_on r (λ count rest. behind (read (node_left version n count) rest))
    go (Ok x) = refl
    go (Err e) = refl

-- ---- so many, in a loop

skip_more : {A : Type 0} (n : ℕ) (F : Format A) (bytes : List ℕ) → behind (read (times (suc n) F) bytes) ≡ skip_next (behind (read F bytes)) (λ rest. behind (read (times n F) rest))
skip_more {A} n F bytes = ap behind (one_more n F bytes) ∙ go (read F bytes)
  where
    more : (a : A) (r : Read (List A)) → behind (on r (λ xs rest. Ok (a ∷ xs, rest))) ≡ behind r
    more a (Ok x) = refl
    more a (Err e) = refl

    go : (r : Read A) → behind (on r (λ x rest. on (read (times n F) rest) (λ xs after. Ok (x ∷ xs, after)))) ≡ skip_next (behind r) (λ rest. behind (read (times n F) rest))
    go (Ok x) = more x.0 (read (times n F) x.1)
    go (Err e) = refl

skip_left : {A : Type 0} (F : Format A) (count i : ℕ) (bytes : List ℕ) → i < count → behind (read (times (count - i) F) bytes) ≡ skip_next (behind (read F bytes)) (λ rest. behind (read (times (count - (i + 1)) F) rest))
skip_left F count i bytes lt = ap (λ m. behind (read (times m F) bytes)) (more_left count i lt) ∙ skip_more (count - (i + 1)) F bytes

pub skips_on : {A : Type 0} (F : Format A) (count i : ℕ) (bytes after : List ℕ) (total : Result (List ℕ) Fault) → i < count → behind (read F bytes) ≡ Ok after
    → behind (read (times (count - i) F) bytes) ≡ total → behind (read (times (count - (i + 1)) F) after) ≡ total
skips_on F count i bytes after total lt h so_far = sym (skip_left F count i bytes lt ∙ ap (λ r. skip_next r (λ rest. behind (read (times (count - (i + 1)) F) rest))) h) ∙ so_far

pub skips_end : {A : Type 0} (F : Format A) (count i : ℕ) (bytes : List ℕ) (e : Fault) (total : Result (List ℕ) Fault) → i < count → behind (read F bytes) ≡ Err e
    → behind (read (times (count - i) F) bytes) ≡ total → total ≡ Err e
skips_end F count i bytes e total lt h so_far = sym so_far ∙ skip_left F count i bytes lt ∙ ap (λ r. skip_next r (λ rest. behind (read (times (count - (i + 1)) F) rest))) h

pub skips_done : {A : Type 0} (F : Format A) (count i : ℕ) (bytes : List ℕ) (total : Result (List ℕ) Fault) → count ≤ i → behind (read (times (count - i) F) bytes) ≡ total → total ≡ Ok bytes
unfolding times read
skips_done F count i bytes total le so_far =
    let k : count - i ≡ 0 = omega arith in
    sym so_far ∙ ap (λ m. behind (read (times m F) bytes)) k

-- ---- whole forests

pub forest_skipped : (bytes : List ℕ) → behind (read forest_message bytes) ≡ skip_on (version_at bytes) (λ version rest. behind (read (node version most_nodes) rest))
forest_skipped bytes = ap behind (forest_read bytes) ∙ go (version_at bytes)
  where
    go : (r : Read Version) → behind (on r (λ version rest. read (node version most_nodes) rest)) ≡ skip_on r (λ version rest. behind (read (node version most_nodes) rest))
    go (Ok x) = refl
    go (Err e) = refl

abbrev pub nothing_behind : List ℕ → Result (Unit {0}) Fault
nothing_behind [] = Ok tt
nothing_behind (b ∷ rest) = Err (trailing, length (b ∷ rest))

pub all_skipped : {A : Type 0} (F : Format A) (bytes : List ℕ) → behind_all (read_all F bytes) ≡ skip_next (behind (read F bytes)) nothing_behind
unfolding read_all
all_skipped {A} F bytes = go (read F bytes)
  where
    go : (r : Read A) → behind_all (on_all r) ≡ skip_next (behind r) nothing_behind
    go (Ok (x, [])) = refl
    go (Ok (x, b ∷ rest)) = refl
    go (Err e) = refl

pub ruleset nodes = (node_skipped, node_deep)

pub ruleset loops = (skips_on, skips_end, skips_done)

pub ruleset entries = (entry_skipped, nat_tests)

pub ruleset forest = (forest_skipped)

pub ruleset all = (all_skipped, common_steps)
