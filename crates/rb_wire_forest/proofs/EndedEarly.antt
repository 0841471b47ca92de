-- Whether a fault ends a part of a forest, a step at a time.
use Rattle.std.proofs.Common.{◌≡◌, ◌+◌, ◌-◌, ◌<◌, ℕ, zero, suc, List, [], ◌∷◌, ◌||◌, refl, ap, sym, ◌∙◌, arith, Result, Ok, Err, Bool, true, false, cond, nat_eq, length, Option, None, Some, is_some}
use Rattle.std.proofs.lemmas.Bool.Decides.{nat_tests}
use Rattle.std.proofs.lemmas.Grind.{common_steps}
use Rattle.rb_trees.specs.declared.versions.Version.{Version}
use Rattle.rb_trees.specs.declared.forests.NodeFault.{NodeFault}
use Rattle.rb_trees.specs.declared.values.Value.{Value}
use Rattle.rb_trees.specs.mirror.Forests as tree
use Rattle.rb_trees.specs.mirror.Forests.{Node, Holds, Entry, entries_from, nodes_from}
use Rattle.rb_meaning_bytes.specs.formats.Fields.{Byte, Number, Truth, bad_tag}
use Rattle.rb_meaning_bytes.specs.formats.Formats.{Format, Done, ◌>>=◌, times}
use Rattle.rb_meaning_bytes.specs.formats.Values.{value}
use Rattle.rb_meaning_bytes.specs.formats.Reading.{Fault, Read, read, look, on}
use Rattle.rb_meaning_bytes.specs.formats.Forests.{entry, entry_forms, end, node, branch_entry, rows_entry}
use Rattle.rb_meaning_bytes.specs.Fits.{step_of, is_left, ends_early, last_ends_early, entry_ends_early, last_turn_ends_early}
use Rattle.rb_meaning_bytes.proofs.formats.Exact.{bound}
use Rattle.rb_meaning_bytes.proofs.formats.Steps.{by_tag, one_more}
use Rattle.rb_wire_forest.specs.Passed.{behind, tested}
use Rattle.rb_wire_forest.specs.Opens.{node_left}
use Rattle.rb_wire_forest.specs.Fronts.{end_seen}
use Rattle.rb_wire_forest.specs.declared.heads.LentFault.{LentFault}
use Rattle.rb_wire_forest.proofs.Equations.{entry_read, node_deep}
use Rattle.rb_wire_forest.proofs.Lefts.{left_read, node_front, with_end}
use Rattle.rb_wire_forest.proofs.Skipped.{skip_on, skip_next}

-- ---- the last of so many

module _ {A : Type 0} (F : Format A) (one : A → Bool) (all : List A → Bool) where
  abbrev read_more : ℕ → Read A → Read (List A)
  read_more n r = on r (λ x rest. on (read (times n F) rest) (λ xs after. Ok (x ∷ xs, after)))

  abbrev with_first : A → Read (List A) → Read (List A)
  with_first x r = on r (λ xs after. Ok (x ∷ xs, after))

  abbrev last_of : Result (List ℕ) Fault → Read Bool
  last_of r = skip_next r (λ rest. tested one (read F rest))

  alone : ((x : A) → all (x ∷ []) ≡ one x) → (r : Read A) → tested all (read_more 0 r) ≡ tested one r
  unfolding read times
  alone single (Ok x) = ap (λ (b : Bool). Ok (b, x.1)) (single x.0)
  alone single (Err e) = refl

  passed : (x : A) (r : Read (List A)) → behind (with_first x r) ≡ behind r
  passed x (Ok xs) = refl
  passed x (Err e) = refl

  second : ((x y : A) (ys : List A) → all (x ∷ y ∷ ys) ≡ all (y ∷ ys)) → (x y : A) (r : Read (List A)) → tested all (with_first x (with_first y r)) ≡ tested all (with_first y r)
  second further x y (Ok ys) = ap (λ (b : Bool). Ok (b, ys.1)) (further x y ys.0)
  second further x y (Err e) = refl

  dropped : ((x y : A) (ys : List A) → all (x ∷ y ∷ ys) ≡ all (y ∷ ys)) → (n : ℕ) (x : A) (r : Read A) → tested all (with_first x (read_more n r)) ≡ tested all (read_more n r)
  dropped further n x (Ok y) = second further x y.0 (read (times n F) y.1)
  dropped further n x (Err e) = refl

  -- behind the first of at least two
  behind_first : ((x y : A) (ys : List A) → all (x ∷ y ∷ ys) ≡ all (y ∷ ys)) → (n : ℕ) → ((bytes : List ℕ) → tested all (read (times (suc n) F) bytes) ≡ last_of (behind (read (times n F) bytes)))
      → (r : Read A) → tested all (read_more (suc n) r) ≡ last_of (behind (read_more n r))
  behind_first further n so_far (Ok x) =
      ap (λ r. tested all (with_first x.0 r)) (one_more n F x.1) ∙ dropped further n x.0 (read F x.1) ∙ ap (λ r. tested all r) (sym (one_more n F x.1))
      ∙ so_far x.1 ∙ ap last_of (sym (passed x.0 (read (times n F) x.1)))
  behind_first further n so_far (Err e) = refl

  pub last_tested : ((x : A) → all (x ∷ []) ≡ one x) → ((x y : A) (ys : List A) → all (x ∷ y ∷ ys) ≡ all (y ∷ ys)) → (n : ℕ) (bytes : List ℕ)
      → tested all (read (times (suc n) F) bytes) ≡ last_of (behind (read (times n F) bytes))
  unfolding read times
  last_tested single further zero bytes = ap (λ r. tested all r) (one_more 0 F bytes) ∙ alone single (read F bytes)
  last_tested single further (suc n) bytes =
      ap (λ r. tested all r) (one_more (suc n) F bytes) ∙ behind_first further n (last_tested single further n) (read F bytes) ∙ ap (λ r. last_of (behind r)) (sym (one_more n F bytes))

abbrev pub last_entry : List Entry → Bool
last_entry es = last_ends_early (entries_from es)

abbrev pub last_turn : List Node → Bool
last_turn ns = last_turn_ends_early (nodes_from ns)

-- where there is one, the others are passed over
of_all : (count : ℕ) → 0 < count → count ≡ suc (count - 1)
of_all count h = omega (arith, h)

pub entries_tested : (F : Format Entry) (count : ℕ) (bytes : List ℕ) → 0 < count
    → tested last_entry (read (times count F) bytes) ≡ skip_next (behind (read (times (count - 1) F) bytes)) (λ rest. tested entry_ends_early (read F rest))
entries_tested F count bytes h =
    ap (λ n. tested last_entry (read (times n F) bytes)) (of_all count h) ∙ last_tested F entry_ends_early last_entry (λ x. refl) (λ x y ys. refl) (count - 1) bytes

pub turns_tested : (F : Format Node) (count : ℕ) (bytes : List ℕ) → 0 < count
    → tested last_turn (read (times count F) bytes) ≡ skip_next (behind (read (times (count - 1) F) bytes)) (λ rest. tested ends_early (read F rest))
turns_tested F count bytes h =
    ap (λ n. tested last_turn (read (times n F) bytes)) (of_all count h) ∙ last_tested F ends_early last_turn (λ x. refl) (λ x y ys. refl) (count - 1) bytes

-- .. and where there is none, none ends early
pub none_tested : {A : Type 0} (F : Format A) (all : List A → Bool) (bytes : List ℕ) → all [] ≡ false → tested all (read (times 0 F) bytes) ≡ Ok (false, bytes)
unfolding read times
none_tested F all bytes h = ap (λ (b : Bool). Ok (b, bytes)) h

-- ---- entries

-- what is made of a value is tested as the value
finally : {A B : Type 0} (F : Format A) (g : A → B) (test : B → Bool) (bytes : List ℕ) → tested test (read (F >>= λ x. Done (g x)) bytes) ≡ tested (λ x. test (g x)) (read F bytes)
unfolding read
finally F g test bytes = ap (λ r. tested test r) (bound F (λ x. Done (g x)) bytes) ∙ go (read F bytes)
  where
    go : (r : Read _) → tested test (on r (λ x rest. Ok (g x, rest))) ≡ tested (λ x. test (g x)) r
    go (Ok x) = refl
    go (Err e) = refl

branch_tested : (F : Format Node) (bytes : List ℕ) → tested entry_ends_early (read (branch_entry F) bytes) ≡ skip_on (look Truth bytes) (λ taken rest. tested ends_early (read F rest))
unfolding read
branch_tested F bytes = go (look Truth bytes)
  where
    go : (r : Read Bool) → tested entry_ends_early (on r (λ taken rest. read (F >>= λ n. Done (tree.Branch taken n)) rest)) ≡ skip_on r (λ taken rest. tested ends_early (read F rest))
    go (Ok x) = finally F (λ n. tree.Branch x.0 n) entry_ends_early x.1
    go (Err e) = refl

rows_tested : (F : Format Node) (bytes : List ℕ) → tested entry_ends_early (read (rows_entry F) bytes) ≡ skip_on (look Number bytes) (λ count rest. tested last_turn (read (times count F) rest))
unfolding read
rows_tested F bytes = go (look Number bytes)
  where
    go : (r : Read ℕ) → tested entry_ends_early (on r (λ count rest. read (times count F >>= λ turns. Done (tree.Rows (nodes_from turns))) rest)) ≡ skip_on r (λ count rest. tested last_turn (read (times count F) rest))
    go (Ok x) = finally (times x.0 F) (λ turns. tree.Rows (nodes_from turns)) entry_ends_early x.1
    go (Err e) = refl

tested_cond : {A : Type 0} (test : A → Bool) (v : Bool) (x y : Read A) → tested test (cond v x y) ≡ cond v (tested test x) (tested test y)
tested_cond test true x y = refl
tested_cond test false x y = refl

both : {A : Type 0} (v : Bool) (a b c d : A) → a ≡ b → c ≡ d → cond v a c ≡ cond v b d
both v a b c d h i = ap (λ x. cond v x c) h ∙ ap (λ y. cond v b y) i

value_tested : (r : Read Value) → tested (λ v. false) r ≡ skip_on r (λ v rest. Ok (false, rest))
value_tested (Ok x) = refl
value_tested (Err e) = refl

abbrev pub test_by : Version → Format Node → ℕ → List ℕ → Read Bool
test_by version F b rest = cond (nat_eq b 0x31) (skip_on (read (value version) rest) (λ v after. Ok (false, after)))
    (cond (nat_eq b 0x32) (skip_on (look Truth rest) (λ taken after. tested ends_early (read F after)))
    (cond (nat_eq b 0x33) (skip_on (look Number rest) (λ count after. tested last_turn (read (times count F) after))) (Err (bad_tag, length rest + 1))))

pub entry_tested : (version : Version) (F : Format Node) (bytes : List ℕ) → tested entry_ends_early (read (entry version F) bytes) ≡ skip_on (look Byte bytes) (λ b rest. test_by version F b rest)
entry_tested version F bytes = ap (λ r. tested entry_ends_early r) (entry_read version F bytes) ∙ go (look Byte bytes)
  where
    form : (b : ℕ) (rest : List ℕ) → tested entry_ends_early (by_tag (entry_forms version F) b rest) ≡ test_by version F b rest
    form b rest =
        tested_cond entry_ends_early (nat_eq b 0x31) _ _
        ∙ both (nat_eq b 0x31) _ _ _ _ (finally (value version) (λ v. tree.Value v) entry_ends_early rest ∙ value_tested (read (value version) rest))
        (tested_cond entry_ends_early (nat_eq b 0x32) _ _
        ∙ both (nat_eq b 0x32) _ _ _ _ (branch_tested F rest)
        (tested_cond entry_ends_early (nat_eq b 0x33) _ _
        ∙ both (nat_eq b 0x33) _ _ _ _ (rows_tested F rest) refl))

    go : (r : Read ℕ) → tested entry_ends_early (on r (λ b rest. by_tag (entry_forms version F) b rest)) ≡ skip_on r (λ b rest. test_by version F b rest)
    go (Ok x) = form x.0 x.1
    go (Err e) = refl

-- ---- nodes

-- a node's end, where its last entry ends early or not
abbrev pub with_fault : Bool → Read (Option NodeFault) → Read Bool
with_fault early r = skip_on r (λ f rest. Ok (is_left (step_of f) || early, rest))

left_tested : (version : Version) (n count : ℕ) (bytes : List ℕ) → tested ends_early (read (node_left version n count) bytes)
    ≡ skip_on (tested last_entry (read (times count (entry version (node version n))) bytes)) (λ early rest. with_fault early (read (end version) rest))
left_tested version n count bytes = ap (λ r. tested ends_early r) (left_read version n count bytes) ∙ go (read (times count (entry version (node version n))) bytes)
  where
    ended : (es : List Entry) (r : Read (Option NodeFault)) → tested ends_early (on r (λ f rest. Ok (Holds (entries_from es) f, rest))) ≡ with_fault (last_entry es) r
    ended es (Ok x) = refl
    ended es (Err e) = refl

    go : (r : Read (List Entry)) → tested ends_early (on r (λ es rest. with_end version es rest)) ≡ skip_on (tested last_entry r) (λ early rest. with_fault early (read (end version) rest))
    go (Ok x) = ended x.0 (read (end version) x.1)
    go (Err e) = refl

abbrev pub test_parts : Version → ℕ → List ℕ → Read Bool
test_parts version n bytes = skip_on (look Number bytes) (λ count rest.
    skip_on (tested last_entry (read (times count (entry version (node version n))) rest)) (λ early after. with_fault early (read (end version) after)))

pub node_tested : (version : Version) (n : ℕ) (bytes : List ℕ) → 0 < n → tested ends_early (read (node version n) bytes) ≡ test_parts version (n - 1) bytes
node_tested version zero bytes h = absurd (omega arith)
node_tested version (suc n) bytes h =
    let e : suc n - 1 ≡ n = omega arith in
    ap (λ r. tested ends_early r) (node_front version n bytes) ∙ go (look Number bytes) ∙ ap (λ m. test_parts version m bytes) (sym e)
  where
    go : (r : Read ℕ) → tested ends_early (on r (λ count rest. read (node_left version n count) rest))
        ≡ skip_on r (λ count rest. skip_on (tested last_entry (read (times count (entry version (node version n))) rest)) (λ early after. with_fault early (read (end version) after)))
    go (Ok x) = left_tested version n x.0 x.1
    go (Err e) = refl

-- what is seen of a fault
pub fault_seen_left : (f : Option LentFault) → is_left (step_of (end_seen f)) ≡ is_some f
fault_seen_left None = refl
fault_seen_left (Some f) = refl

pub ruleset nodes = (node_tested, node_deep, fault_seen_left, common_steps)

pub ruleset entries = (entries_tested, none_tested, common_steps)

pub ruleset turns = (turns_tested, none_tested, common_steps)

pub ruleset forms = (entry_tested, nat_tests)
