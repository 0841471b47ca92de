-- What the front of an entry leads to.
use Rattle.std.proofs.Common.{◌≡◌, ℕ, zero, suc, List, [], ◌∷◌, length, refl, ap, sym, ◌∙◌, subst, Ok, Err, Option, Some, None, Bool, true, false, cond, nat_eq, is_some, option_map}
use Rattle.rb_trees.specs.declared.versions.Version.{Version}
use Rattle.rb_trees.specs.declared.values.Value.{Value}
use Rattle.rb_trees.specs.declared.forests.NodeFault.{NodeFault}
use Rattle.rb_trees.specs.mirror.Forests as tree
use Rattle.rb_trees.specs.mirror.Forests.{Node, Holds, Entry, Entries, NoEntries, MoreEntries, Nodes, NoNodes, MoreNodes, nodes_from}
use Rattle.rb_meaning_bytes.specs.formats.Fields.{Byte, Number, Truth}
use Rattle.rb_meaning_bytes.specs.formats.Formats.{Format, Done, ◌>>=◌, times}
use Rattle.rb_meaning_bytes.specs.formats.Values.{value}
use Rattle.rb_meaning_bytes.specs.formats.Reading.{Read, read, look, on}
use Rattle.rb_meaning_bytes.specs.formats.Forests.{node, entry, entry_forms, end, value_entry, branch_entry, rows_entry}
use Rattle.rb_meaning_bytes.specs.formats.ForestBytes.{count_nodes}
use Rattle.rb_meaning_bytes.proofs.formats.Exact.{bound}
use Rattle.rb_meaning_bytes.proofs.formats.Steps.{by_tag}
use Rattle.rb_wire_forest.specs.Opens.{Open, AtNode, AtRows, Below, on_read, node_left, node_open, rows_open}
use Rattle.rb_wire_forest.specs.Fronts.{Head, ValueHead, BranchHead, RowsHead, head, head_by, value_at, branch_at, rows_at}
use Rattle.rb_wire_forest.proofs.Equations.{entry_read, node_deep}
use Rattle.rb_wire_forest.proofs.Lefts.{entry_left, node_front, first_on, end_left, turn_left, many_read}

abbrev pub on_head : {B : Type 0} → Option (Head × List ℕ) → (Head → List ℕ → Option B) → Option B
on_head (Some x) f = f x.0 x.1
on_head None f = None

-- the node that has so many entries
abbrev pub node_then : (version : Version) {B : Type 0} → ℕ → ℕ → List ℕ → (Node → List ℕ → Option B) → Option B
node_then version zero count rest K = None
node_then version (suc m) count rest K = on_read (read (node_left version m count) rest) K

-- the entry that has this front
abbrev pub by_head : (version : Version) {B : Type 0} → ℕ → Head → List ℕ → (Entry → List ℕ → Option B) → Option B
by_head version n (ValueHead v) rest K = K (tree.Value v) rest
by_head version n (BranchHead taken count) rest K = node_then version n count rest (λ nd after. K (tree.Branch taken nd) after)
by_head version n (RowsHead count) rest K = on_read (read (times count (node version n)) rest) (λ ns after. K (tree.Rows (nodes_from ns)) after)

module _ {B : Type 0} where
  on_read_cond : {A : Type 0} (v : Bool) (x y : Read A) (K : A → List ℕ → Option B) → on_read (cond v x y) K ≡ cond v (on_read x K) (on_read y K)
  on_read_cond true x y K = refl
  on_read_cond false x y K = refl

  on_head_cond : (v : Bool) (x y : Option (Head × List ℕ)) (K : Head → List ℕ → Option B) → on_head (cond v x y) K ≡ cond v (on_head x K) (on_head y K)
  on_head_cond true x y K = refl
  on_head_cond false x y K = refl

  both : (v : Bool) (a b c d : Option B) → a ≡ b → c ≡ d → cond v a c ≡ cond v b d
  both v a b c d h i = ap (λ x. cond v x c) h ∙ ap (λ y. cond v b y) i

  finally : {A C : Type 0} (F : Format A) (g : A → C) (bytes : List ℕ) (K : C → List ℕ → Option B) → on_read (read (F >>= λ x. Done (g x)) bytes) K ≡ on_read (read F bytes) (λ x rest. K (g x) rest)
  unfolding read
  finally F g bytes K = ap (λ r. on_read r K) (bound F (λ x. Done (g x)) bytes) ∙ go (read F bytes)
    where
      go : (r : Read _) → on_read (on r (λ x rest. Ok (g x, rest))) K ≡ on_read r (λ x rest. K (g x) rest)
      go (Ok x) = refl
      go (Err e) = refl

  value_by : (version : Version) (n : ℕ) (bytes : List ℕ) (K : Entry → List ℕ → Option B) → on_read (read (value_entry version) bytes) K ≡ on_head (value_at version bytes) (λ h rest. by_head version n h rest K)
  value_by version n bytes K = finally (value version) (λ v. tree.Value v) bytes K ∙ go (read (value version) bytes)
    where
      go : (r : Read Value) → on_read r (λ v rest. K (tree.Value v) rest) ≡ on_head (on_read r (λ v rest. Some (ValueHead v, rest))) (λ h rest. by_head version n h rest K)
      go (Ok x) = refl
      go (Err e) = refl

  node_by : (version : Version) (n : ℕ) (bytes : List ℕ) (K : Node → List ℕ → Option B) → on_read (read (node version n) bytes) K ≡ on_read (look Number bytes) (λ count rest. node_then version n count rest K)
  node_by version zero bytes K = ap (λ r. on_read r K) (node_deep version 0 bytes refl) ∙ go (look Number bytes)
    where
      go : (r : Read ℕ) → None ≡ on_read r (λ count rest. node_then version zero count rest K)
      go (Ok x) = refl
      go (Err e) = refl
  node_by version (suc m) bytes K = ap (λ r. on_read r K) (node_front version m bytes) ∙ go (look Number bytes)
    where
      go : (r : Read ℕ) → on_read (on r (λ count rest. read (node_left version m count) rest)) K ≡ on_read r (λ count rest. on_read (read (node_left version m count) rest) K)
      go (Ok x) = refl
      go (Err e) = refl

  branch_by : (version : Version) (n : ℕ) (bytes : List ℕ) (K : Entry → List ℕ → Option B) → on_read (read (branch_entry (node version n)) bytes) K ≡ on_head (branch_at bytes) (λ h rest. by_head version n h rest K)
  unfolding read
  branch_by version n bytes K = go (look Truth bytes)
    where
      inner : (taken : Bool) (r : Read ℕ) → on_read r (λ count rest. node_then version n count rest (λ nd after. K (tree.Branch taken nd) after))
          ≡ on_head (on_read r (λ count rest. Some (BranchHead taken count, rest))) (λ h rest. by_head version n h rest K)
      inner taken (Ok x) = refl
      inner taken (Err e) = refl

      go : (r : Read Bool) → on_read (on r (λ taken rest. read (node version n >>= λ nd. Done (tree.Branch taken nd)) rest)) K
          ≡ on_head (on_read r (λ taken rest. on_read (look Number rest) (λ count after. Some (BranchHead taken count, after)))) (λ h rest. by_head version n h rest K)
      go (Ok x) = finally (node version n) (λ nd. tree.Branch x.0 nd) x.1 K ∙ node_by version n x.1 (λ nd after. K (tree.Branch x.0 nd) after) ∙ inner x.0 (look Number x.1)
      go (Err e) = refl

  rows_by : (version : Version) (n : ℕ) (bytes : List ℕ) (K : Entry → List ℕ → Option B) → on_read (read (rows_entry (node version n)) bytes) K ≡ on_head (rows_at bytes) (λ h rest. by_head version n h rest K)
  unfolding read
  rows_by version n bytes K = go (look Number bytes)
    where
      go : (r : Read ℕ) → on_read (on r (λ count rest. read (times count (node version n) >>= λ ns. Done (tree.Rows (nodes_from ns))) rest)) K
          ≡ on_head (on_read r (λ count rest. Some (RowsHead count, rest))) (λ h rest. by_head version n h rest K)
      go (Ok x) = finally (times x.0 (node version n)) (λ ns. tree.Rows (nodes_from ns)) x.1 K
      go (Err e) = refl

  -- reading an entry goes by its front
  pub entry_by : (version : Version) (n : ℕ) (bytes : List ℕ) (K : Entry → List ℕ → Option B) → on_read (read (entry version (node version n)) bytes) K ≡ on_head (head version bytes) (λ h rest. by_head version n h rest K)
  unfolding head
  entry_by version n bytes K = ap (λ r. on_read r K) (entry_read version (node version n) bytes) ∙ go (look Byte bytes)
    where
      form : (b : ℕ) (rest : List ℕ) → on_read (by_tag (entry_forms version (node version n)) b rest) K ≡ on_head (head_by version b rest) (λ h after. by_head version n h after K)
      form b rest =
          on_read_cond (nat_eq b 0x31) _ _ K
          ∙ both (nat_eq b 0x31) _ _ _ _ (value_by version n rest K)
          (on_read_cond (nat_eq b 0x32) _ _ K
          ∙ both (nat_eq b 0x32) _ _ _ _ (branch_by version n rest K)
          (on_read_cond (nat_eq b 0x33) _ _ K
          ∙ both (nat_eq b 0x33) _ _ _ _ (rows_by version n rest K) refl
          ∙ sym (on_head_cond (nat_eq b 0x33) _ _ _))
          ∙ sym (on_head_cond (nat_eq b 0x32) _ _ _))
          ∙ sym (on_head_cond (nat_eq b 0x31) _ _ _)

      go : (r : Read ℕ) → on_read (on r (λ b rest. by_tag (entry_forms version (node version n)) b rest)) K ≡ on_head (on_read r (λ b rest. head_by version b rest)) (λ h rest. by_head version n h rest K)
      go (Ok x) = form x.0 x.1
      go (Err e) = refl

-- ---- what is open, with an entry in front

abbrev pub at_node : Below → Node → List ℕ → Option (List Open)
at_node below left rest = option_map (λ os. AtNode left ∷ os) (below rest)

-- after the front of an entry
abbrev pub behind_first : Version → ℕ → ℕ → Below → Entry → List ℕ → Option (List Open)
behind_first version n e below x rest = on_read (first_on x (read (node_left version n e) rest)) (at_node below)

pub open_by : (version : Version) (n e : ℕ) (below : Below) (bytes : List ℕ) → node_open version n (suc e) below bytes ≡ on_head (head version bytes) (λ h rest. by_head version n h rest (behind_first version n e below))
unfolding node_open
open_by version n e below bytes = ap (λ r. on_read r (at_node below)) (entry_left version n e bytes) ∙ go (read (entry version (node version n)) bytes) ∙ entry_by version n bytes (behind_first version n e below)
  where
    go : (r : Read Entry) → on_read (on r (λ x rest. first_on x (read (node_left version n e) rest))) (at_node below) ≡ on_read r (behind_first version n e below)
    go (Ok x) = refl
    go (Err d) = refl

-- what the front of an entry leads to, where these are the entry, those after it, their node's fault and what is open further out
abbrev pub Leads : Version → ℕ → ℕ → Below → Head → List ℕ → Entry → Entries → Option NodeFault → List Open → Type 0
Leads version n e below (ValueHead v) rest first es f os = (first ≡ tree.Value v) × (node_open version n e below rest ≡ Some (AtNode (Holds es f) ∷ os))
Leads version n e below (BranchHead taken count) rest first es f os =
    (nd : Node) × (m : ℕ) × (n ≡ suc m) × (first ≡ tree.Branch taken nd) × (node_open version m count (node_open version n e below) rest ≡ Some (AtNode nd ∷ AtNode (Holds es f) ∷ os))
Leads version n e below (RowsHead count) rest first es f os =
    (ns : Nodes) × (count_nodes ns ≡ count) × (first ≡ tree.Rows ns) × (rows_open version n count (node_open version n e below) rest ≡ Some (AtRows ns ∷ AtNode (Holds es f) ∷ os))

pub record Ahead (version : Version) (n e : ℕ) (below : Below) (h : Head) (rest : List ℕ) (old : Option (List Open)) : Type 0 where
  pub first : Entry
  pub es : Entries
  pub f : Option NodeFault
  pub os : List Open
  pub old_is : old ≡ Some (AtNode (Holds (MoreEntries first es) f) ∷ os)
  pub leads : Leads version n e below h rest first es f os

-- the entries after the front, and what is open further out
record Rest (version : Version) (n e : ℕ) (below : Below) (x : Entry) (bytes : List ℕ) : Type 0 where
  pub es : Entries
  pub f : Option NodeFault
  pub os : List Open
  pub with_it : behind_first version n e below x bytes ≡ Some (AtNode (Holds (MoreEntries x es) f) ∷ os)
  pub without : node_open version n e below bytes ≡ Some (AtNode (Holds es f) ∷ os)

rest_of : (version : Version) (n e : ℕ) (below : Below) (x : Entry) (bytes : List ℕ) → is_some (behind_first version n e below x bytes) ≡ true → Rest version n e below x bytes
unfolding node_open
rest_of version n e below x bytes h = go (read (node_left version n e) bytes) refl h
  where
    last : (es : Entries) (f : Option NodeFault) (after : List ℕ) (o : Option (List Open)) → read (node_left version n e) bytes ≡ Ok (Holds es f, after) → below after ≡ o → is_some (option_map (λ os. AtNode (Holds (MoreEntries x es) f) ∷ os) o) ≡ true → Rest version n e below x bytes
    last es f after (Some os) i j k =
        record {
          es = es;
          f = f;
          os = os;
          with_it = ap (λ r. on_read (first_on x r) (at_node below)) i ∙ ap (option_map (λ os. AtNode (Holds (MoreEntries x es) f) ∷ os)) j;
          without = ap (λ r. on_read r (at_node below)) i ∙ ap (option_map (λ os. AtNode (Holds es f) ∷ os)) j;
        }
    last es f after None i j k = absurd cc

    go : (r : Read Node) → read (node_left version n e) bytes ≡ r → is_some (on_read (first_on x r) (at_node below)) ≡ true → Rest version n e below x bytes
    go (Ok (Holds es f, after)) i k = last es f after (below after) i refl k
    go (Err d) i k = absurd cc

pub ahead : (version : Version) (n e : ℕ) (below : Below) (bytes : List ℕ) (h : Head) (rest : List ℕ) → head version bytes ≡ Some (h, rest) → is_some (node_open version n (suc e) below bytes) ≡ true → Ahead version n e below h rest (node_open version n (suc e) below bytes)
unfolding node_open rows_open
ahead version n e below bytes h rest i s =
    let is : node_open version n (suc e) below bytes ≡ by_head version n h rest (behind_first version n e below) = open_by version n e below bytes ∙ ap (λ o. on_head o (λ h rest. by_head version n h rest (behind_first version n e below))) i in
    subst (λ o. Ahead version n e below h rest o) (sym is) (go h (ap is_some (sym is) ∙ s))
  where
    branch : (taken : Bool) (m count : ℕ) → n ≡ suc m → (r : Read Node) → read (node_left version m count) rest ≡ r → is_some (on_read r (λ nd after. behind_first version n e below (tree.Branch taken nd) after)) ≡ true
        → Ahead version n e below (BranchHead taken count) rest (on_read r (λ nd after. behind_first version n e below (tree.Branch taken nd) after))
    branch taken m count j (Ok x) k t =
        let it = rest_of version n e below (tree.Branch taken x.0) x.1 t in
        record {
          first = tree.Branch taken x.0;
          es = it.es;
          f = it.f;
          os = it.os;
          old_is = it.with_it;
          leads = (x.0, m, j, refl, ap (λ r. on_read r (at_node (node_open version n e below))) k ∙ ap (option_map (λ os. AtNode x.0 ∷ os)) it.without);
        }
    branch taken m count j (Err d) k t = absurd cc

    branches : (taken : Bool) (m count : ℕ) → n ≡ m → is_some (node_then version m count rest (λ nd after. behind_first version n e below (tree.Branch taken nd) after)) ≡ true
        → Ahead version n e below (BranchHead taken count) rest (node_then version m count rest (λ nd after. behind_first version n e below (tree.Branch taken nd) after))
    branches taken zero count j t = absurd cc
    branches taken (suc m) count j t = branch taken m count j (read (node_left version m count) rest) refl t

    counted : (ns : List Node) → count_nodes (nodes_from ns) ≡ length ns
    counted [] = refl
    counted (m ∷ ms) = ap suc (counted ms)

    rows : (count : ℕ) (r : Read (List Node)) → read (times count (node version n)) rest ≡ r → is_some (on_read r (λ ns after. behind_first version n e below (tree.Rows (nodes_from ns)) after)) ≡ true
        → Ahead version n e below (RowsHead count) rest (on_read r (λ ns after. behind_first version n e below (tree.Rows (nodes_from ns)) after))
    rows count (Ok x) k t =
        let it = rest_of version n e below (tree.Rows (nodes_from x.0)) x.1 t in
        record {
          first = tree.Rows (nodes_from x.0);
          es = it.es;
          f = it.f;
          os = it.os;
          old_is = it.with_it;
          leads = (nodes_from x.0, counted x.0 ∙ many_read count (node version n) rest x k, refl, ap (λ r. on_read r (λ turns after. option_map (λ os. AtRows (nodes_from turns) ∷ os) (node_open version n e below after))) k ∙ ap (option_map (λ os. AtRows (nodes_from x.0) ∷ os)) it.without);
        }
    rows count (Err d) k t = absurd cc

    go : (h : Head) → is_some (by_head version n h rest (behind_first version n e below)) ≡ true → Ahead version n e below h rest (by_head version n h rest (behind_first version n e below))
    go (ValueHead v) t =
        let it = rest_of version n e below (tree.Value v) rest t in
        record { first = tree.Value v; es = it.es; f = it.f; os = it.os; old_is = it.with_it; leads = (refl, it.without) }
    go (BranchHead taken count) t = branches taken n count refl t
    go (RowsHead count) t = rows count (read (times count (node version n)) rest) refl t

-- there is a front
pub has_head : (version : Version) (n e : ℕ) (below : Below) (bytes : List ℕ) → is_some (node_open version n (suc e) below bytes) ≡ true → is_some (head version bytes) ≡ true
has_head version n e below bytes s = go (head version bytes) (ap is_some (sym (open_by version n e below bytes)) ∙ s)
  where
    go : (o : Option (Head × List ℕ)) → is_some (on_head o (λ h rest. by_head version n h rest (behind_first version n e below))) ≡ true → is_some o ≡ true
    go (Some x) t = refl
    go None t = absurd cc

-- ---- what is open, with nothing left

-- the end of a node without entries, and what is open further out
pub record Ended (below : Below) (f : Option NodeFault) (rest : List ℕ) (old : Option (List Open)) : Type 0 where
  pub os : List Open
  pub old_is : old ≡ Some (AtNode (Holds NoEntries f) ∷ os)
  pub further : below rest ≡ Some os

pub ended : (version : Version) (n : ℕ) (below : Below) (bytes : List ℕ) (f : Option NodeFault) (rest : List ℕ) → read (end version) bytes ≡ Ok (f, rest) → is_some (node_open version n 0 below bytes) ≡ true → Ended below f rest (node_open version n 0 below bytes)
unfolding node_open
ended version n below bytes f rest i s =
    let is : node_open version n 0 below bytes ≡ at_node below (Holds NoEntries f) rest = ap (λ r. on_read r (at_node below)) (end_left version n bytes) ∙ ap (λ r. on_read (on r (λ g after. Ok (Holds NoEntries g, after))) (at_node below)) i in
    subst (λ o. Ended below f rest o) (sym is) (go (below rest) refl (ap is_some (sym is) ∙ s))
  where
    go : (o : Option (List Open)) → below rest ≡ o → is_some (option_map (λ os. AtNode (Holds NoEntries f) ∷ os) o) ≡ true → Ended below f rest (option_map (λ os. AtNode (Holds NoEntries f) ∷ os) (below rest))
    go (Some os) j t = record { os = os; old_is = ap (option_map (λ os. AtNode (Holds NoEntries f) ∷ os)) j; further = j }
    go None j t = absurd cc

-- there is an end
pub has_end : (version : Version) (n : ℕ) (below : Below) (bytes : List ℕ) (e : _) → read (end version) bytes ≡ Err e → is_some (node_open version n 0 below bytes) ≡ true → ⊥
unfolding node_open
has_end version n below bytes e i s =
    let is : node_open version n 0 below bytes ≡ None = ap (λ r. on_read r (at_node below)) (end_left version n bytes) ∙ ap (λ r. on_read (on r (λ g after. Ok (Holds NoEntries g, after))) (at_node below)) i in
    absurd cc

-- ---- turns

abbrev pub at_rows : Below → List Node → List ℕ → Option (List Open)
at_rows below ns rest = option_map (λ os. AtRows (nodes_from ns) ∷ os) (below rest)

-- the next node of a Rows, those after it, and what is open further out
pub record Turned (version : Version) (n count turns : ℕ) (below : Below) (rest : List ℕ) (old : Option (List Open)) : Type 0 where
  pub m : ℕ
  pub n_is : n ≡ suc m
  pub nd : Node
  pub ns : Nodes
  pub os : List Open
  pub old_is : old ≡ Some (AtRows (MoreNodes nd ns) ∷ os)
  pub new_is : node_open version m count (rows_open version n turns below) rest ≡ Some (AtNode nd ∷ AtRows ns ∷ os)

pub turned : (version : Version) (n turns : ℕ) (below : Below) (bytes : List ℕ) (count : ℕ) (rest : List ℕ) → look Number bytes ≡ Ok (count, rest) → is_some (rows_open version n (suc turns) below bytes) ≡ true → Turned version n count turns below rest (rows_open version n (suc turns) below bytes)
unfolding rows_open node_open
turned version n turns below bytes count rest i s =
    let is : rows_open version n (suc turns) below bytes ≡ next n = ap (λ r. on_read r (at_rows below)) (turn_left turns (node version n) bytes) ∙ lift (read (node version n) bytes) ∙ node_by version n bytes behind ∙ ap (λ r. on_read r (λ c after. node_then version n c after behind)) i in
    subst (λ o. Turned version n count turns below rest o) (sym is) (cases n refl (ap is_some (sym is) ∙ s))
  where
    -- after the node that is opened
    behind : Node → List ℕ → Option (List Open)
    behind nd after = on_read (on (read (times turns (node version n)) after) (λ xs r. Ok (nd ∷ xs, r))) (at_rows below)

    next : ℕ → Option (List Open)
    next m = node_then version m count rest behind

    lift : (r : Read Node) → on_read (on r (λ x after. on (read (times turns (node version n)) after) (λ xs q. Ok (x ∷ xs, q)))) (at_rows below) ≡ on_read r behind
    lift (Ok x) = refl
    lift (Err d) = refl

    last : (m : ℕ) → n ≡ suc m → (nd : Node) (after : List ℕ) → read (node_left version m count) rest ≡ Ok (nd, after) → (xs : List Node) (q : List ℕ) → read (times turns (node version n)) after ≡ Ok (xs, q) → (o : Option (List Open)) → below q ≡ o
        → is_some (option_map (λ os. AtRows (nodes_from (nd ∷ xs)) ∷ os) o) ≡ true → Turned version n count turns below rest (option_map (λ os. AtRows (nodes_from (nd ∷ xs)) ∷ os) o)
    last m j nd after k xs q l (Some os) u t =
        record {
          m = m;
          n_is = j;
          nd = nd;
          ns = nodes_from xs;
          os = os;
          old_is = refl;
          new_is = ap (λ r. on_read r (at_node (rows_open version n turns below))) k
              ∙ ap (option_map (λ os. AtNode nd ∷ os)) (ap (λ r. on_read r (at_rows below)) l ∙ ap (option_map (λ os. AtRows (nodes_from xs) ∷ os)) u);
        }
    last m j nd after k xs q l None u t = absurd cc

    later : (m : ℕ) → n ≡ suc m → (nd : Node) (after : List ℕ) → read (node_left version m count) rest ≡ Ok (nd, after) → (r : Read (List Node)) → read (times turns (node version n)) after ≡ r
        → is_some (on_read (on r (λ xs q. Ok (nd ∷ xs, q))) (at_rows below)) ≡ true → Turned version n count turns below rest (on_read (on r (λ xs q. Ok (nd ∷ xs, q))) (at_rows below))
    later m j nd after k (Ok x) l t = last m j nd after k x.0 x.1 l (below x.1) refl t
    later m j nd after k (Err d) l t = absurd cc

    opened : (m : ℕ) → n ≡ suc m → (r : Read Node) → read (node_left version m count) rest ≡ r → is_some (on_read r behind) ≡ true → Turned version n count turns below rest (on_read r behind)
    opened m j (Ok x) k t = later m j x.0 x.1 k (read (times turns (node version n)) x.1) refl t
    opened m j (Err d) k t = absurd cc

    cases : (m : ℕ) → n ≡ m → is_some (next m) ≡ true → Turned version n count turns below rest (next m)
    cases zero j t = absurd cc
    cases (suc m) j t = opened m j (read (node_left version m count) rest) refl t

-- the number of the next node's entries is there
pub has_count : (version : Version) (n turns : ℕ) (below : Below) (bytes : List ℕ) (e : _) → look Number bytes ≡ Err e → is_some (rows_open version n (suc turns) below bytes) ≡ true → ⊥
unfolding rows_open
has_count version n turns below bytes e i s =
    let is : rows_open version n (suc turns) below bytes ≡ None = ap (λ r. on_read r (at_rows below)) (turn_left turns (node version n) bytes) ∙ lift (read (node version n) bytes) ∙ node_by version n bytes behind ∙ ap (λ r. on_read r (λ c after. node_then version n c after behind)) i in
    absurd cc
  where
    behind : Node → List ℕ → Option (List Open)
    behind nd after = on_read (on (read (times turns (node version n)) after) (λ xs r. Ok (nd ∷ xs, r))) (at_rows below)

    lift : (r : Read Node) → on_read (on r (λ x after. on (read (times turns (node version n)) after) (λ xs q. Ok (x ∷ xs, q)))) (at_rows below) ≡ on_read r behind
    lift (Ok x) = refl
    lift (Err d) = refl

-- no turns are left
pub no_turns : (version : Version) (n : ℕ) (below : Below) (bytes : List ℕ) → rows_open version n 0 below bytes ≡ option_map (λ os. AtRows NoNodes ∷ os) (below bytes)
unfolding rows_open times read
no_turns version n below bytes = refl

-- a Rows is open
pub rows_first : (version : Version) (n count : ℕ) (below : Below) (bytes : List ℕ) → is_some (rows_open version n count below bytes) ≡ true → (ns : Nodes) × (os : List Open) × (count_nodes ns ≡ count) × (rows_open version n count below bytes ≡ Some (AtRows ns ∷ os))
unfolding rows_open
rows_first version n count below bytes s = go (read (times count (node version n)) bytes) refl s
  where
    counted : (ns : List Node) → count_nodes (nodes_from ns) ≡ length ns
    counted [] = refl
    counted (m ∷ ms) = ap suc (counted ms)

    last : (x : List Node × List ℕ) → length x.0 ≡ count → (o : Option (List Open)) → is_some (option_map (λ os. AtRows (nodes_from x.0) ∷ os) o) ≡ true → (ns : Nodes) × (os : List Open) × (count_nodes ns ≡ count) × (option_map (λ os. AtRows (nodes_from x.0) ∷ os) o ≡ Some (AtRows ns ∷ os))
    last x l (Some os) t = (nodes_from x.0, os, counted x.0 ∙ l, refl)
    last x l None t = absurd cc

    go : (r : Read (List Node)) → read (times count (node version n)) bytes ≡ r → is_some (on_read r (at_rows below)) ≡ true → (ns : Nodes) × (os : List Open) × (count_nodes ns ≡ count) × (on_read r (at_rows below) ≡ Some (AtRows ns ∷ os))
    go (Ok x) i t = last x (many_read count (node version n) bytes x i) (below x.1) t
    go (Err d) i t = absurd cc

-- what is open is not nothing
pub node_there : (version : Version) (n count : ℕ) (below : Below) (bytes : List ℕ) → node_open version n count below bytes ≡ Some [] → ⊥
unfolding node_open
node_there version n count below bytes h = go (read (node_left version n count) bytes) h
  where
    last : (nd : Node) (o : Option (List Open)) → option_map (λ os. AtNode nd ∷ os) o ≡ Some [] → ⊥
    last nd (Some os) i = absurd cc
    last nd None i = absurd cc

    go : (r : Read Node) → on_read r (at_node below) ≡ Some [] → ⊥
    go (Ok x) i = last x.0 (below x.1) i
    go (Err d) i = absurd cc

pub rows_there : (version : Version) (n count : ℕ) (below : Below) (bytes : List ℕ) → rows_open version n count below bytes ≡ Some [] → ⊥
unfolding rows_open
rows_there version n count below bytes h = go (read (times count (node version n)) bytes) h
  where
    last : (ns : List Node) (o : Option (List Open)) → option_map (λ os. AtRows (nodes_from ns) ∷ os) o ≡ Some [] → ⊥
    last ns (Some os) i = absurd cc
    last ns None i = absurd cc

    go : (r : Read (List Node)) → on_read r (at_rows below) ≡ Some [] → ⊥
    go (Ok x) i = last x.0 (below x.1) i
    go (Err d) i = absurd cc
