-- Entries that were added, and the nodes that they make.
use Rattle.std.proofs.Common.{◌≡◌, ◌+◌, ◌%◌, ◌^◌, refl, sym, ap, ◌∙◌, subst, arith, ℕ, List, [], ◌∷◌, ◌++◌, append_assoc, append-nil, length}
use Rattle.std.specs.Prelude.{Bool, true, false, is_some, Option, None, Some}
use Rattle.rb_trees.specs.declared.values.Value.{Value}
use Rattle.rb_trees.specs.declared.forests.NodeFault.{NodeFault}
use Rattle.rb_trees.specs.declared.versions.Version.{Version}
use Rattle.rb_trees.specs.mirror.Forests as forest
use Rattle.rb_trees.specs.mirror.Forests.{Node, Holds, Entry, Entries, NoEntries, MoreEntries, Nodes, NoNodes}
use Rattle.rb_meaning_bytes.specs.formats.Fields.{number, truth}
use Rattle.rb_meaning_bytes.specs.formats.ForestBytes.{end_bytes, entry_bytes, entries_bytes, count_entries, node_bytes, nodes_bytes, count_nodes}
use Rattle.rb_meaning_code.specs.Remote.{Server}
use Rattle.rb_meaning_code.specs.ScriptRun.{Ran, in_front, with_entry, with_kept}
use Rattle.rb_wire_fields.specs.Buffers.{Keeps}
use Rattle.rb_wire_fields.proofs.Kept.{keeps_more, same_bits}
use Rattle.rb_exec.specs.Holes.{filled}
use Rattle.rb_exec.specs.Stages.{with_first, if_kept}
use Rattle.rb_exec.specs.Written.{Written, written, Adds, AddsEntries, AddsNodes, Gains}
use Rattle.rb_exec.specs.Blocks.{with_entries, WroteNode, first_entries}
use Rattle.rb_exec.proofs.Patched.{filled_in}

-- entries, and others behind them

abbrev pub entries_after : Entries → Entries → Entries
entries_after NoEntries others = others
entries_after (MoreEntries e es) others = MoreEntries e (entries_after es others)

after_bytes : (version : Version) (es others : Entries) → entries_bytes version (entries_after es others) ≡ entries_bytes version es ++ entries_bytes version others
after_bytes version NoEntries others = refl
after_bytes version (MoreEntries e es) others =
    ap (λ l. entry_bytes version e ++ l) (after_bytes version es others) ∙ sym (append_assoc (entry_bytes version e) (entries_bytes version es) (entries_bytes version others))

after_count : (es others : Entries) → count_entries (entries_after es others) ≡ count_entries es + count_entries others
after_count NoEntries others = omega arith
after_count (MoreEntries e es) others = let h = after_count es others in omega (arith, h)

pub with_after : (es others : Entries) (r : Ran) → with_entries (entries_after es others) r ≡ with_entries es (with_entries others r)
with_after NoEntries others r = refl
with_after (MoreEntries e es) others r = ap (with_entry e) (with_after es others r)

wrap_sum : (a b c n m : ℕ) → b % 2 ^ 32 ≡ (a + n) % 2 ^ 32 → c % 2 ^ 32 ≡ (b + m) % 2 ^ 32 → c % 2 ^ 32 ≡ (a + (n + m)) % 2 ^ 32
wrap_sum a b c n m h i = omega (arith, h, i)

pub adds_both : {version : Version} (es others : Entries) (a b c : Written version) → AddsEntries es a b → AddsEntries others b c → AddsEntries (entries_after es others) a c
adds_both {version = version} es others a b c g h = record {
  bytes = h.bytes ∙ ap (λ l. l ++ entries_bytes version others) g.bytes ∙ append_assoc a.bytes (entries_bytes version es) (entries_bytes version others)
      ∙ ap (λ l. a.bytes ++ l) (sym (after_bytes version es others));
  counts = wrap_sum a.count b.count c.count (count_entries es) (count_entries others) g.counts h.counts ∙ ap (λ n. (a.count + n) % 2 ^ 32) (sym (after_count es others));
}

plus_nothing : (n : ℕ) → n % 2 ^ 32 ≡ (n + 0) % 2 ^ 32
plus_nothing n = omega arith

pub adds_none : {version : Version} (w : Written version) → AddsEntries NoEntries w w
adds_none w = record { bytes = sym (append-nil w.bytes); counts = plus_nothing w.count }

pub gains_none : {version : Version} {Says : Entries → Type 0} (w : Written version) → Says NoEntries → Gains w w Says
gains_none w h = record { entries = NoEntries; adds = adds_none w; says = h }

pub adds_keeps : {version : Version} {more : List ℕ} {many : ℕ} {a b : Written version} → Adds more many a b → Keeps a.bytes b.bytes
adds_keeps {more = more} {a = a} {b = b} g = keeps_more a.bytes b.bytes more g.bytes

-- one entry

one_more : (n m : ℕ) → m ≡ (n + 1) % 2 ^ 32 → m % 2 ^ 32 ≡ (n + 1) % 2 ^ 32
one_more n m h = omega (arith, h)

pub one_added : {version : Version} (e : Entry) (old new : List ℕ) (count counted : ℕ) → new ≡ old ++ entry_bytes version e → counted ≡ (count + 1) % 2 ^ 32
    → AddsEntries (MoreEntries e NoEntries) (written version old count) (written version new counted)
one_added {version = version} e old new count counted b c = record { bytes = b ∙ ap (λ l. old ++ l) (sym (append-nil (entry_bytes version e))); counts = one_more count counted c }

pub branch_added : {version : Version} (holds : Bool) (n : Node) (old front new : List ℕ) (count counted : ℕ) → front ≡ old ++ 0x32 ∷ truth holds → new ≡ front ++ node_bytes version n → counted ≡ (count + 1) % 2 ^ 32
    → AddsEntries (MoreEntries (forest.Branch holds n) NoEntries) (written version old count) (written version new counted)
branch_added {version = version} holds n old front new count counted f w c =
    one_added (forest.Branch holds n) old new count counted (w ∙ ap (λ l. l ++ node_bytes version n) f ∙ append_assoc old (0x32 ∷ truth holds) (node_bytes version n)) c

zero_plus : (n : ℕ) → 0 + n ≡ n
zero_plus n = omega arith

-- the number that was counted is that of all
counted_so : (count all : ℕ) → count % 2 ^ 32 ≡ (0 + all) % 2 ^ 32 → number count ≡ number all
counted_so count all h = sym (same_bits count) ∙ ap number (h ∙ ap (λ n. n % 2 ^ 32) (zero_plus all)) ∙ same_bits all

pub rows_added : {version : Version} (ns : Nodes) (old holed now new : List ℕ) (at begun count counted : ℕ) → at ≡ length (old ++ 0x33 ∷ []) → holed ≡ old ++ 0x33 ∷ [] ++ number 0
    → AddsNodes ns (written version holed 0) (written version now begun) → new ≡ filled at (number begun) now → counted ≡ (count + 1) % 2 ^ 32
    → AddsEntries (MoreEntries (forest.Rows ns) NoEntries) (written version old count) (written version new counted)
rows_added {version = version} ns old holed now new at begun count counted a h w f c =
    let front = old ++ 0x33 ∷ [] in
    let right : number begun ≡ number (count_nodes ns) = counted_so begun (count_nodes ns) w.counts in
    one_added (forest.Rows ns) old new count counted
    (f ∙ filled_in front holed now (nodes_bytes version ns) at begun a h w.bytes ∙ ap (λ l. front ++ l ++ nodes_bytes version ns) right
    ∙ grouped old (0x33 ∷ []) (number (count_nodes ns)) (nodes_bytes version ns)) c
  where
    grouped : (a b c d : List ℕ) → a ++ b ++ c ++ d ≡ a ++ (b ++ c ++ d)
    grouped a b c d = simp (append_assoc) refl

-- what a node begins with

pub first_is : (first : Option Value) (r : Ran) → with_first first r ≡ with_entries (first_entries first) r
first_is None r = refl
first_is (Some v) r = refl

pub first_none : {version : Version} (first : Option Value) (w : Written version) → first ≡ None → AddsEntries (first_entries first) w w
first_none first w e = subst (λ x. AddsEntries (first_entries x) w w) (sym e) (adds_none w)

pub kept_first : (keep : Bool) (v : Value) (r : Ran) → with_kept keep v r ≡ with_first (if_kept keep v) r
kept_first true v r = refl
kept_first false v r = refl

-- whole nodes

-- the node of a run whose own node has a fault alone
nodes_of : (es : Entries) (f : Option NodeFault) (r : Ran) → r.node ≡ Holds NoEntries f → (with_entries es r).node ≡ Holds es f
nodes_of NoEntries f r e = e
nodes_of (MoreEntries x es) f r e = ap (in_front x) (nodes_of es f r e)

fault_of : (es : Entries) (r : Ran) → (with_entries es r).fault ≡ r.fault
fault_of NoEntries r = refl
fault_of (MoreEntries x es) r = fault_of es r

server_of : (es : Entries) (r : Ran) → (with_entries es r).server ≡ r.server
server_of NoEntries r = refl
server_of (MoreEntries x es) r = server_of es r

-- the count stands before the entries, and the end behind them
node_so : {version : Version} (es : Entries) (f : Option NodeFault) (old holed now new : List ℕ) (at count : ℕ) → at ≡ length old → holed ≡ old ++ number 0
    → AddsEntries es (written version holed 0) (written version now count) → new ≡ filled at (number count) now ++ end_bytes version f → new ≡ old ++ node_bytes version (Holds es f)
node_so {version = version} es f old holed now new at count a h w e =
    let right : number count ≡ number (count_entries es) = counted_so count (count_entries es) w.counts in
    e ∙ ap (λ l. l ++ end_bytes version f) (filled_in old holed now (entries_bytes version es) at count a h w.bytes ∙ ap (λ l. old ++ l ++ entries_bytes version es) right)
    ∙ grouped old (number (count_entries es)) (entries_bytes version es) (end_bytes version f)
  where
    grouped : (a b c d : List ℕ) → a ++ b ++ c ++ d ≡ a ++ (b ++ c ++ d)
    grouped a b c d = simp (append_assoc) refl

pub wrote : {version : Version} (es : Entries) (f : Option NodeFault) (meant r : Ran) (old holed now new : List ℕ) (at count : ℕ) (halts : Bool) (s : Server) → at ≡ length old → holed ≡ old ++ number 0
    → AddsEntries es (written version holed 0) (written version now count) → new ≡ filled at (number count) now ++ end_bytes version f
    → meant ≡ with_entries es r → r.node ≡ Holds NoEntries f → halts ≡ is_some r.fault → s ≡ r.server → WroteNode version meant old halts new s
wrote {version = version} es f meant r old holed now new at count halts s a h w e is n t v = record {
  bytes = node_so es f old holed now new at count a h w e ∙ ap (λ x. old ++ node_bytes version x) (sym (ap (λ x. x.node) is ∙ nodes_of es f r n));
  stopped_so = t ∙ ap is_some (sym (ap (λ x. x.fault) is ∙ fault_of es r));
  server_so = v ∙ sym (ap (λ x. x.server) is ∙ server_of es r);
}

-- a node with a fault alone
pub faulted_bytes : (version : Version) (f : NodeFault) (old mid new : List ℕ) → mid ≡ old ++ number 0 → new ≡ mid ++ end_bytes version (Some f) → new ≡ old ++ node_bytes version (Holds NoEntries (Some f))
faulted_bytes version f old mid new h e =
    e ∙ ap (λ l. l ++ end_bytes version (Some f)) h ∙ append_assoc old (number 0) (end_bytes version (Some f))
    ∙ ap (λ l. old ++ (l ++ end_bytes version (Some f))) (sym (append-nil (number 0)))
