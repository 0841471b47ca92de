-- The steps of a walk, as the frames and the bytes have them.
use Rattle.std.proofs.Common.{◌≡◌, ◌-◌, ◌<◌, ℕ, suc, List, ◌∷◌, length, refl, ap, sym, ◌∙◌, subst, arith, Ok, Err, Option, Some, None, Bool, true, is_some, option_map}
use mathlib.Core.Path.{fun_ext}
use Rattle.rb_trees.specs.declared.versions.Version.{Version}
use Rattle.rb_trees.specs.declared.values.Value.{Value}
use Rattle.rb_trees.specs.declared.forests.NodeFault.{NodeFault}
use Rattle.rb_trees.specs.mirror.Forests.{Holds, Entry, Entries, NoEntries, MoreEntries, Nodes, MoreNodes}
use Rattle.rb_meaning_bytes.specs.formats.Fields.{Number}
use Rattle.rb_meaning_bytes.specs.formats.Reading.{Read, read, look}
use Rattle.rb_meaning_bytes.specs.formats.Forests.{end}
use Rattle.rb_meaning_bytes.specs.formats.ForestBytes.{count_nodes}
use Rattle.rb_wire_forest.specs.declared.frames.Frame.{Frame}
use Rattle.rb_wire_forest.specs.Opens.{Open, AtNode, AtRows, Below, all_open, levels_below, node_open, rows_open}
use Rattle.rb_wire_forest.specs.Fronts.{Head, ValueHead, BranchHead, RowsHead, head}
use Rattle.rb_wire_forest.specs.CursorSteps.{next_value, next_branch, next_rows, next_turn, next_fault}
use Rattle.rb_wire_forest.specs.Opened.{or_none}
use Rattle.rb_wire_forest.proofs.Ahead.{Ahead, ahead, has_head, Ended, ended, has_end, Turned, turned, has_count, rows_first}
use Rattle.rb_wire_forest.proofs.InArray.{node_top, rows_top, below_rows}

-- what is open before and after a step
pub record Went {A : Type 0} (next : List Open → Option (A × List Open)) (a : A) (old new : Option (List Open)) : Type 0 where
  pub before : List Open
  pub after : List Open
  pub old_is : old ≡ Some before
  pub new_is : new ≡ Some after
  pub step : next before ≡ Some (a, after)

pub went_whole : {A : Type 0} (next : List Open → Option (A × List Open)) (a : A) (old new : Option (List Open)) → Went next a old new → is_some new ≡ true
went_whole next a old new w = ap is_some w.new_is

pub went_told : {A : Type 0} (next : List Open → Option (A × List Open)) (a : A) (old new : Option (List Open)) → Went next a old new → next (or_none old) ≡ Some (a, or_none new)
went_told next a old new w = ap next (ap or_none w.old_is) ∙ w.step ∙ ap (λ o. Some (a, or_none o)) (sym w.new_is)

-- ---- a frame with entries left

one_less : (e : ℕ) → 0 < e → e ≡ suc (e - 1)
one_less e h = omega arith

-- what stands first, by its front
pub front : (version : Version) (top : Frame) (fs : List Frame) (bytes : List ℕ) (h : Head) (rest : List ℕ) → top.turns ≡ None → 0 < top.entries → head version bytes ≡ Some (h, rest) → is_some (all_open version (top ∷ fs) bytes) ≡ true
    → Ahead version (levels_below (length fs)) (top.entries - 1) (all_open version fs) h rest (all_open version (top ∷ fs) bytes)
front version top fs bytes h rest t e i s =
    let is = node_top version top fs bytes (suc (top.entries - 1)) t (one_less top.entries e) in
    subst (λ o. Ahead version (levels_below (length fs)) (top.entries - 1) (all_open version fs) h rest o) (sym is)
    (ahead version (levels_below (length fs)) (top.entries - 1) (all_open version fs) bytes h rest i (ap is_some (sym is) ∙ s))

pub no_front : (version : Version) (top : Frame) (fs : List Frame) (bytes : List ℕ) → top.turns ≡ None → 0 < top.entries → head version bytes ≡ None → is_some (all_open version (top ∷ fs) bytes) ≡ true → ⊥
no_front version top fs bytes t e i s =
    let is = node_top version top fs bytes (suc (top.entries - 1)) t (one_less top.entries e) in
    let h = has_head version (levels_below (length fs)) (top.entries - 1) (all_open version fs) bytes (ap is_some (sym is) ∙ s) in
    absurd cc

pub value_step : (version : Version) (top next : Frame) (fs : List Frame) (bytes : List ℕ) (v : Value) (rest : List ℕ) → top.turns ≡ None → 0 < top.entries → next.turns ≡ None → next.entries ≡ top.entries - 1
    → head version bytes ≡ Some (ValueHead v, rest) → is_some (all_open version (top ∷ fs) bytes) ≡ true → Went next_value v (all_open version (top ∷ fs) bytes) (all_open version (next ∷ fs) rest)
value_step version top next fs bytes v rest t e nt ne i s =
    let a = front version top fs bytes (ValueHead v) rest t e i s in
    record {
      before = AtNode (Holds (MoreEntries a.first a.es) a.f) ∷ a.os;
      after = AtNode (Holds a.es a.f) ∷ a.os;
      old_is = a.old_is;
      new_is = node_top version next fs rest (top.entries - 1) nt ne ∙ a.leads.1;
      step = ap (λ x. next_value (AtNode (Holds (MoreEntries x a.es) a.f) ∷ a.os)) a.leads.0;
    }

-- one level less
level_less : (d m : ℕ) → levels_below d ≡ suc m → levels_below (suc d) ≡ m
level_less d m h = omega arith

pub branch_step : (version : Version) (top next inner : Frame) (fs : List Frame) (bytes : List ℕ) (taken : Bool) (count : ℕ) (rest : List ℕ) → top.turns ≡ None → 0 < top.entries → next.turns ≡ None → next.entries ≡ top.entries - 1
    → inner.turns ≡ None → inner.entries ≡ count → head version bytes ≡ Some (BranchHead taken count, rest) → is_some (all_open version (top ∷ fs) bytes) ≡ true
    → Went next_branch taken (all_open version (top ∷ fs) bytes) (all_open version (inner ∷ next ∷ fs) rest)
branch_step version top next inner fs bytes taken count rest t e nt ne it ie i s =
    let a = front version top fs bytes (BranchHead taken count) rest t e i s in
    let nd = a.leads.0 in
    let m = a.leads.1 in
    let down : levels_below (length (next ∷ fs)) ≡ m = level_less (length fs) m a.leads.2 in
    let outer : (bytes : List ℕ) → all_open version (next ∷ fs) bytes ≡ node_open version (levels_below (length fs)) (top.entries - 1) (all_open version fs) bytes = λ b. node_top version next fs b (top.entries - 1) nt ne in
    record {
      before = AtNode (Holds (MoreEntries a.first a.es) a.f) ∷ a.os;
      after = AtNode nd ∷ AtNode (Holds a.es a.f) ∷ a.os;
      old_is = a.old_is;
      new_is = node_top version inner (next ∷ fs) rest count it ie ∙ ap (λ n. node_open version n count (all_open version (next ∷ fs)) rest) down ∙ ap (λ (k : Below). node_open version m count k rest) (fun_ext outer) ∙ a.leads.4;
      step = ap (λ x. next_branch (AtNode (Holds (MoreEntries x a.es) a.f) ∷ a.os)) a.leads.3;
    }

pub rows_step : (version : Version) (top next : Frame) (fs : List Frame) (bytes : List ℕ) (count : ℕ) (rest : List ℕ) → top.turns ≡ None → 0 < top.entries → next.turns ≡ Some count → next.entries ≡ top.entries - 1
    → head version bytes ≡ Some (RowsHead count, rest) → is_some (all_open version (top ∷ fs) bytes) ≡ true → Went next_rows count (all_open version (top ∷ fs) bytes) (all_open version (next ∷ fs) rest)
rows_step version top next fs bytes count rest t e nt ne i s =
    let a = front version top fs bytes (RowsHead count) rest t e i s in
    let ns = a.leads.0 in
    record {
      before = AtNode (Holds (MoreEntries a.first a.es) a.f) ∷ a.os;
      after = AtRows ns ∷ AtNode (Holds a.es a.f) ∷ a.os;
      old_is = a.old_is;
      new_is = rows_top version next fs rest count nt ∙ ap (λ c. rows_open version (levels_below (length fs)) count (node_open version (levels_below (length fs)) c (all_open version fs)) rest) ne ∙ a.leads.3;
      step = ap (λ x. next_rows (AtNode (Holds (MoreEntries x a.es) a.f) ∷ a.os)) a.leads.2 ∙ ap (λ c. Some (c, AtRows ns ∷ AtNode (Holds a.es a.f) ∷ a.os)) a.leads.1;
    }

-- ---- a Rows with nodes left

pub rows_front : (version : Version) (top : Frame) (fs : List Frame) (bytes : List ℕ) (turns count : ℕ) (rest : List ℕ) → top.turns ≡ Some turns → 0 < turns → look Number bytes ≡ Ok (count, rest) → is_some (all_open version (top ∷ fs) bytes) ≡ true
    → Turned version (levels_below (length fs)) count (turns - 1) (below_rows version top fs) rest (all_open version (top ∷ fs) bytes)
rows_front version top fs bytes turns count rest t e i s =
    let is : all_open version (top ∷ fs) bytes ≡ rows_open version (levels_below (length fs)) (suc (turns - 1)) (below_rows version top fs) bytes = rows_top version top fs bytes turns t ∙ ap (λ c. rows_open version (levels_below (length fs)) c (below_rows version top fs) bytes) (one_less turns e) in
    subst (λ o. Turned version (levels_below (length fs)) count (turns - 1) (below_rows version top fs) rest o) (sym is)
    (turned version (levels_below (length fs)) (turns - 1) (below_rows version top fs) bytes count rest i (ap is_some (sym is) ∙ s))

pub no_count : (version : Version) (top : Frame) (fs : List Frame) (bytes : List ℕ) (turns : ℕ) (e : _) → top.turns ≡ Some turns → 0 < turns → look Number bytes ≡ Err e → is_some (all_open version (top ∷ fs) bytes) ≡ true → ⊥
no_count version top fs bytes turns e t l i s =
    let is : all_open version (top ∷ fs) bytes ≡ rows_open version (levels_below (length fs)) (suc (turns - 1)) (below_rows version top fs) bytes = rows_top version top fs bytes turns t ∙ ap (λ c. rows_open version (levels_below (length fs)) c (below_rows version top fs) bytes) (one_less turns l) in
    has_count version (levels_below (length fs)) (turns - 1) (below_rows version top fs) bytes e i (ap is_some (sym is) ∙ s)

-- a step that gives nothing
abbrev pub quietly : (List Open → Option (List Open)) → List Open → Option (Unit {0} × List Open)
quietly next os = option_map (λ after. (tt, after)) (next os)

pub turn_step : (version : Version) (top next inner : Frame) (fs : List Frame) (bytes : List ℕ) (turns count : ℕ) (rest : List ℕ) → top.turns ≡ Some turns → 0 < turns → next.turns ≡ Some (turns - 1) → next.entries ≡ top.entries
    → inner.turns ≡ None → inner.entries ≡ count → look Number bytes ≡ Ok (count, rest) → is_some (all_open version (top ∷ fs) bytes) ≡ true
    → Went (quietly next_turn) tt (all_open version (top ∷ fs) bytes) (all_open version (inner ∷ next ∷ fs) rest)
turn_step version top next inner fs bytes turns count rest t l nt ne it ie i s =
    let a = rows_front version top fs bytes turns count rest t l i s in
    let down : levels_below (length (next ∷ fs)) ≡ a.m = level_less (length fs) a.m a.n_is in
    let outer : (bytes : List ℕ) → all_open version (next ∷ fs) bytes ≡ rows_open version (levels_below (length fs)) (turns - 1) (below_rows version top fs) bytes =
    λ b. rows_top version next fs b (turns - 1) nt ∙ ap (λ c. rows_open version (levels_below (length fs)) (turns - 1) (node_open version (levels_below (length fs)) c (all_open version fs)) b) ne in
    record {
      before = AtRows (MoreNodes a.nd a.ns) ∷ a.os;
      after = AtNode a.nd ∷ AtRows a.ns ∷ a.os;
      old_is = a.old_is;
      new_is = node_top version inner (next ∷ fs) rest count it ie ∙ ap (λ n. node_open version n count (all_open version (next ∷ fs)) rest) down ∙ ap (λ (k : Below). node_open version a.m count k rest) (fun_ext outer) ∙ a.new_is;
      step = refl;
    }

-- ---- nothing is left

pub end_front : (version : Version) (top : Frame) (fs : List Frame) (bytes : List ℕ) (f : Option NodeFault) (rest : List ℕ) → top.turns ≡ None → top.entries ≡ 0 → read (end version) bytes ≡ Ok (f, rest) → is_some (all_open version (top ∷ fs) bytes) ≡ true
    → Ended (all_open version fs) f rest (all_open version (top ∷ fs) bytes)
end_front version top fs bytes f rest t e i s =
    let is = node_top version top fs bytes 0 t e in
    subst (λ o. Ended (all_open version fs) f rest o) (sym is) (ended version (levels_below (length fs)) (all_open version fs) bytes f rest i (ap is_some (sym is) ∙ s))

pub no_end : (version : Version) (top : Frame) (fs : List Frame) (bytes : List ℕ) (d : _) → top.turns ≡ None → top.entries ≡ 0 → read (end version) bytes ≡ Err d → is_some (all_open version (top ∷ fs) bytes) ≡ true → ⊥
no_end version top fs bytes d t e i s =
    let is = node_top version top fs bytes 0 t e in
    has_end version (levels_below (length fs)) (all_open version fs) bytes d i (ap is_some (sym is) ∙ s)

pub end_shown : (version : Version) (top : Frame) (fs : List Frame) (bytes : List ℕ) (f : Option NodeFault) (rest : List ℕ) → top.turns ≡ None → top.entries ≡ 0 → read (end version) bytes ≡ Ok (f, rest) → is_some (all_open version (top ∷ fs) bytes) ≡ true
    → f ≡ next_fault (or_none (all_open version (top ∷ fs) bytes))
end_shown version top fs bytes f rest t e i s = let a = end_front version top fs bytes f rest t e i s in sym (ap next_fault (ap or_none a.old_is))

-- what an answer without a step says: the shape of what stands first
pub data Stuck : List Open → Type 0 where
  at_rows : (ns : Nodes) (os : List Open) → Stuck (AtRows ns ∷ os)

-- A Rows is open: no entry of a node is next, and it has no fault.
pub rows_shown : (version : Version) (top : Frame) (fs : List Frame) (bytes : List ℕ) (count : ℕ) → top.turns ≡ Some count → is_some (all_open version (top ∷ fs) bytes) ≡ true
    → (ns : Nodes) × (os : List Open) × (count_nodes ns ≡ count) × (all_open version (top ∷ fs) bytes ≡ Some (AtRows ns ∷ os))
rows_shown version top fs bytes count t s =
    let is = rows_top version top fs bytes count t in
    let r = rows_first version (levels_below (length fs)) count (below_rows version top fs) bytes (ap is_some (sym is) ∙ s) in
    (r.0, r.1, r.2, is ∙ r.3)

-- A node without entries left.
pub end_open : (version : Version) (top : Frame) (fs : List Frame) (bytes : List ℕ) → top.turns ≡ None → top.entries ≡ 0 → is_some (all_open version (top ∷ fs) bytes) ≡ true → (f : Option NodeFault) × (os : List Open) × (all_open version (top ∷ fs) bytes ≡ Some (AtNode (Holds NoEntries f) ∷ os))
end_open version top fs bytes t e s = go (read (end version) bytes) refl
  where
    go : (r : Read (Option NodeFault)) → read (end version) bytes ≡ r → (f : Option NodeFault) × (os : List Open) × (all_open version (top ∷ fs) bytes ≡ Some (AtNode (Holds NoEntries f) ∷ os))
    go (Ok x) i = let a = end_front version top fs bytes x.0 x.1 t e i s in (x.0, a.os, a.old_is)
    go (Err d) i = absurd (no_end version top fs bytes d t e i s)

-- A node with entries left.
pub entry_open : (version : Version) (top : Frame) (fs : List Frame) (bytes : List ℕ) → top.turns ≡ None → 0 < top.entries → is_some (all_open version (top ∷ fs) bytes) ≡ true
    → (x : Entry) × (es : Entries) × (f : Option NodeFault) × (os : List Open) × (all_open version (top ∷ fs) bytes ≡ Some (AtNode (Holds (MoreEntries x es) f) ∷ os))
entry_open version top fs bytes t e s = go (head version bytes) refl
  where
    go : (o : Option (Head × List ℕ)) → head version bytes ≡ o → (x : Entry) × (es : Entries) × (f : Option NodeFault) × (os : List Open) × (all_open version (top ∷ fs) bytes ≡ Some (AtNode (Holds (MoreEntries x es) f) ∷ os))
    go (Some h) i = let a = front version top fs bytes h.0 h.1 t e i s in (a.first, a.es, a.f, a.os, a.old_is)
    go None i = absurd (no_front version top fs bytes t e i s)
