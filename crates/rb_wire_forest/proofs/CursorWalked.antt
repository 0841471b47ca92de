-- The steps of a cursor.
use Rattle.std.proofs.Common.{◌≡◌, ◌+◌, ◌-◌, ◌<◌, ◌≤◌, ◌≢◌, ℕ, zero, suc, List, [], ◌∷◌, length, get_or, set, refl, ap, sym, ◌∙◌, arith, Ok, Err, Option, Some, None, Bool, true, false, is_some, option_map}
use Rattle.rb_trees.specs.declared.values.Value.{Value}
use Rattle.rb_trees.specs.declared.forests.NodeFault.{NodeFault}
use Rattle.rb_trees.specs.declared.versions.Version.{Version}
use Rattle.rb_trees.specs.mirror.Forests as tree
use Rattle.rb_trees.specs.mirror.Forests.{Node, Holds, Entries, NoEntries, MoreEntries, Nodes, NoNodes, MoreNodes}
use Rattle.rb_meaning_bytes.specs.formats.Fields.{Number}
use Rattle.rb_meaning_bytes.specs.formats.Reading.{Fault, Read, read, look}
use Rattle.rb_meaning_bytes.specs.formats.Forests.{end}
use Rattle.rb_meaning_bytes.specs.formats.ForestBytes.{count_nodes}
use Rattle.rb_wire_forest.specs.declared.frames.Frame.{Frame}
use Rattle.rb_wire_forest.specs.declared.cursor.Cursor.{Cursor}
use Rattle.rb_wire_forest.specs.Opens.{Open, AtNode, AtRows, all_closed, all_open, frames_from, no_frame, levels_below, rows_open}
use Rattle.std.specs.Borrow.{Bor}
use Rattle.rb_wire_fields.specs.declared.texts.Item.{Item}
use Rattle.rb_wire_forest.specs.declared.heads.Head as code
use Rattle.rb_wire_forest.specs.declared.heads.Head.TheVariants as heads
use Rattle.rb_wire_fields.specs.Items.{value_seen}
use Rattle.rb_wire_forest.specs.Fronts.{ValueHead, BranchHead, RowsHead, head, seen, seen_head}
use Rattle.rb_wire_forest.specs.CursorSteps.{next_value, next_branch, next_rows, next_turn, next_fault, closing}
use Rattle.rb_wire_forest.specs.Opened.{or_none, opened}
use Rattle.rb_wire_forest.proofs.CursorTook.{Went, went_whole, went_told, quietly, value_step, branch_step, rows_step, turn_step, rows_shown, end_open, entry_open, front, no_front, no_count, no_end, end_front, rows_front}
use Rattle.rb_wire_forest.proofs.Ahead.{no_turns, node_there, rows_there}
use Rattle.rb_wire_forest.proofs.InArray.{frames_top, frames_count, set_top, set_further, node_top, rows_top, below_rows}

abbrev pub top : Cursor → Frame
top s = get_or s.frames (s.depth - 1) no_frame

abbrev pub outer : Cursor → List Frame
outer s = frames_from s.frames (s.depth - 1)

-- what the bytes tell
abbrev pub told : Cursor → Option (List Open)
told s = all_open s.version (frames_from s.frames s.depth) s.rest.now

told_is : (s : Cursor) → told s ≡ all_open s.version (top s ∷ outer s) s.rest.now
told_is s = ap (λ fs. all_open s.version fs s.rest.now) (frames_top s.frames s.depth s.some)

pub whole_is : (s : Cursor) → is_some (all_open s.version (top s ∷ outer s) s.rest.now) ≡ true
whole_is s = ap is_some (sym (told_is s)) ∙ s.whole

pub opened_is : (s : Cursor) (os : List Open) → all_open s.version (top s ∷ outer s) s.rest.now ≡ Some os → opened s ≡ os
unfolding opened
opened_is s os h = ap or_none (told_is s ∙ h)

pub none_of : (o : Option ℕ) → is_some o ≡ false → o ≡ None
none_of None h = refl
none_of (Some n) h = absurd cc

-- ---- nothing to take

-- a step that takes an entry
pub record OnEntries {A : Type 0} (next : List Open → Option A) : Type 0 where
  pub rows : (ns : Nodes) (os : List Open) → next (AtRows ns ∷ os) ≡ None
  pub ended : (f : Option NodeFault) (os : List Open) → next (AtNode (Holds NoEntries f) ∷ os) ≡ None

pub on_value : OnEntries next_value
on_value = record { rows = λ ns os. refl; ended = λ f os. refl }

pub on_branch : OnEntries next_branch
on_branch = record { rows = λ ns os. refl; ended = λ f os. refl }

pub on_rows : OnEntries next_rows
on_rows = record { rows = λ ns os. refl; ended = λ f os. refl }

pub blocked_rows : {A : Type 0} (next : List Open → Option A) (s : Cursor) → OnEntries next → is_some (top s).turns ≡ true → next (opened s) ≡ None
blocked_rows next s o h = go (top s).turns refl h
  where
    go : (t : Option ℕ) → (top s).turns ≡ t → is_some t ≡ true → next (opened s) ≡ None
    go (Some count) i j = let r = rows_shown s.version (top s) (outer s) s.rest.now count i (whole_is s) in ap next (opened_is s (AtRows r.0 ∷ r.1) r.3) ∙ o.rows r.0 r.1
    go None i j = absurd cc

pub blocked_end : {A : Type 0} (next : List Open → Option A) (s : Cursor) → OnEntries next → is_some (top s).turns ≡ false → (top s).entries ≡ 0 → next (opened s) ≡ None
blocked_end next s o h e = let r = end_open s.version (top s) (outer s) s.rest.now (none_of (top s).turns h) e (whole_is s) in ap next (opened_is s (AtNode (Holds NoEntries r.0) ∷ r.1) r.2) ∙ o.ended r.0 r.1

-- ---- another entry stands first

pub more_of : (e : ℕ) → e ≢ 0 → 0 < e
more_of e h = omega arith

first_value : (s : Cursor) (v : Value) (rest : List ℕ) → is_some (top s).turns ≡ false → 0 < (top s).entries → head s.version s.rest.now ≡ Some (ValueHead v, rest)
    → (es : Entries) × (f : Option NodeFault) × (os : List Open) × (opened s ≡ AtNode (Holds (MoreEntries (tree.Value v) es) f) ∷ os)
first_value s v rest h e i =
    let a = front s.version (top s) (outer s) s.rest.now (ValueHead v) rest (none_of (top s).turns h) e i (whole_is s) in
    (a.es, a.f, a.os, opened_is s _ a.old_is ∙ ap (λ x. AtNode (Holds (MoreEntries x a.es) a.f) ∷ a.os) a.leads.0)

first_branch : (s : Cursor) (taken : Bool) (count : ℕ) (rest : List ℕ) → is_some (top s).turns ≡ false → 0 < (top s).entries → head s.version s.rest.now ≡ Some (BranchHead taken count, rest)
    → (nd : Node) × (es : Entries) × (f : Option NodeFault) × (os : List Open) × (opened s ≡ AtNode (Holds (MoreEntries (tree.Branch taken nd) es) f) ∷ os)
first_branch s taken count rest h e i =
    let a = front s.version (top s) (outer s) s.rest.now (BranchHead taken count) rest (none_of (top s).turns h) e i (whole_is s) in
    (a.leads.0, a.es, a.f, a.os, opened_is s _ a.old_is ∙ ap (λ x. AtNode (Holds (MoreEntries x a.es) a.f) ∷ a.os) a.leads.3)

first_rows : (s : Cursor) (count : ℕ) (rest : List ℕ) → is_some (top s).turns ≡ false → 0 < (top s).entries → head s.version s.rest.now ≡ Some (RowsHead count, rest)
    → (ns : Nodes) × (es : Entries) × (f : Option NodeFault) × (os : List Open) × (opened s ≡ AtNode (Holds (MoreEntries (tree.Rows ns) es) f) ∷ os)
first_rows s count rest h e i =
    let a = front s.version (top s) (outer s) s.rest.now (RowsHead count) rest (none_of (top s).turns h) e i (whole_is s) in
    (a.leads.0, a.es, a.f, a.os, opened_is s _ a.old_is ∙ ap (λ x. AtNode (Holds (MoreEntries x a.es) a.f) ∷ a.os) a.leads.2)

pub branch_is_no_value : (s : Cursor) (taken : Bool) (count : ℕ) (rest : List ℕ) → is_some (top s).turns ≡ false → 0 < (top s).entries → head s.version s.rest.now ≡ Some (BranchHead taken count, rest) → next_value (opened s) ≡ None
branch_is_no_value s taken count rest h e i = let r = first_branch s taken count rest h e i in ap next_value r.4

pub rows_are_no_value : (s : Cursor) (count : ℕ) (rest : List ℕ) → is_some (top s).turns ≡ false → 0 < (top s).entries → head s.version s.rest.now ≡ Some (RowsHead count, rest) → next_value (opened s) ≡ None
rows_are_no_value s count rest h e i = let r = first_rows s count rest h e i in ap next_value r.4

pub value_is_no_branch : (s : Cursor) (v : Value) (rest : List ℕ) → is_some (top s).turns ≡ false → 0 < (top s).entries → head s.version s.rest.now ≡ Some (ValueHead v, rest) → next_branch (opened s) ≡ None
value_is_no_branch s v rest h e i = let r = first_value s v rest h e i in ap next_branch r.3

pub rows_are_no_branch : (s : Cursor) (count : ℕ) (rest : List ℕ) → is_some (top s).turns ≡ false → 0 < (top s).entries → head s.version s.rest.now ≡ Some (RowsHead count, rest) → next_branch (opened s) ≡ None
rows_are_no_branch s count rest h e i = let r = first_rows s count rest h e i in ap next_branch r.4

pub value_is_no_rows : (s : Cursor) (v : Value) (rest : List ℕ) → is_some (top s).turns ≡ false → 0 < (top s).entries → head s.version s.rest.now ≡ Some (ValueHead v, rest) → next_rows (opened s) ≡ None
value_is_no_rows s v rest h e i = let r = first_value s v rest h e i in ap next_rows r.3

pub branch_is_no_rows : (s : Cursor) (taken : Bool) (count : ℕ) (rest : List ℕ) → is_some (top s).turns ≡ false → 0 < (top s).entries → head s.version s.rest.now ≡ Some (BranchHead taken count, rest) → next_rows (opened s) ≡ None
branch_is_no_rows s taken count rest h e i = let r = first_branch s taken count rest h e i in ap next_rows r.4

pub has_front : (s : Cursor) → is_some (top s).turns ≡ false → 0 < (top s).entries → head s.version s.rest.now ≡ None → ⊥
has_front s h e i = no_front s.version (top s) (outer s) s.rest.now (none_of (top s).turns h) e i (whole_is s)

-- ---- an entry is taken

-- what is open is whole after a step, which is this one
pub record Stepped {A : Type 0} (next : List Open → Option (A × List Open)) (s : Cursor) (a : A) (new : Option (List Open)) : Type 0 where
  pub whole : is_some new ≡ true
  pub step : next (opened s) ≡ Some (a, or_none new)

stepped : {A : Type 0} (next : List Open → Option (A × List Open)) (s : Cursor) (a : A) (new other : Option (List Open)) → new ≡ other → Went next a (all_open s.version (top s ∷ outer s) s.rest.now) other → Stepped next s a new
unfolding opened
stepped next s a new other h w =
    record {
      whole = ap is_some h ∙ went_whole next a _ other w;
      step = ap (λ o. next (or_none o)) (told_is s) ∙ went_told next a _ other w ∙ ap (λ o. Some (a, or_none o)) (sym h);
    }

abbrev pub less : Cursor → Option ℕ → Frame
less s turns = record { entries = (top s).entries - 1; turns = turns }

abbrev pub entries_only : ℕ → Frame
entries_only count = record { entries = count; turns = None }

pub value_taken : (s : Cursor) (v : Value) (rest : List ℕ) → is_some (top s).turns ≡ false → 0 < (top s).entries → head s.version s.rest.now ≡ Some (ValueHead v, rest)
    → Stepped next_value s v (all_open s.version (frames_from (set s.frames (s.depth - 1) (less s None)) s.depth) rest)
value_taken s v rest h e i =
    let full : s.depth ≤ length s.frames = rw s.full s.within in
    stepped next_value s v _ _ (ap (λ fs. all_open s.version fs rest) (set_top s.frames s.depth (less s None) s.some full))
    (value_step s.version (top s) (less s None) (outer s) s.rest.now v rest (none_of (top s).turns h) e refl refl i (whole_is s))

pub rows_taken : (s : Cursor) (count : ℕ) (rest : List ℕ) → is_some (top s).turns ≡ false → 0 < (top s).entries → head s.version s.rest.now ≡ Some (RowsHead count, rest)
    → Stepped next_rows s count (all_open s.version (frames_from (set s.frames (s.depth - 1) (less s (Some count))) s.depth) rest)
rows_taken s count rest h e i =
    let full : s.depth ≤ length s.frames = rw s.full s.within in
    stepped next_rows s count _ _ (ap (λ fs. all_open s.version fs rest) (set_top s.frames s.depth (less s (Some count)) s.some full))
    (rows_step s.version (top s) (less s (Some count)) (outer s) s.rest.now count rest (none_of (top s).turns h) e refl refl i (whole_is s))

-- There is room for a node within: else it would be too deep.
pub branch_room : (s : Cursor) (taken : Bool) (count : ℕ) (rest : List ℕ) → is_some (top s).turns ≡ false → 0 < (top s).entries → head s.version s.rest.now ≡ Some (BranchHead taken count, rest) → s.depth < 64
branch_room s taken count rest h e i =
    let a = front s.version (top s) (outer s) s.rest.now (BranchHead taken count) rest (none_of (top s).turns h) e i (whole_is s) in
    let some = s.some in
    let counted : levels_below (s.depth - 1) ≡ suc a.leads.1 = ap levels_below (sym (frames_count s.frames (s.depth - 1))) ∙ a.leads.2 in
    omega arith

pub branch_taken : (s : Cursor) (taken : Bool) (count : ℕ) (rest : List ℕ) → is_some (top s).turns ≡ false → 0 < (top s).entries → head s.version s.rest.now ≡ Some (BranchHead taken count, rest)
    → Stepped next_branch s taken (all_open s.version (frames_from (set (set s.frames (s.depth - 1) (less s None)) s.depth (entries_only count)) (s.depth + 1)) rest)
branch_taken s taken count rest h e i =
    let room : s.depth < length s.frames = rw s.full (branch_room s taken count rest h e i) in
    stepped next_branch s taken _ _ (ap (λ fs. all_open s.version fs rest) (set_further s.frames s.depth (less s None) (entries_only count) s.some room))
    (branch_step s.version (top s) (less s None) (entries_only count) (outer s) s.rest.now taken count rest (none_of (top s).turns h) e refl refl refl refl i (whole_is s))

-- ---- a turn begins

turns_of : (s : Cursor) (turns : ℕ) → (top s).turns ≡ Some turns → (ns : Nodes) × (os : List Open) × (count_nodes ns ≡ turns) × (opened s ≡ AtRows ns ∷ os)
turns_of s turns h = let r = rows_shown s.version (top s) (outer s) s.rest.now turns h (whole_is s) in (r.0, r.1, r.2, opened_is s _ r.3)

-- a step that Rows alone take
pub record OnRows {A : Type 0} (next : List Open → Option A) : Type 0 where
  pub node : (n : Node) (os : List Open) → next (AtNode n ∷ os) ≡ None
  pub none : (os : List Open) → next (AtRows NoNodes ∷ os) ≡ None

pub on_turn : OnRows next_turn
on_turn = record { node = λ n os. refl; none = λ os. refl }

-- a node is innermost
node_of : (s : Cursor) → (top s).turns ≡ None → (n : Node) × (os : List Open) × (opened s ≡ AtNode n ∷ os)
node_of s h = go (top s).entries refl
  where
    go : (e : ℕ) → (top s).entries ≡ e → (n : Node) × (os : List Open) × (opened s ≡ AtNode n ∷ os)
    go zero i = let r = end_open s.version (top s) (outer s) s.rest.now h i (whole_is s) in (Holds NoEntries r.0, r.1, opened_is s _ r.2)
    go (suc e) i = let r = entry_open s.version (top s) (outer s) s.rest.now h (omega (arith, i)) (whole_is s) in (Holds (MoreEntries r.0 r.1) r.2, r.3, opened_is s _ r.4)

pub no_turn_in_node : (s : Cursor) → (top s).turns ≡ None → next_turn (opened s) ≡ None
no_turn_in_node s h = let r = node_of s h in ap next_turn r.2

no_nodes : (ns : Nodes) → count_nodes ns ≡ 0 → ns ≡ NoNodes
no_nodes NoNodes h = refl
no_nodes (MoreNodes n ns) h = absurd (omega (arith, h))

pub no_turn_left : (s : Cursor) (turns : ℕ) → (top s).turns ≡ Some turns → turns ≡ 0 → next_turn (opened s) ≡ None
no_turn_left s turns h z = let r = turns_of s turns h in ap next_turn (r.3 ∙ ap (λ ns. AtRows ns ∷ r.1) (no_nodes r.0 (r.2 ∙ z)))

pub has_turn : (s : Cursor) (turns : ℕ) (e : Fault) → (top s).turns ≡ Some turns → 0 < turns → look Number s.rest.now ≡ Err e → ⊥
has_turn s turns e h l i = no_count s.version (top s) (outer s) s.rest.now turns e h l i (whole_is s)

pub turn_room : (s : Cursor) (turns count : ℕ) (rest : List ℕ) → (top s).turns ≡ Some turns → 0 < turns → look Number s.rest.now ≡ Ok (count, rest) → s.depth < 64
turn_room s turns count rest h l i =
    let a = rows_front s.version (top s) (outer s) s.rest.now turns count rest h l i (whole_is s) in
    let some = s.some in
    let counted : levels_below (s.depth - 1) ≡ suc a.m = ap levels_below (sym (frames_count s.frames (s.depth - 1))) ∙ a.n_is in
    omega arith

abbrev pub turns_less : Cursor → ℕ → Frame
turns_less s turns = record { entries = (top s).entries; turns = Some turns }

-- what is open is whole after a step that gives nothing, which is this one
pub record Moved (next : List Open → Option (List Open)) (s : Cursor) (new : Option (List Open)) : Type 0 where
  pub whole : is_some new ≡ true
  pub step : next (opened s) ≡ Some (or_none new)

pub moved : (next : List Open → Option (List Open)) (s : Cursor) (new : Option (List Open)) (before after : List Open) → all_open s.version (top s ∷ outer s) s.rest.now ≡ Some before → new ≡ Some after → next before ≡ Some after → Moved next s new
moved next s new before after h i j = record { whole = ap is_some i; step = ap next (opened_is s before h) ∙ j ∙ ap (λ o. Some (or_none o)) (sym i) }

pub turn_taken : (s : Cursor) (turns count : ℕ) (rest : List ℕ) → (top s).turns ≡ Some turns → 0 < turns → look Number s.rest.now ≡ Ok (count, rest)
    → Moved next_turn s (all_open s.version (frames_from (set (set s.frames (s.depth - 1) (turns_less s (turns - 1))) s.depth (entries_only count)) (s.depth + 1)) rest)
turn_taken s turns count rest h e i =
    let room : s.depth < length s.frames = rw s.full (turn_room s turns count rest h e i) in
    let w = turn_step s.version (top s) (turns_less s (turns - 1)) (entries_only count) (outer s) s.rest.now turns count rest h e refl refl refl refl i (whole_is s) in
    moved next_turn s _ w.before w.after w.old_is (ap (λ fs. all_open s.version fs rest) (set_further s.frames s.depth (turns_less s (turns - 1)) (entries_only count) s.some room) ∙ w.new_is) (quiet next_turn w.before w.after w.step)
  where
    paired : List Open → Unit {0} × List Open
    paired x = (tt, x)

    quiet : (next : List Open → Option (List Open)) (before after : List Open) → quietly next before ≡ Some (tt, after) → next before ≡ Some after
    quiet next before after h = go (next before) h
      where
        go : (o : Option (List Open)) → option_map paired o ≡ Some (paired after) → o ≡ Some after
        go (Some x) j =
            let e : paired x ≡ paired after = cc in
            ap (λ p. Some p.1) e
        go None j = absurd cc

-- ---- the fault of a node

pub no_fault_in_rows : (s : Cursor) → is_some (top s).turns ≡ true → next_fault (opened s) ≡ None
no_fault_in_rows s h = go (top s).turns refl h
  where
    go : (t : Option ℕ) → (top s).turns ≡ t → is_some t ≡ true → next_fault (opened s) ≡ None
    go (Some count) i j = let r = turns_of s count i in ap next_fault r.3
    go None i j = absurd cc

pub no_fault_before_end : (s : Cursor) → is_some (top s).turns ≡ false → 0 < (top s).entries → next_fault (opened s) ≡ None
no_fault_before_end s h e = let r = entry_open s.version (top s) (outer s) s.rest.now (none_of (top s).turns h) e (whole_is s) in ap next_fault (opened_is s _ r.4)

pub fault_is : (s : Cursor) (f : Option NodeFault) (rest : List ℕ) → is_some (top s).turns ≡ false → (top s).entries ≡ 0 → read (end s.version) s.rest.now ≡ Ok (f, rest) → f ≡ next_fault (opened s)
fault_is s f rest h e i = let a = end_front s.version (top s) (outer s) s.rest.now f rest (none_of (top s).turns h) e i (whole_is s) in sym (ap next_fault (opened_is s _ a.old_is))

pub has_ending : (s : Cursor) (d : Fault) → (top s).turns ≡ None → (top s).entries ≡ 0 → read (end s.version) s.rest.now ≡ Err d → ⊥
has_ending s d h e i = no_end s.version (top s) (outer s) s.rest.now d h e i (whole_is s)

-- ---- the innermost is closed

closing_rows : (n : Node) (ns : Nodes) (os : List Open) → closing (AtRows (MoreNodes n ns) ∷ os) ≡ None
closing_rows n ns os = refl

pub rows_stay : (s : Cursor) (turns : ℕ) → (top s).turns ≡ Some turns → 0 < turns → closing (opened s) ≡ None
rows_stay s turns h l = let r = turns_of s turns h in ap closing r.3 ∙ go r.0 r.2
  where
    go : (ns : Nodes) → count_nodes ns ≡ turns → closing (AtRows ns ∷ (turns_of s turns h).1) ≡ None
    go NoNodes i = absurd (omega (arith, i))
    go (MoreNodes n ns) i = refl

pub entries_stay : (s : Cursor) → (top s).turns ≡ None → 0 < (top s).entries → closing (opened s) ≡ None
entries_stay s h e = let r = entry_open s.version (top s) (outer s) s.rest.now h e (whole_is s) in ap closing (opened_is s _ r.4)

pub root_stays : (s : Cursor) → (top s).turns ≡ None → (top s).entries ≡ 0 → s.depth ≡ 1 → closing (opened s) ≡ None
unfolding frames_from all_open
root_stays s h e d = go (read (end s.version) s.rest.now) refl
  where
    outermost : outer s ≡ []
    outermost = ap (λ n. frames_from s.frames (n - 1)) d

    none_further : (rest : List ℕ) (os : List Open) → all_closed rest ≡ Some os → os ≡ []
    none_further [] os i = cc
    none_further (b ∷ rest) os i = absurd cc

    go : (r : Read (Option NodeFault)) → read (end s.version) s.rest.now ≡ r → closing (opened s) ≡ None
    go (Ok x) i =
        let a = end_front s.version (top s) (outer s) s.rest.now x.0 x.1 h e i (whole_is s) in
        let alone : a.os ≡ [] = none_further x.1 a.os (ap (λ fs. all_open s.version fs x.1) (sym outermost) ∙ a.further) in
        ap closing (opened_is s _ a.old_is ∙ ap (λ os. AtNode (Holds NoEntries x.0) ∷ os) alone)
    go (Err f) i = absurd (has_ending s f h e i)

-- the Rows is closed: what is open further out is there
pub rows_closed : (s : Cursor) (turns : ℕ) → (top s).turns ≡ Some turns → turns ≡ 0 → Moved closing s (all_open s.version (frames_from (set s.frames (s.depth - 1) (record { entries = (top s).entries; turns = None })) s.depth) s.rest.now)
rows_closed s turns h z =
    let full : s.depth ≤ length s.frames = rw s.full s.within in
    let is : all_open s.version (top s ∷ outer s) s.rest.now ≡ option_map (λ os. AtRows NoNodes ∷ os) (below_rows s.version (top s) (outer s) s.rest.now) =
    rows_top s.version (top s) (outer s) s.rest.now turns h ∙ ap (λ n. rows_open s.version (levels_below (length (outer s))) n (below_rows s.version (top s) (outer s)) s.rest.now) z ∙ no_turns s.version (levels_below (length (outer s))) (below_rows s.version (top s) (outer s)) s.rest.now in
    let new : all_open s.version (frames_from (set s.frames (s.depth - 1) without) s.depth) s.rest.now ≡ below_rows s.version (top s) (outer s) s.rest.now =
    ap (λ fs. all_open s.version fs s.rest.now) (set_top s.frames s.depth without s.some full) ∙ node_top s.version without (outer s) s.rest.now (top s).entries refl refl in
    go (below_rows s.version (top s) (outer s) s.rest.now) refl (ap is_some (sym is) ∙ whole_is s) is new
  where
    without : Frame
    without = record { entries = (top s).entries; turns = None }

    go : (o : Option (List Open)) → below_rows s.version (top s) (outer s) s.rest.now ≡ o → is_some (option_map (λ os. AtRows NoNodes ∷ os) o) ≡ true
        → all_open s.version (top s ∷ outer s) s.rest.now ≡ option_map (λ os. AtRows NoNodes ∷ os) o → all_open s.version (frames_from (set s.frames (s.depth - 1) without) s.depth) s.rest.now ≡ o
        → Moved closing s (all_open s.version (frames_from (set s.frames (s.depth - 1) without) s.depth) s.rest.now)
    go (Some []) i t old new = absurd (never i)
      where
        never : below_rows s.version (top s) (outer s) s.rest.now ≡ Some [] → ⊥
        never j = (node_there s.version (levels_below (length (outer s))) (top s).entries (all_open s.version (outer s)) s.rest.now j)
    go (Some (o ∷ os)) i t old new = moved closing s _ (AtRows NoNodes ∷ o ∷ os) (o ∷ os) old new refl
    go None i t old new = absurd cc

pub open_there : (version : Version) (f : Frame) (fs : List Frame) (bytes : List ℕ) → all_open version (f ∷ fs) bytes ≡ Some [] → ⊥
open_there version f fs bytes h = go f.turns refl
  where
    go : (t : Option ℕ) → f.turns ≡ t → ⊥
    go None i = node_there version (levels_below (length fs)) f.entries (all_open version fs) bytes (sym (node_top version f fs bytes f.entries i refl) ∙ h)
    go (Some count) i = rows_there version (levels_below (length fs)) count (below_rows version f fs) bytes (sym (rows_top version f fs bytes count i) ∙ h)

-- the node is closed
pub node_closed : (s : Cursor) (f : Option NodeFault) (rest : List ℕ) → (top s).turns ≡ None → (top s).entries ≡ 0 → s.depth ≢ 1 → read (end s.version) s.rest.now ≡ Ok (f, rest) → Moved closing s (all_open s.version (frames_from s.frames (s.depth - 1)) rest)
node_closed s f rest h e d i =
    let a = end_front s.version (top s) (outer s) s.rest.now f rest h e i (whole_is s) in
    go a.os a.old_is a.further
  where
    some : 0 < s.depth - 1
    some = omega (arith, s.some, d)

    never : (rest : List ℕ) → all_open s.version (outer s) rest ≡ Some [] → ⊥
    never rest j = open_there s.version (get_or s.frames (s.depth - 1 - 1) no_frame) (frames_from s.frames (s.depth - 1 - 1)) rest (ap (λ fs. all_open s.version fs rest) (sym (frames_top s.frames (s.depth - 1) some)) ∙ j)

    go : (os : List Open) → all_open s.version (top s ∷ outer s) s.rest.now ≡ Some (AtNode (Holds NoEntries f) ∷ os) → all_open s.version (outer s) rest ≡ Some os → Moved closing s (all_open s.version (frames_from s.frames (s.depth - 1)) rest)
    go [] old new = absurd (never rest new)
    go (o ∷ os) old new = moved closing s _ (AtNode (Holds NoEntries f) ∷ o ∷ os) (o ∷ os) old new refl

-- ---- what the code found

pub head_value : (version : Version) (o : Option (code.Head × Bor (List ℕ))) (bytes : List ℕ) (h : code.Head) (rest : Bor (List ℕ)) (item : Item) → option_map seen o ≡ head version bytes → o ≡ Some (h, rest) → h ≡ heads.Value item → head version bytes ≡ Some (ValueHead (value_seen item), rest.now)
head_value version o bytes h rest item i j k = sym i ∙ ap (option_map seen) j ∙ ap (λ x. Some (seen_head x, rest.now)) k

pub head_branch : (version : Version) (o : Option (code.Head × Bor (List ℕ))) (bytes : List ℕ) (h : code.Head) (rest : Bor (List ℕ)) (taken : Bool) (count : ℕ) → option_map seen o ≡ head version bytes → o ≡ Some (h, rest) → h ≡ heads.Branch taken count → head version bytes ≡ Some (BranchHead taken count, rest.now)
head_branch version o bytes h rest taken count i j k = sym i ∙ ap (option_map seen) j ∙ ap (λ x. Some (seen_head x, rest.now)) k

pub head_rows : (version : Version) (o : Option (code.Head × Bor (List ℕ))) (bytes : List ℕ) (h : code.Head) (rest : Bor (List ℕ)) (count : ℕ) → option_map seen o ≡ head version bytes → o ≡ Some (h, rest) → h ≡ heads.Rows count → head version bytes ≡ Some (RowsHead count, rest.now)
head_rows version o bytes h rest count i j k = sym i ∙ ap (option_map seen) j ∙ ap (λ x. Some (seen_head x, rest.now)) k

pub head_none : (version : Version) (o : Option (code.Head × Bor (List ℕ))) (bytes : List ℕ) → option_map seen o ≡ head version bytes → o ≡ None → head version bytes ≡ None
head_none version o bytes i j = sym i ∙ ap (option_map seen) j

-- what isn't the root has more around it
pub deeper : (s : Cursor) → s.depth ≢ 1 → 0 < s.depth - 1
deeper s h = omega (arith, s.some, h)
