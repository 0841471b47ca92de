-- The innermost of a cursor is closed, whatever is left of it.
use Rattle.std.proofs.Common.{◌≡◌, ◌-◌, ◌<◌, ◌≤◌, ◌≢◌, ℕ, suc, List, [], ◌∷◌, length, get_or, set, refl, ap, sym, ◌∙◌, arith, Result, Ok, Err, Option, Some, None, true, is_some, option_map}
use Rattle.rb_trees.specs.declared.versions.Version.{Version}
use Rattle.rb_trees.specs.mirror.Forests.{Node, nodes_from}
use Rattle.rb_meaning_bytes.specs.formats.Formats.{times}
use Rattle.rb_meaning_bytes.specs.formats.Reading.{Fault, Read, read}
use Rattle.rb_meaning_bytes.specs.formats.Forests.{node}
use Rattle.rb_wire_forest.specs.declared.frames.Frame.{Frame}
use Rattle.rb_wire_forest.specs.declared.cursor.Cursor.{Cursor}
use Rattle.rb_wire_forest.specs.Passed.{behind}
use Rattle.rb_wire_forest.specs.Opens.{Open, AtNode, AtRows, Below, all_closed, all_open, frames_from, no_frame, levels_below, node_left, node_open, on_read, rows_open}
use Rattle.rb_wire_forest.specs.CursorSteps.{closed}
use Rattle.rb_wire_forest.specs.Opened.{opened}
use Rattle.rb_wire_forest.proofs.Ahead.{at_node, at_rows, node_there}
use Rattle.rb_wire_forest.proofs.CursorWalked.{top, outer, whole_is, opened_is, Moved, moved, open_there}
use Rattle.rb_wire_forest.proofs.InArray.{frames_top, frames_count, set_top, node_top, rows_top, below_rows}

-- The innermost, and what is open further out behind the bytes of it.
pub record Behind (below : Below) (rest : List ℕ) (old : Option (List Open)) : Type 0 where
  pub first : Open
  pub os : List Open
  pub old_is : old ≡ Some (first ∷ os)
  pub further : below rest ≡ Some os

behind_first : (below : Below) (rest after : List ℕ) (first : Open) (o : Option (List Open)) → after ≡ rest → below after ≡ o → is_some (option_map (λ os. first ∷ os) o) ≡ true → Behind below rest (option_map (λ os. first ∷ os) o)
behind_first below rest after first (Some os) e i t = record { first = first; os = os; old_is = refl; further = ap below (sym e) ∙ i }
behind_first below rest after first None e i t = absurd cc

node_behind : (version : Version) (n count : ℕ) (below : Below) (bytes rest : List ℕ) → behind (read (node_left version n count) bytes) ≡ Ok rest → is_some (node_open version n count below bytes) ≡ true → Behind below rest (node_open version n count below bytes)
unfolding node_open
node_behind version n count below bytes rest h s = go (read (node_left version n count) bytes) h s
  where
    go : (r : Read Node) → behind r ≡ Ok rest → is_some (on_read r (at_node below)) ≡ true → Behind below rest (on_read r (at_node below))
    go (Ok x) i t =
        let e : x.1 ≡ rest = cc in
        behind_first below rest x.1 (AtNode x.0) (below x.1) e refl t
    go (Err d) i t = absurd cc

node_broken : (version : Version) (n count : ℕ) (below : Below) (bytes : List ℕ) (e : Fault) → behind (read (node_left version n count) bytes) ≡ Err e → is_some (node_open version n count below bytes) ≡ true → ⊥
unfolding node_open
node_broken version n count below bytes e h s = go (read (node_left version n count) bytes) h s
  where
    go : (r : Read Node) → behind r ≡ Err e → is_some (on_read r (at_node below)) ≡ true → ⊥
    go (Ok x) i t = absurd cc
    go (Err d) i t = absurd cc

rows_behind : (version : Version) (n count : ℕ) (below : Below) (bytes rest : List ℕ) → behind (read (times count (node version n)) bytes) ≡ Ok rest → is_some (rows_open version n count below bytes) ≡ true → Behind below rest (rows_open version n count below bytes)
unfolding rows_open
rows_behind version n count below bytes rest h s = go (read (times count (node version n)) bytes) h s
  where
    go : (r : Read (List Node)) → behind r ≡ Ok rest → is_some (on_read r (at_rows below)) ≡ true → Behind below rest (on_read r (at_rows below))
    go (Ok x) i t =
        let e : x.1 ≡ rest = cc in
        behind_first below rest x.1 (AtRows (nodes_from x.0)) (below x.1) e refl t
    go (Err d) i t = absurd cc

rows_broken : (version : Version) (n count : ℕ) (below : Below) (bytes : List ℕ) (e : Fault) → behind (read (times count (node version n)) bytes) ≡ Err e → is_some (rows_open version n count below bytes) ≡ true → ⊥
unfolding rows_open
rows_broken version n count below bytes e h s = go (read (times count (node version n)) bytes) h s
  where
    go : (r : Read (List Node)) → behind r ≡ Err e → is_some (on_read r (at_rows below)) ≡ true → ⊥
    go (Ok x) i t = absurd cc
    go (Err d) i t = absurd cc

-- ---- by the innermost frame

-- so many nodes may be within each other below the innermost
level_is : (s : Cursor) → levels_below (length (outer s)) ≡ 64 - s.depth
level_is s =
    let some = s.some in
    let e : 64 - suc (s.depth - 1) ≡ 64 - s.depth = omega arith in
    ap levels_below (frames_count s.frames (s.depth - 1)) ∙ e

pub rows_now : (s : Cursor) (turns : ℕ) → (top s).turns ≡ Some turns → all_open s.version (top s ∷ outer s) s.rest.now ≡ rows_open s.version (64 - s.depth) turns (below_rows s.version (top s) (outer s)) s.rest.now
rows_now s turns h = rows_top s.version (top s) (outer s) s.rest.now turns h ∙ ap (λ n. rows_open s.version n turns (below_rows s.version (top s) (outer s)) s.rest.now) (level_is s)

node_now : (s : Cursor) → (top s).turns ≡ None → all_open s.version (top s ∷ outer s) s.rest.now ≡ node_open s.version (64 - s.depth) (top s).entries (all_open s.version (outer s)) s.rest.now
node_now s h = node_top s.version (top s) (outer s) s.rest.now (top s).entries h refl ∙ ap (λ n. node_open s.version n (top s).entries (all_open s.version (outer s)) s.rest.now) (level_is s)

-- the nodes that are left can be passed over
pub turns_pass : (s : Cursor) (turns : ℕ) (e : Fault) → (top s).turns ≡ Some turns → behind (read (times turns (node s.version (64 - s.depth))) s.rest.now) ≡ Err e → ⊥
turns_pass s turns e h i = rows_broken s.version (64 - s.depth) turns (below_rows s.version (top s) (outer s)) s.rest.now e i (ap is_some (sym (rows_now s turns h)) ∙ whole_is s)

-- .. and the entries that are left, with the end
pub entries_pass : (s : Cursor) (e : Fault) → (top s).turns ≡ None → behind (read (node_left s.version (64 - s.depth) (top s).entries) s.rest.now) ≡ Err e → ⊥
entries_pass s e h i = node_broken s.version (64 - s.depth) (top s).entries (all_open s.version (outer s)) s.rest.now e i (ap is_some (sym (node_now s h)) ∙ whole_is s)

-- the Rows is closed
pub rows_passed : (s : Cursor) (turns : ℕ) (rest : List ℕ) → (top s).turns ≡ Some turns → behind (read (times turns (node s.version (64 - s.depth))) s.rest.now) ≡ Ok rest
    → Moved closed s (all_open s.version (frames_from (set s.frames (s.depth - 1) (record { entries = (top s).entries; turns = None })) s.depth) rest)
rows_passed s turns rest h i =
    let full : s.depth ≤ length s.frames = rw s.full s.within in
    let is = rows_now s turns h in
    let b = rows_behind s.version (64 - s.depth) turns (below_rows s.version (top s) (outer s)) s.rest.now rest i (ap is_some (sym is) ∙ whole_is s) in
    let new : all_open s.version (frames_from (set s.frames (s.depth - 1) without) s.depth) rest ≡ below_rows s.version (top s) (outer s) rest =
    ap (λ fs. all_open s.version fs rest) (set_top s.frames s.depth without s.some full) ∙ node_top s.version without (outer s) rest (top s).entries refl refl in
    go b.first b.os (is ∙ b.old_is) b.further (new ∙ b.further)
  where
    without : Frame
    without = record { entries = (top s).entries; turns = None }

    go : (first : Open) (os : List Open) → all_open s.version (top s ∷ outer s) s.rest.now ≡ Some (first ∷ os) → below_rows s.version (top s) (outer s) rest ≡ Some os
        → all_open s.version (frames_from (set s.frames (s.depth - 1) without) s.depth) rest ≡ Some os → Moved closed s (all_open s.version (frames_from (set s.frames (s.depth - 1) without) s.depth) rest)
    go first [] old j new = absurd (node_there s.version (levels_below (length (outer s))) (top s).entries (all_open s.version (outer s)) rest j)
    go first (o ∷ os) old j new = moved closed s _ (first ∷ o ∷ os) (o ∷ os) old new refl

-- the node is closed
pub node_passed : (s : Cursor) (rest : List ℕ) → (top s).turns ≡ None → s.depth ≢ 1 → behind (read (node_left s.version (64 - s.depth) (top s).entries) s.rest.now) ≡ Ok rest → Moved closed s (all_open s.version (frames_from s.frames (s.depth - 1)) rest)
node_passed s rest h d i =
    let is = node_now s h in
    let b = node_behind s.version (64 - s.depth) (top s).entries (all_open s.version (outer s)) s.rest.now rest i (ap is_some (sym is) ∙ whole_is s) in
    go b.first b.os (is ∙ b.old_is) b.further
  where
    some : 0 < s.depth - 1
    some = omega (arith, s.some, d)

    never : all_open s.version (outer s) rest ≡ Some [] → ⊥
    never j = open_there s.version (get_or s.frames (s.depth - 1 - 1) no_frame) (frames_from s.frames (s.depth - 1 - 1)) rest (ap (λ fs. all_open s.version fs rest) (sym (frames_top s.frames (s.depth - 1) some)) ∙ j)

    go : (first : Open) (os : List Open) → all_open s.version (top s ∷ outer s) s.rest.now ≡ Some (first ∷ os) → all_open s.version (outer s) rest ≡ Some os → Moved closed s (all_open s.version (frames_from s.frames (s.depth - 1)) rest)
    go first [] old new = absurd (never new)
    go first (o ∷ os) old new = moved closed s _ (first ∷ o ∷ os) (o ∷ os) old new refl

-- nothing is further out than the root
pub root_kept : (s : Cursor) → (top s).turns ≡ None → s.depth ≡ 1 → closed (opened s) ≡ None
unfolding frames_from all_open
root_kept s h d = go (behind (read (node_left s.version (64 - s.depth) (top s).entries) s.rest.now)) refl
  where
    outermost : outer s ≡ []
    outermost = ap (λ n. frames_from s.frames (n - 1)) d

    none_further : (rest : List ℕ) (os : List Open) → all_closed rest ≡ Some os → os ≡ []
    none_further [] os i = cc
    none_further (b ∷ rest) os i = absurd cc

    go : (r : Result (List ℕ) Fault) → behind (read (node_left s.version (64 - s.depth) (top s).entries) s.rest.now) ≡ r → closed (opened s) ≡ None
    go (Ok rest) i =
        let is = node_now s h in
        let b = node_behind s.version (64 - s.depth) (top s).entries (all_open s.version (outer s)) s.rest.now rest i (ap is_some (sym is) ∙ whole_is s) in
        let alone : b.os ≡ [] = none_further rest b.os (ap (λ fs. all_open s.version fs rest) (sym outermost) ∙ b.further) in
        ap closed (opened_is s _ (is ∙ b.old_is) ∙ ap (λ os. b.first ∷ os) alone)
    go (Err e) i = absurd (entries_pass s e h i)
