-- Frames in an array, and what is open by the first of them.
use Rattle.std.proofs.Common.{◌≡◌, ◌+◌, ◌-◌, ◌<◌, ◌≤◌, ◌≢◌, ℕ, zero, suc, List, [], ◌∷◌, length, get_or, set, replicate, refl, ap, sym, ◌∙◌, arith, Some, None}
use Rattle.std.proofs.lemmas.List.{get_or-set_same, get_or-set_other}
use Rattle.std.proofs.lemmas.Grind.{common_steps}
use Rattle.rb_trees.specs.declared.versions.Version.{Version}
use Rattle.rb_wire_forest.specs.declared.frames.Frame.{Frame}
use Rattle.rb_wire_forest.specs.Opens.{Below, all_open, frames_from, no_frame, levels_below, node_open, rows_open, turns_open}

pub frames_top : (all : List Frame) (d : ℕ) → 0 < d → frames_from all d ≡ get_or all (d - 1) no_frame ∷ frames_from all (d - 1)
unfolding frames_from
frames_top all zero h = absurd (omega arith)
frames_top all (suc d) h =
    let e : suc d - 1 ≡ d = omega arith in
    ap (λ i. get_or all i no_frame ∷ frames_from all i) (sym e)

pub frames_set : (all : List Frame) (i : ℕ) (x : Frame) (d : ℕ) → d ≤ i → frames_from (set all i x) d ≡ frames_from all d
unfolding frames_from
frames_set all i x zero h = refl
frames_set all i x (suc d) h =
    let other : d ≢ i = λ e. omega arith in
    ap (λ f. f ∷ frames_from (set all i x) d) (get_or-set_other all i d x no_frame other) ∙ ap (λ fs. get_or all d no_frame ∷ fs) (frames_set all i x d (omega arith))

pub frames_count : (all : List Frame) (d : ℕ) → length (frames_from all d) ≡ d
unfolding frames_from
frames_count all zero = refl
frames_count all (suc d) = ap suc (frames_count all d)

-- the innermost frame is another
pub set_top : (all : List Frame) (d : ℕ) (x : Frame) → 0 < d → d ≤ length all → frames_from (set all (d - 1) x) d ≡ x ∷ frames_from all (d - 1)
set_top all d x h i =
    frames_top (set all (d - 1) x) d h
    ∙ ap (λ f. f ∷ frames_from (set all (d - 1) x) (d - 1)) (get_or-set_same all (d - 1) x no_frame (omega arith))
    ∙ ap (λ fs. x ∷ fs) (frames_set all (d - 1) x (d - 1) (omega arith))

pub set_length : (all : List Frame) (i : ℕ) (x : Frame) → length (set all i x) ≡ length all
set_length [] i x = refl
set_length (f ∷ fs) zero x = refl
set_length (f ∷ fs) (suc i) x = ap suc (set_length fs i x)

-- and a further one is within it
pub set_further : (all : List Frame) (d : ℕ) (x y : Frame) → 0 < d → d < length all → frames_from (set (set all (d - 1) x) d y) (d + 1) ≡ y ∷ x ∷ frames_from all (d - 1)
set_further all d x y h i =
    let one : d + 1 - 1 ≡ d = omega arith in
    let within : d < length (set all (d - 1) x) = rw (set_length all (d - 1) x) i in
    frames_top (set (set all (d - 1) x) d y) (d + 1) (omega arith)
    ∙ ap (λ i. get_or (set (set all (d - 1) x) d y) i no_frame ∷ frames_from (set (set all (d - 1) x) d y) i) one
    ∙ ap (λ f. f ∷ frames_from (set (set all (d - 1) x) d y) d) (get_or-set_same (set all (d - 1) x) d y no_frame within)
    ∙ ap (λ fs. y ∷ fs) (frames_set (set all (d - 1) x) d y d (omega arith) ∙ set_top all d x h (omega arith))

pub node_top : (version : Version) (f : Frame) (fs : List Frame) (bytes : List ℕ) (e : ℕ) → f.turns ≡ None → f.entries ≡ e → all_open version (f ∷ fs) bytes ≡ node_open version (levels_below (length fs)) e (all_open version fs) bytes
unfolding all_open
node_top version f fs bytes e h i =
    ap (λ t. turns_open version (levels_below (length fs)) t (node_open version (levels_below (length fs)) f.entries (all_open version fs)) bytes) h
    ∙ ap (λ c. node_open version (levels_below (length fs)) c (all_open version fs) bytes) i

-- what is open by a frame without its Rows
abbrev pub below_rows : Version → Frame → List Frame → Below
below_rows version f fs = node_open version (levels_below (length fs)) f.entries (all_open version fs)

pub rows_top : (version : Version) (f : Frame) (fs : List Frame) (bytes : List ℕ) (count : ℕ) → f.turns ≡ Some count → all_open version (f ∷ fs) bytes ≡ rows_open version (levels_below (length fs)) count (below_rows version f fs) bytes
unfolding all_open
rows_top version f fs bytes count h = ap (λ t. turns_open version (levels_below (length fs)) t (below_rows version f fs) bytes) h

-- the first of many alike
pub first_of : (x : Frame) (n : ℕ) → 0 < n → get_or (replicate n x) 0 no_frame ≡ x
first_of x zero h = absurd (omega arith)
first_of x (suc n) h = refl

pub ruleset root = (first_of, common_steps)
