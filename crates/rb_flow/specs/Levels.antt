-- What the search by levels computes.
use Rattle.std.specs.Prelude.{◌≡◌, ℕ, zero, suc, ◌+◌, ◌<◌, ◌≤◌, ◌⊎◌, List, [], ◌∷◌, ◌++◌, length, cond, nat_eq, Option, Some, None, slice_get, slice_set, slice_index_or}
use Rattle.std.specs.List.{flat_map}
use Rattle.std.specs.HashMap.{get, HashMap}
use Rattle.std.specs.declared.hash.FoldHasher.{FoldHasher}
use Rattle.std.specs.declared.hash.BuildHasherDefault.{BuildHasherDefault}
use Rattle.rb_trees.specs.declared.flows.Writer.{Writer}

-- places by nodes
abbrev pub Buckets : Type 0
Buckets = HashMap ℕ (List ℕ) (BuildHasherDefault FoldHasher)

-- the items, or none
abbrev pub items_or_none : Option (List ℕ) → List ℕ
items_or_none None = []
items_or_none (Some items) = items

-- the places that a map has for a node
abbrev pub bucket : Buckets → ℕ → List ℕ
bucket m n = items_or_none (get nat_eq m n)

-- the places for a node, with one more where it is this node
abbrev pub with_place : ℕ → ℕ → ℕ → List ℕ → List ℕ
with_place node place n places = cond (nat_eq node n) (places ++ place ∷ []) places

-- the places for a node, or none where it is this node
abbrev pub taken_out : ℕ → ℕ → List ℕ → List ℕ
taken_out node n places = cond (nat_eq node n) [] places

-- a place once for each time that the node stands in the list
abbrev pub copies : ℕ → List ℕ → ℕ → List ℕ
copies place [] n = []
copies place (x ∷ xs) n = cond (nat_eq x n) (place ∷ copies place xs n) (copies place xs n)

-- the places of the writers that read a node, where the first writer has this place
abbrev pub readers_from : ℕ → List Writer → ℕ → List ℕ
readers_from place [] n = []
readers_from place (w ∷ ws) n = copies place w.reads n ++ readers_from (place + 1) ws n

-- 1 for a list with items, else 0
abbrev pub one_if_any : List ℕ → ℕ
one_if_any [] = 0
one_if_any (c ∷ cs) = 1

-- the level 1 for a writer with a source, else 0
abbrev pub first_level : Writer → ℕ
first_level w = one_if_any w.sources

-- the places, with one more before them where a list has items
abbrev pub with_place_if_any : List ℕ → ℕ → List ℕ → List ℕ
with_place_if_any [] place places = places
with_place_if_any (c ∷ cs) place places = place ∷ places

-- the places of the writers with a source
abbrev pub started : ℕ → List Writer → List ℕ
started place [] = []
started place (w ∷ ws) = with_place_if_any w.sources place (started (place + 1) ws)

-- the levels so far, and the places that got the newest level
pub record Reached : Type 0 where
  pub levels : List ℕ
  pub next : List ℕ

-- a place without a level gets this one; past the end there is no place
abbrev pub reached : ℕ → ℕ → Reached → Reached
reached level place r =
    cond (nat_eq (slice_index_or r.levels place 1) 0) (record { levels = slice_set r.levels place level; next = r.next ++ place ∷ [] }) r

-- the levels and the newest places so far
abbrev pub so_far : List ℕ → List ℕ → Reached
so_far levels next = record { levels = levels; next = next }

-- what is reached once each of some places has this level
abbrev pub expanded : ℕ → List ℕ → Reached → Reached
expanded level [] r = r
expanded level (place ∷ places) r = expanded level places (reached level place r)

-- the places of the writers that read what this writer writes, if there is one
abbrev pub read_after : List Writer → Option Writer → List ℕ
read_after writers None = []
read_after writers (Some w) = readers_from 0 writers w.writes

-- the places of the writers that read what the writer at this place writes
abbrev pub after : List Writer → ℕ → List ℕ
after writers place = read_after writers (slice_get writers place)

-- the same for the writers at some places
abbrev pub after_all : List Writer → List ℕ → List ℕ
after_all writers places = flat_map (after writers) places

-- the levels and the newest places, before and after each of some places got this level
abbrev pub Reaches : ℕ → List ℕ → (levels next new_levels new_next : List ℕ) → Type 0
Reaches level places levels next new_levels new_next = so_far new_levels new_next ≡ expanded level places (so_far levels next)

-- the level of the writer at a place
abbrev pub level_at : List ℕ → ℕ → ℕ
level_at levels place = slice_index_or levels place 0

-- a number is one of a list
abbrev pub Among : List ℕ → ℕ → Type 0
Among [] n = ⊥
Among (x ∷ xs) n = (x ≡ n) ⊎ Among xs n

-- how many places have no level
abbrev pub zeros : List ℕ → ℕ
zeros [] = 0
zeros (zero ∷ xs) = suc (zeros xs)
zeros (suc x ∷ xs) = zeros xs

-- what tells that levels are right: a writer has level 1 exactly where it has a source, a writer of a
-- further level reads what one of the level below writes, and whoever reads what a writer of some level
-- writes has at most the next level
pub record Certificate (writers : List Writer) (levels : List ℕ) : Type 0 where
  pub size : length levels ≡ length writers
  pub first : (i c : ℕ) (w : Writer) → slice_get writers i ≡ Some w → Among w.sources c → level_at levels i ≡ 1
  pub source : (i : ℕ) (w : Writer) → slice_get writers i ≡ Some w → level_at levels i ≡ 1 → (c : ℕ) × Among w.sources c
  pub above : (j e : ℕ) (w : Writer) → slice_get writers j ≡ Some w → level_at levels j ≡ suc (suc e)
      → (i : ℕ) × (v : Writer) × (slice_get writers i ≡ Some v) × Among w.reads v.writes × (level_at levels i ≡ suc e)
  pub below : (i j : ℕ) (v w : Writer) → slice_get writers i ≡ Some v → slice_get writers j ≡ Some w → Among w.reads v.writes
      → 1 ≤ level_at levels i → (1 ≤ level_at levels j) × (level_at levels j ≤ level_at levels i + 1)

-- what holds before each turn of the search: `level` is the greatest level so far, and `frontier` has the places of it
pub record Searched (writers : List Writer) (levels frontier : List ℕ) (level : ℕ) : Type 0 where
  pub size : length levels ≡ length writers
  pub low : (i : ℕ) → level_at levels i ≤ level
  pub front : (i : ℕ) → Among frontier i → level_at levels i ≡ level
  pub back : (i : ℕ) → level_at levels i ≡ level → Among frontier i
  pub first : (i c : ℕ) (w : Writer) → slice_get writers i ≡ Some w → Among w.sources c → level_at levels i ≡ 1
  pub source : (i : ℕ) (w : Writer) → slice_get writers i ≡ Some w → level_at levels i ≡ 1 → (c : ℕ) × Among w.sources c
  pub above : (j e : ℕ) (w : Writer) → slice_get writers j ≡ Some w → level_at levels j ≡ suc (suc e)
      → (i : ℕ) × (v : Writer) × (slice_get writers i ≡ Some v) × Among w.reads v.writes × (level_at levels i ≡ suc e)
  pub below : (i j : ℕ) (v w : Writer) → slice_get writers i ≡ Some v → slice_get writers j ≡ Some w → Among w.reads v.writes
      → 1 ≤ level_at levels i → level_at levels i < level → (1 ≤ level_at levels j) × (level_at levels j ≤ level_at levels i + 1)
  pub room : (frontier ≡ []) ⊎ (level + zeros levels ≤ length writers)

-- the places that read a node are those that are kept for it, or none is kept and all of them have levels
pub record Serves (kept : ℕ → List ℕ) (writers : List Writer) (levels : List ℕ) : Type 0 where
  pub size : length levels ≡ length writers
  pub each : (n : ℕ) → (kept n ≡ readers_from 0 writers n) ⊎ ((kept n ≡ []) × ((j : ℕ) → Among (readers_from 0 writers n) j → 1 ≤ level_at levels j))
