-- Which places a writer's node leads to, and the levels at the start.
use Rattle.std.proofs.Common.{◌≡◌, ℕ, zero, suc, ◌+◌, ◌≤◌, ◌⊎◌, inl, inr, List, [], ◌∷◌, length, map, true, nat_eq, Option, Some, None, slice_get, refl, sym, ap, ◌∙◌, subst, arith}
use Rattle.std.proofs.lemmas.Bool.{cases_Bool, eqb-true, eq-eqb, cond-true, cond-false}
use Rattle.std.specs.List.{flat_map}
use Rattle.rb_trees.specs.declared.flows.Writer.{Writer}
use Rattle.rb_flow.specs.Levels.{Among, zeros, copies, readers_from, read_after, after, first_level, one_if_any, with_place_if_any, started, level_at}
use Rattle.rb_flow.proofs.Lists.{among_left, among_right, among_cases}

copies_sound : (place : ℕ) (xs : List ℕ) (n j : ℕ) → Among (copies place xs n) j → (j ≡ place) × Among xs n
copies_sound place [] n j h = absurd h
copies_sound place (x ∷ xs) n j h = elim (cases_Bool (nat_eq x n)) [
  | inl is ↦ elim (subst (λ ys. Among ys j) (cond-true _ _ _ is) h) [
    | inl e ↦ (sym e, inl (eqb-true x n is))
    | inr m ↦ let more = copies_sound place xs n j m in (more.0, inr more.1)
  ]
  | inr isnt ↦ let more = copies_sound place xs n j (subst (λ ys. Among ys j) (cond-false _ _ _ isnt) h) in (more.0, inr more.1)
]

copies_complete : (place : ℕ) (xs : List ℕ) (n : ℕ) → Among xs n → Among (copies place xs n) place
copies_complete place [] n h = absurd h
copies_complete place (x ∷ xs) n h = elim (cases_Bool (nat_eq x n)) [
  | inl is ↦ subst (λ ys. Among ys place) (sym (cond-true _ _ _ is)) (inl refl)
  | inr isnt ↦ subst (λ ys. Among ys place) (sym (cond-false _ _ _ isnt)) (elim h [
    | inl e ↦ absurd (let wrong : nat_eq x n ≡ true = eq-eqb x n e in cc)
    | inr m ↦ copies_complete place xs n m
  ])
]

-- a writer at a place that reads a node
pub record ReaderAt (ws : List Writer) (n k : ℕ) : Type 0 where
  pub writer : Writer
  pub is : slice_get ws k ≡ Some writer
  pub reads : Among writer.reads n

pub readers_sound : (place : ℕ) (ws : List Writer) (n j : ℕ) → Among (readers_from place ws n) j → (k : ℕ) × (j ≡ place + k) × ReaderAt ws n k
readers_sound place [] n j h = absurd h
readers_sound place (w ∷ ws) n j h = elim (among_cases (copies place w.reads n) (readers_from (place + 1) ws n) j h) [
  | inl a ↦ let c = copies_sound place w.reads n j a in (zero, omega (arith, c.0), record { writer = w; is = refl; reads = c.1 })
  | inr b ↦ let c = readers_sound (place + 1) ws n j b in (suc c.0, omega (arith, c.1), record { writer = c.2.writer; is = c.2.is; reads = c.2.reads })
]

readers_complete : (place : ℕ) (ws : List Writer) (n k : ℕ) (w : Writer) → slice_get ws k ≡ Some w → Among w.reads n → Among (readers_from place ws n) (place + k)
readers_complete place [] n k w e h = cc
readers_complete place (v ∷ ws) n zero w e h =
    let same : v ≡ w = cc in
    let at : place + zero ≡ place = omega arith in
    among_left (copies place v.reads n) (readers_from (place + 1) ws n) (place + zero)
    (subst (λ p. Among (copies place v.reads n) p) (sym at) (copies_complete place v.reads n (subst (λ x. Among x.reads n) (sym same) h)))
readers_complete place (v ∷ ws) n (suc k) w e h =
    let at : (place + 1) + k ≡ place + suc k = omega arith in
    among_right (copies place v.reads n) (readers_from (place + 1) ws n) (place + suc k)
    (subst (λ p. Among (readers_from (place + 1) ws n) p) at (readers_complete (place + 1) ws n k w e h))

-- the writer at i writes what the one at j reads
pub record Edge (writers : List Writer) (i j : ℕ) : Type 0 where
  pub from : Writer
  pub to : Writer
  pub from_is : slice_get writers i ≡ Some from
  pub to_is : slice_get writers j ≡ Some to
  pub reads : Among to.reads from.writes

after_sound : (writers : List Writer) (i j : ℕ) (o : Option Writer) → slice_get writers i ≡ o → Among (read_after writers o) j → Edge writers i j
after_sound writers i j None e h = absurd h
after_sound writers i j (Some v) e h =
    let r = readers_sound 0 writers v.writes j h in
    let same : r.0 ≡ j = omega (arith, r.1) in
    record { from = v; to = r.2.writer; from_is = e; to_is = subst (λ k. slice_get writers k ≡ Some r.2.writer) same r.2.is; reads = r.2.reads }

after_complete : (writers : List Writer) (i j : ℕ) (v w : Writer) → slice_get writers i ≡ Some v → slice_get writers j ≡ Some w → Among w.reads v.writes → Among (after writers i) j
after_complete writers i j v w iv jw h =
    let at : 0 + j ≡ j = omega arith in
    subst (λ o. Among (read_after writers o) j) (sym iv) (subst (λ p. Among (readers_from 0 writers v.writes) p) at (readers_complete 0 writers v.writes j w jw h))

pub all_sound : (writers : List Writer) (frontier : List ℕ) (j : ℕ) → Among (flat_map (after writers) frontier) j → (i : ℕ) × Among frontier i × Edge writers i j
all_sound writers [] j h = absurd h
all_sound writers (f ∷ fs) j h = elim (among_cases (after writers f) (flat_map (after writers) fs) j h) [
  | inl a ↦ (f, inl refl, after_sound writers f j (slice_get writers f) refl a)
  | inr b ↦ let more = all_sound writers fs j b in (more.0, inr more.1, more.2)
]

pub all_complete : (writers : List Writer) (frontier : List ℕ) (i j : ℕ) (v w : Writer) → Among frontier i → slice_get writers i ≡ Some v → slice_get writers j ≡ Some w → Among w.reads v.writes
    → Among (flat_map (after writers) frontier) j
all_complete writers [] i j v w m iv jw h = absurd m
all_complete writers (f ∷ fs) i j v w m iv jw h = elim m [
  | inl e ↦ among_left (after writers f) (flat_map (after writers) fs) j (after_complete writers f j v w (ap (slice_get writers) e ∙ iv) jw h)
  | inr more ↦ among_right (after writers f) (flat_map (after writers) fs) j (all_complete writers fs i j v w more iv jw h)
]

-- levels at the start
one_low : (cs : List ℕ) → one_if_any cs ≤ 1
one_low [] = omega arith
one_low (c ∷ cs) = omega arith

pub start_low : (ws : List Writer) (i : ℕ) → level_at (map first_level ws) i ≤ 1
start_low [] i = omega arith
start_low (w ∷ ws) zero = one_low w.sources
start_low (w ∷ ws) (suc i) = start_low ws i

pub start_at : (ws : List Writer) (i : ℕ) (w : Writer) → slice_get ws i ≡ Some w → level_at (map first_level ws) i ≡ first_level w
start_at [] i w e = cc
start_at (v ∷ ws) zero w e = ap first_level (let same : v ≡ w = cc in same)
start_at (v ∷ ws) (suc i) w e = start_at ws i w e

pub one_from : (cs : List ℕ) (c : ℕ) → Among cs c → one_if_any cs ≡ 1
one_from [] c h = absurd h
one_from (d ∷ cs) c h = refl

pub any_from : (cs : List ℕ) → one_if_any cs ≡ 1 → (c : ℕ) × Among cs c
any_from [] e = absurd (omega arith)
any_from (c ∷ cs) e = (c, inl refl)

front_step : (cs : List ℕ) (place i : ℕ) (more : List ℕ) → Among (with_place_if_any cs place more) i → ((i ≡ place) × (one_if_any cs ≡ 1)) ⊎ Among more i
front_step [] place i more h = inr h
front_step (c ∷ cs) place i more h = elim h [ inl e ↦ inl (sym e, refl) | inr m ↦ inr m ]

pub start_front : (place : ℕ) (ws : List Writer) (i : ℕ) → Among (started place ws) i → (k : ℕ) × (i ≡ place + k) × (level_at (map first_level ws) k ≡ 1)
start_front place [] i h = absurd h
start_front place (w ∷ ws) i h = elim (front_step w.sources place i (started (place + 1) ws) h) [
  | inl a ↦ (zero, omega (arith, a.0), a.1)
  | inr b ↦ let more = start_front (place + 1) ws i b in (suc more.0, omega (arith, more.1), more.2)
]

back_here : (cs : List ℕ) (place : ℕ) (more : List ℕ) → one_if_any cs ≡ 1 → Among (with_place_if_any cs place more) place
back_here [] place more e = absurd (omega arith)
back_here (c ∷ cs) place more e = inl refl

back_there : (cs : List ℕ) (place i : ℕ) (more : List ℕ) → Among more i → Among (with_place_if_any cs place more) i
back_there [] place i more h = h
back_there (c ∷ cs) place i more h = inr h

pub start_back : (place : ℕ) (ws : List Writer) (k : ℕ) → level_at (map first_level ws) k ≡ 1 → Among (started place ws) (place + k)
start_back place [] k e = absurd (omega arith)
start_back place (w ∷ ws) zero e =
    let at : place ≡ place + zero = omega arith in
    subst (λ p. Among (started place (w ∷ ws)) p) at (back_here w.sources place (started (place + 1) ws) e)
start_back place (w ∷ ws) (suc k) e =
    let at : (place + 1) + k ≡ place + suc k = omega arith in
    back_there w.sources place (place + suc k) (started (place + 1) ws) (subst (λ p. Among (started (place + 1) ws) p) at (start_back (place + 1) ws k e))

count_step : (cs : List ℕ) (place : ℕ) (levels more : List ℕ) → zeros (one_if_any cs ∷ levels) + length (with_place_if_any cs place more) ≡ suc (zeros levels + length more)
count_step [] place levels more = omega arith
count_step (c ∷ cs) place levels more = omega arith

pub start_count : (place : ℕ) (ws : List Writer) → zeros (map first_level ws) + length (started place ws) ≡ length ws
start_count place [] = refl
start_count place (w ∷ ws) = count_step w.sources place (map first_level ws) (started (place + 1) ws) ∙ ap suc (start_count (place + 1) ws)
