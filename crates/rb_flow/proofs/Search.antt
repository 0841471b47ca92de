-- The search by levels: its start, a turn, its end.
use Rattle.std.proofs.Common.{◌≡◌, ℕ, ◌+◌, ◌<◌, ◌≤◌, ◌⊎◌, inl, inr, List, [], ◌∷◌, length, map, refl, sym, ap, ◌∙◌, subst, arith}
use Rattle.std.proofs.lemmas.List.{length-map}
use Rattle.std.proofs.lemmas.Bool.{cases_lt}
use Rattle.std.proofs.lemmas.Option.{slice_get_within}
use Rattle.std.specs.List.{flat_map}
use Rattle.rb_trees.specs.declared.flows.Writer.{Writer}
use Rattle.rb_flow.specs.Levels.{Among, zeros, Reached, expanded, after, first_level, started, level_at, Searched, Certificate}
use Rattle.rb_flow.proofs.Grown.{Grown, grown}
use Rattle.rb_flow.proofs.Read.{all_sound, all_complete, start_low, start_at, start_front, start_back, start_count, one_from, any_from}

-- a list is empty, or has an item
pub nil_or : (xs : List ℕ) → (xs ≡ []) ⊎ (1 ≤ length xs)
nil_or [] = inl refl
nil_or (x ∷ xs) = inr (omega arith)

pub search_starts : (writers : List Writer) → Searched writers (map first_level writers) (started 0 writers) 1
search_starts writers = record {
  size = length-map writers first_level;
  low = start_low writers;
  front = λ i m. (let f = start_front 0 writers i m in let at : f.0 ≡ i = omega (arith, f.1) in subst (λ k. level_at (map first_level writers) k ≡ 1) at f.2);
  back = λ i e. (let at : 0 + i ≡ i = omega arith in subst (λ p. Among (started 0 writers) p) at (start_back 0 writers i e));
  first = λ i c w is m. start_at writers i w is ∙ one_from w.sources c m;
  source = λ i w is e. any_from w.sources (sym (start_at writers i w is) ∙ e);
  above = λ j e w is l. absurd (let low = start_low writers j in omega arith);
  below = λ i j v w iv jw m pos lt. absurd (omega arith);
  room = elim (nil_or (started 0 writers)) [ inl e ↦ inl e | inr some ↦ inr (let count = start_count 0 writers in omega arith) ];
}

turn : (writers : List Writer) (levels frontier : List ℕ) (level : ℕ) (s : Reached) → 1 ≤ level → 1 ≤ length frontier → Searched writers levels frontier level
    → Grown (level + 1) (flat_map (after writers) frontier) (record { levels = levels; next = [] }) s → Searched writers s.levels s.next (level + 1)
turn writers levels frontier level s pos some h g = record {
  size = g.size ∙ h.size;
  low = low;
  front = λ i m. elim (g.next i m) [ inl none ↦ absurd none | inr e ↦ e ];
  back = λ i e. elim (g.new i) [ inl d ↦ absurd (let l = h.low i in omega arith) | inr f ↦ f.noted ];
  first = λ i c w is m. (let one = h.first i c w is m in g.kept i (omega arith) ∙ one);
  source = λ i w is e. elim (g.new i) [ inl d ↦ h.source i w is (sym d ∙ e) | inr f ↦ absurd (let l = f.is in omega arith) ];
  above = λ j e w is l. elim (g.new j) [
    | inl d ↦ (let x = h.above j e w is (sym d ∙ l) in (x.0, x.1, x.2, x.3, g.kept x.0 (let p = x.4 in omega arith) ∙ x.4))
    | inr f ↦ (let x = all_sound writers frontier j f.among in
        let edge = x.2 in
        let there = h.front x.0 x.1 in
        let same : edge.to ≡ w = (let both = sym edge.to_is ∙ is in cc) in
        (x.0, edge.from, edge.from_is, subst (λ y. Among y.reads edge.from.writes) same edge.reads, g.kept x.0 (omega arith) ∙ (let l2 = f.is in omega arith)))
  ];
  below = λ i j v w iv jw m p lt. elim (g.new i) [
    | inl d ↦ elim (cases_lt (level_at levels i) level) [
      | inl under ↦ (let b = h.below i j v w iv jw m (omega arith) under in let k = g.kept j b.0 in (omega (arith, b.0), omega (arith, b.1)))
      | inr over ↦ (let here : level_at levels i ≡ level = (let l = h.low i in omega arith) in
          (g.all j (all_complete writers frontier i j v w (h.back i here) iv jw m) (subst (λ n. j < n) (sym h.size) (slice_get_within writers j w jw)), (let l = low j in omega arith)))
    ]
    | inr f ↦ absurd (let l = f.is in omega arith)
  ];
  room = elim (nil_or s.next) [
    | inl e ↦ inl e
    | inr more ↦ inr (let c = g.count in elim h.room [ inl e ↦ absurd (let none : length frontier ≡ 0 = ap length e in omega arith) | inr r ↦ omega arith ])
  ];
}
  where
    low : (i : ℕ) → level_at s.levels i ≤ level + 1
    low i = let l = h.low i in elim (g.new i) [ inl d ↦ omega arith | inr f ↦ (let e = f.is in omega arith) ]

pub search_goes_on : (writers : List Writer) (levels frontier : List ℕ) (level : ℕ) (s : Reached) → 1 ≤ level → 1 ≤ length frontier → Searched writers levels frontier level
    → s ≡ expanded (level + 1) (flat_map (after writers) frontier) (record { levels = levels; next = [] })
    → Searched writers s.levels s.next (level + 1) × (zeros s.levels + length s.next ≡ zeros levels)
search_goes_on writers levels frontier level s pos some h e =
    let g = subst (λ t. Grown (level + 1) (flat_map (after writers) frontier) (record { levels = levels; next = [] }) t) (sym e)
    (grown (level + 1) (flat_map (after writers) frontier) (record { levels = levels; next = [] }) (omega arith)) in
    (turn writers levels frontier level s pos some h g, (let c = g.count in omega arith))

pub search_ends : (writers : List Writer) (levels frontier : List ℕ) (level : ℕ) → frontier ≡ [] → Searched writers levels frontier level → Certificate writers levels
search_ends writers levels frontier level none h = record {
  size = h.size;
  first = h.first;
  source = h.source;
  above = h.above;
  below = λ i j v w iv jw m p. elim (cases_lt (level_at levels i) level) [
    | inl under ↦ h.below i j v w iv jw m p under
    | inr over ↦ absurd (let here : level_at levels i ≡ level = (let l = h.low i in omega arith) in subst (λ xs. Among xs i) none (h.back i here))
  ];
}

pub search_starts_at : (writers : List Writer) (levels frontier : List ℕ) → levels ≡ map first_level writers → frontier ≡ started 0 writers → Searched writers levels frontier 1
search_starts_at writers levels frontier e f =
    subst (λ ls. Searched writers ls frontier 1) (sym e) (subst (λ fs. Searched writers (map first_level writers) fs 1) (sym f) (search_starts writers))

pub turn_taken : (writers : List Writer) (levels frontier lent empty : List ℕ) (level : ℕ) (s : Reached) → 1 ≤ level → 1 ≤ length frontier → Searched writers levels frontier level
    → lent ≡ frontier → empty ≡ [] → s ≡ expanded (level + 1) (flat_map (after writers) lent) (record { levels = levels; next = empty })
    → Searched writers s.levels s.next (level + 1) × (zeros s.levels + length s.next ≡ zeros levels)
turn_taken writers levels frontier lent empty level s pos some h same none e =
    search_goes_on writers levels frontier level s pos some h
    (e ∙ ap (λ xs. expanded (level + 1) (flat_map (after writers) xs) (record { levels = levels; next = empty })) same
    ∙ ap (λ xs. expanded (level + 1) (flat_map (after writers) frontier) (record { levels = levels; next = xs })) none)
