-- What is kept of the readers of each node while the search takes them out.
use Rattle.std.proofs.Common.{◌≡◌, ℕ, ◌<◌, ◌≤◌, ◌⊎◌, inl, inr, List, [], ◌∷◌, length, map, get_or, nat_eq, cond, Some, slice_get, refl, sym, ap, ◌∙◌, subst, arith}
use Rattle.std.proofs.lemmas.List.{get_or_default, get_or_past, length-map}
use Rattle.std.proofs.lemmas.Option.{slice_get_within}
use Rattle.std.proofs.lemmas.Bool.{cases_Bool, cases_lt, eqb-true, ne_eqb, cond-true, cond-false}
use Rattle.rb_trees.specs.declared.flows.Writer.{Writer}
use Rattle.rb_flow.specs.Levels.{Among, Reached, expanded, readers_from, read_after, after, first_level, level_at, Serves}
use Rattle.rb_flow.proofs.Grown.{Grown, grown}
use Rattle.rb_flow.proofs.Read.{readers_sound}

pub served_at_first : (kept : ℕ → List ℕ) (writers : List Writer) (levels : List ℕ) → levels ≡ map first_level writers → ((n : ℕ) → kept n ≡ readers_from 0 writers n) → Serves kept writers levels
served_at_first kept writers levels e h = record { size = ap length e ∙ length-map writers first_level; each = λ n. inl (h n) }

some_level : (r : Reached) (p : ℕ) → 1 ≤ level_at r.levels p → get_or r.levels p 1 ≡ 0 → ⊥
some_level r p h e = elim (cases_lt p (length r.levels)) [
  | inl l ↦ (let d : get_or r.levels p 0 ≡ get_or r.levels p 1 = get_or_default r.levels p 0 1 l in omega arith)
  | inr l ↦ (let d : get_or r.levels p 1 ≡ 1 = get_or_past r.levels p 1 l in omega arith)
]

-- places that have levels change nothing
idle : (level : ℕ) (places : List ℕ) (r : Reached) → ((j : ℕ) → Among places j → 1 ≤ level_at r.levels j) → expanded level places r ≡ r
idle level [] r h = refl
idle level (p ∷ ps) r h = ap (expanded level ps) (cond-false _ _ _ (ne_eqb (get_or r.levels p 1) 0 (some_level r p (h p (inl refl))))) ∙ idle level ps r (λ j m. h j (inr m))

-- what is taken out for a node serves as all of its readers, and the rest is kept
pub served : (before now : ℕ → List ℕ) (writers : List Writer) (n level : ℕ) (taken : List ℕ) (r s : Reached) → 1 ≤ level → Serves before writers r.levels → taken ≡ before n
    → ((m : ℕ) → now m ≡ cond (nat_eq n m) [] (before m)) → s ≡ expanded level taken r → (s ≡ expanded level (readers_from 0 writers n) r) × Serves now writers s.levels
served before now writers n level taken r s pos h took rest e = (same, record { size = size; each = each })
  where
    whole : expanded level taken r ≡ expanded level (readers_from 0 writers n) r
    whole = elim (h.each n) [
      | inl is ↦ ap (λ xs. expanded level xs r) (took ∙ is)
      | inr none ↦ ap (λ xs. expanded level xs r) (took ∙ none.0) ∙ sym (idle level (readers_from 0 writers n) r none.1)
    ]

    same : s ≡ expanded level (readers_from 0 writers n) r
    same = e ∙ whole

    grew : Grown level (readers_from 0 writers n) r (expanded level (readers_from 0 writers n) r)
    grew = grown level (readers_from 0 writers n) r pos

    size : length s.levels ≡ length writers
    size = ap (λ t. length t.levels) same ∙ grew.size ∙ h.size

    above : (j : ℕ) → 1 ≤ level_at r.levels j → 1 ≤ level_at s.levels j
    above j p = subst (λ t. 1 ≤ level_at t.levels j) (sym same) (subst (λ k. 1 ≤ k) (sym (grew.kept j p)) p)

    reached_now : (j : ℕ) → Among (readers_from 0 writers n) j → 1 ≤ level_at s.levels j
    reached_now j m =
        let found = readers_sound 0 writers n j m in
        let there : found.0 ≡ j = omega (arith, found.1) in
        let within : j < length r.levels = subst (λ k. j < k) (sym h.size) (subst (λ k. k < length writers) there (slice_get_within writers found.0 found.2.writer found.2.is)) in
        subst (λ t. 1 ≤ level_at t.levels j) (sym same) (grew.all j m within)

    each : (m : ℕ) → (now m ≡ readers_from 0 writers m) ⊎ ((now m ≡ []) × ((j : ℕ) → Among (readers_from 0 writers m) j → 1 ≤ level_at s.levels j))
    each m = elim (cases_Bool (nat_eq n m)) [
      | inl is ↦ (let at : n ≡ m = eqb-true n m is in
          inr (rest m ∙ cond-true _ _ _ is, λ j a. reached_now j (subst (λ k. Among (readers_from 0 writers k) j) (sym at) a)))
      | inr isnt ↦ elim (h.each m) [
        | inl kept ↦ inl (rest m ∙ cond-false _ _ _ isnt ∙ kept)
        | inr none ↦ inr (rest m ∙ cond-false _ _ _ isnt ∙ none.0, λ j a. above j (none.1 j a))
      ]
    ]

pub served_after : (before now : ℕ → List ℕ) (writers : List Writer) (place : ℕ) (w : Writer) (level : ℕ) (taken lent : List ℕ) (r s : Reached) → slice_get writers place ≡ Some w → 1 ≤ level → Serves before writers r.levels
    → taken ≡ before w.writes → ((m : ℕ) → now m ≡ cond (nat_eq w.writes m) [] (before m)) → lent ≡ taken → s ≡ expanded level lent r → (s ≡ expanded level (after writers place) r) × Serves now writers s.levels
served_after before now writers place w level taken lent r s at pos h took rest as' e =
    let both = served before now writers w.writes level taken r s pos h took rest (e ∙ ap (λ xs. expanded level xs r) as') in
    (both.0 ∙ ap (λ o. expanded level (read_after writers o) r) (sym at), both.1)
