-- What levels and places are after some places were reached.
use Rattle.std.proofs.Common.{◌≡◌, ℕ, ◌+◌, ◌<◌, ◌≤◌, ◌⊎◌, inl, inr, List, [], ◌∷◌, ◌++◌, length, length-append, set, get_or, nat_eq, refl, sym, ap, ◌∙◌, subst, arith}
use Rattle.std.proofs.lemmas.List.{length-set, get_or-set_same, get_or-set_other, get_or_default, get_or_past}
use Rattle.std.proofs.lemmas.Bool.{cases_Bool, cases_eq, cases_lt, eqb-true, eqb-false, cond-true, cond-false}
use Rattle.rb_flow.specs.Levels.{Among, zeros, Reached, reached, expanded, level_at}
use Rattle.rb_flow.proofs.Lists.{among_left, among_right, among_cases, zeros_set}

-- a place that got its level
pub record Fresh (level : ℕ) (places : List ℕ) (r s : Reached) (i : ℕ) : Type 0 where
  pub was : level_at r.levels i ≡ 0
  pub is : level_at s.levels i ≡ level
  pub among : Among places i
  pub noted : Among s.next i

pub record Grown (level : ℕ) (places : List ℕ) (r s : Reached) : Type 0 where
  pub size : length s.levels ≡ length r.levels
  pub kept : (i : ℕ) → 1 ≤ level_at r.levels i → level_at s.levels i ≡ level_at r.levels i
  pub new : (i : ℕ) → (level_at s.levels i ≡ level_at r.levels i) ⊎ Fresh level places r s i
  pub all : (i : ℕ) → Among places i → i < length r.levels → 1 ≤ level_at s.levels i
  pub next : (i : ℕ) → Among s.next i → Among r.next i ⊎ (level_at s.levels i ≡ level)
  pub grows : (i : ℕ) → Among r.next i → Among s.next i
  pub count : zeros s.levels + length s.next ≡ zeros r.levels + length r.next

grown_set : (level p : ℕ) (r : Reached) → 1 ≤ level → p < length r.levels → level_at r.levels p ≡ 0
    → Grown level (p ∷ []) r (record { levels = set r.levels p level; next = r.next ++ p ∷ [] })
grown_set level p r pos within none = record {
  size = length-set r.levels p level;
  kept = λ i h. elim (cases_eq i p) [
    | inl e ↦ absurd (let at : level_at r.levels i ≡ 0 = ap (level_at r.levels) e ∙ none in omega arith)
    | inr ne ↦ get_or-set_other r.levels p i level 0 ne
  ];
  new = λ i. elim (cases_eq i p) [
    | inl e ↦ inr (record {
      was = ap (level_at r.levels) e ∙ none;
      is = ap (λ k. get_or (set r.levels p level) k 0) e ∙ get_or-set_same r.levels p level 0 within;
      among = inl (sym e);
      noted = among_right r.next (p ∷ []) i (inl (sym e));
    })
    | inr ne ↦ inl (get_or-set_other r.levels p i level 0 ne)
  ];
  all = λ i m h. elim m [
    | inl e ↦ (let at : get_or (set r.levels p level) i 0 ≡ level = ap (λ k. get_or (set r.levels p level) k 0) (sym e) ∙ get_or-set_same r.levels p level 0 within in omega arith)
    | inr none ↦ absurd none
  ];
  next = λ i m. elim (among_cases r.next (p ∷ []) i m) [
    | inl old ↦ inl old
    | inr here ↦ elim here [
      | inl e ↦ inr (ap (λ k. get_or (set r.levels p level) k 0) (sym e) ∙ get_or-set_same r.levels p level 0 within)
      | inr none ↦ absurd none
    ]
  ];
  grows = λ i m. among_left r.next (p ∷ []) i m;
  count = let z = zeros_set r.levels p level within none pos in let a = length-append r.next (p ∷ []) in omega arith;
}

grown_same : (level p : ℕ) (r : Reached) → (p < length r.levels → 1 ≤ level_at r.levels p) → Grown level (p ∷ []) r r
grown_same level p r has = record {
  size = refl;
  kept = λ i h. refl;
  new = λ i. inl refl;
  all = λ i m h. elim m [ inl e ↦ subst (λ k. 1 ≤ level_at r.levels k) e (has (subst (λ k. k < length r.levels) (sym e) h)) | inr none ↦ absurd none ];
  next = λ i m. inl m;
  grows = λ i m. m;
  count = refl;
}

grown_one : (level p : ℕ) (r : Reached) → 1 ≤ level → Grown level (p ∷ []) r (reached level p r)
grown_one level p r pos = elim (cases_Bool (nat_eq (get_or r.levels p 1) 0)) [
  | inl is ↦
      let none : get_or r.levels p 1 ≡ 0 = eqb-true _ _ is in
      let within : p < length r.levels = elim (cases_lt p (length r.levels)) [ inl h ↦ h | inr past ↦ absurd (let one : get_or r.levels p 1 ≡ 1 = get_or_past r.levels p 1 past in omega arith) ] in
      subst (λ s. Grown level (p ∷ []) r s) (sym (cond-true _ _ _ is)) (grown_set level p r pos within (get_or_default r.levels p 0 1 within ∙ none))
  | inr isnt ↦ subst (λ s. Grown level (p ∷ []) r s) (sym (cond-false _ _ _ isnt))
      (grown_same level p r (λ within. (let some : get_or r.levels p 1 ≡ 0 → ⊥ = eqb-false _ _ isnt in let same : get_or r.levels p 0 ≡ get_or r.levels p 1 = get_or_default r.levels p 0 1 within in omega arith)))
]

grown_both : (level : ℕ) (xs ys : List ℕ) (r s t : Reached) → Grown level xs r s → Grown level ys s t → Grown level (xs ++ ys) r t
grown_both level xs ys r s t g h = record {
  size = h.size ∙ g.size;
  kept = λ i p. h.kept i (subst (λ n. 1 ≤ n) (sym (g.kept i p)) p) ∙ g.kept i p;
  new = λ i. elim (h.new i) [
    | inl e ↦ elim (g.new i) [
      | inl d ↦ inl (e ∙ d)
      | inr f ↦ inr (record { was = f.was; is = e ∙ f.is; among = among_left xs ys i f.among; noted = h.grows i f.noted })
    ]
    | inr f ↦ elim (g.new i) [
      | inl d ↦ inr (record { was = sym d ∙ f.was; is = f.is; among = among_right xs ys i f.among; noted = f.noted })
      | inr d ↦ inr (record { was = d.was; is = f.is; among = among_right xs ys i f.among; noted = f.noted })
    ]
  ];
  all = λ i m w. elim (among_cases xs ys i m) [
    | inl a ↦ (let one = g.all i a w in subst (λ n. 1 ≤ n) (sym (h.kept i one)) one)
    | inr b ↦ h.all i b (subst (λ n. i < n) (sym g.size) w)
  ];
  next = λ i m. elim (h.next i m) [
    | inl a ↦ elim (g.next i a) [
      | inl b ↦ inl b
      | inr e ↦ elim (h.new i) [ inl d ↦ inr (d ∙ e) | inr f ↦ inr f.is ]
    ]
    | inr e ↦ inr e
  ];
  grows = λ i m. h.grows i (g.grows i m);
  count = h.count ∙ g.count;
}

grown_none : (level : ℕ) (r : Reached) → Grown level [] r r
grown_none level r = record {
  size = refl;
  kept = λ i h. refl;
  new = λ i. inl refl;
  all = λ i m h. absurd m;
  next = λ i m. inl m;
  grows = λ i m. m;
  count = refl;
}

-- each place that is reached has a level then, and nothing else changes
pub grown : (level : ℕ) (places : List ℕ) (r : Reached) → 1 ≤ level → Grown level places r (expanded level places r)
grown level [] r pos = grown_none level r
grown level (p ∷ ps) r pos = grown_both level (p ∷ []) ps r (reached level p r) (expanded level ps (reached level p r)) (grown_one level p r pos) (grown level ps (reached level p r) pos)
