-- What is kept while refusals are found is the first of them.
use Rattle.std.proofs.Common.{◌≡◌, ℕ, zero, suc, ◌<◌, ◌≤◌, ◌⊎◌, inl, inr, List, [], ◌∷◌, ◌++◌, length, get_or, true, false, ◌&&◌, nat_eq, nat_lt, Option, Some, refl, sym, ap, ◌∙◌, subst, arith}
use Rattle.std.specs.List.{Contains}
use Rattle.std.proofs.lemmas.Bool.{cases_Bool, eqb-true, eqb-false, ltb-true, ltb-false, cond-true, cond-false, or_cases, or_parts, and_parts, and_cases}
use Rattle.rb_trees.specs.declared.refusals.Refusal.{Refusal}
use Rattle.rb_meaning_flow.specs.Refusals.{place, number, last_of, IsBefore}
use Rattle.rb_trees.proofs.mirror.Exprs.{exprs}
use Rattle.rb_trees.proofs.mirror.Stmts.{stmts}
use Rattle.rb_trees.proofs.mirror.Positions.{expr_at_tree}
use Rattle.rb_flow.proofs.Trees.{stmt_at_tree}
use Rattle.std.proofs.lemmas.Grind.{common_steps}
use Rattle.rb_flow.specs.Earliest.{is_before, earlier, earliest, IsEarliest, EarliestIsFirst}

-- the last of a list, or what came before it
abbrev pub last_from : List ℕ → ℕ → ℕ
last_from [] last = last
last_from (p ∷ ps) last = last_from ps p

last_more : (p : ℕ) (ps : List ℕ) (q : ℕ) → last_from (p ∷ ps) q ≡ last_of (p ∷ ps)
last_more p [] q = refl
last_more p (r ∷ ps) q = last_more r ps p

pub last_whole : (ps : List ℕ) → last_from ps 0 ≡ last_of ps
last_whole [] = refl
last_whole (p ∷ ps) = last_more p ps 0

-- a refusal that isn't after another
pub record AtMost (r s : Refusal) : Type 0 where
  pub is : (place r < place s) ⊎ ((place r ≡ place s) × (number r ≤ number s))

at_most_both : (r s t : Refusal) → AtMost r s → AtMost s t → AtMost r t
at_most_both r s t g h = record {
  is = elim g.is [
    | inl a ↦ inl (elim h.is [ inl b ↦ omega arith | inr b ↦ omega (arith, b.0) ])
    | inr a ↦ elim h.is [ inl b ↦ inl (omega (arith, a.0)) | inr b ↦ inr (a.0 ∙ b.0, omega (arith, a.1, b.1)) ]
  ];
}

at_most_itself : (r : Refusal) → AtMost r r
at_most_itself r = record { is = inr (refl, omega arith) }

pub before_true : (r s : Refusal) → is_before r s ≡ true → AtMost r s
before_true r s e = record {
  is = elim (or_cases (nat_lt (place r) (place s)) (nat_eq (place r) (place s) && nat_lt (number r) (number s)) e) [
    | inl a ↦ inl (ltb-true (place r) (place s) a)
    | inr a ↦ let both = and_parts (nat_eq (place r) (place s)) (nat_lt (number r) (number s)) a in
        let lt : number r < number s = ltb-true (number r) (number s) both.1 in inr (eqb-true (place r) (place s) both.0, omega arith)
  ];
}

pub before_false : (r s : Refusal) → is_before r s ≡ false → AtMost s r
before_false r s e =
    let parts = or_parts (nat_lt (place r) (place s)) (nat_eq (place r) (place s) && nat_lt (number r) (number s)) e in
    let le : place s ≤ place r = ltb-false (place r) (place s) parts.0 in
    record {
      is = elim (and_cases (nat_eq (place r) (place s)) (nat_lt (number r) (number s)) parts.1) [
        | inl a ↦ inl (let ne : place r ≡ place s → ⊥ = eqb-false (place r) (place s) a in omega arith)
        | inr a ↦ (let at : number s ≤ number r = ltb-false (number r) (number s) a in elim (cases_Bool (nat_eq (place r) (place s))) [
          | inl b ↦ inr (sym (eqb-true (place r) (place s) b), at)
          | inr b ↦ inl (let ne : place r ≡ place s → ⊥ = eqb-false (place r) (place s) b in omega arith)
        ])
      ];
    }

Each : List Refusal → Refusal → Type 0
Each [] r = Unit
Each (s ∷ ss) r = AtMost r s × Each ss r

pub Found : List Refusal → Refusal → Type 0
Found [] r = ⊥
Found (s ∷ ss) r = (s ≡ r) ⊎ Found ss r

each_further : (ss : List Refusal) (r s : Refusal) → AtMost r s → Each ss s → Each ss r
unfolding Each
each_further [] r s h e = tt
each_further (t ∷ ss) r s h e = (at_most_both r s t h e.0, each_further ss r s h e.1)

first_more : (rs : List Refusal) (s : Refusal) → (r : Refusal) × (earliest rs (Some s) ≡ Some r) × Found (s ∷ rs) r × Each (s ∷ rs) r
unfolding Each Found
first_more [] s = (s, refl, inl refl, (at_most_itself s, tt))
first_more (t ∷ rs) s = elim (cases_Bool (is_before t s)) [
  | inl is ↦
      let m = first_more rs t in
      (m.0, ap (earliest rs) (cond-true _ _ _ is) ∙ m.1, inr m.2, (at_most_both m.0 t s m.3.0 (before_true t s is), m.3))
  | inr isnt ↦
      let m = first_more rs s in (
        m.0,
        ap (earliest rs) (cond-false _ _ _ isnt) ∙ m.1,
        elim m.2 [ inl e ↦ inl e | inr f ↦ inr (inr f) ],
        (m.3.0, (at_most_both m.0 s t m.3.0 (before_false t s isnt), m.3.1)),
      )
]

contained : (rs : List Refusal) (r : Refusal) → Found rs r → Contains rs r
unfolding Found
contained [] r f = absurd f
contained (s ∷ rs) r f = elim f [ inl e ↦ (zero, omega arith, e) | inr m ↦ let c = contained rs r m in (suc c.0, omega (arith, c.1), c.2) ]

each_at : (rs : List Refusal) (r other : Refusal) → Each rs r → (k : ℕ) → k < length rs → get_or rs k other ≡ other → AtMost r other
unfolding Each
each_at [] r other e k l at = absurd (omega arith)
each_at (s ∷ rs) r other e zero l at = subst (AtMost r) at e.0
each_at (s ∷ rs) r other e (suc k) l at = each_at rs r other e.1 k (omega arith) at

not_before : (r other : Refusal) → AtMost r other → IsBefore other r → ⊥
not_before r other h b = elim h.is [
  | inl lt ↦ elim b [ inl l2 ↦ omega arith | inr t2 ↦ omega (arith, t2.0) ]
  | inr tied ↦ elim b [ inl l2 ↦ omega (arith, tied.0) | inr t2 ↦ omega (arith, tied.1, t2.1) ]
]

pub earliest_is_first : EarliestIsFirst
earliest_is_first [] = refl
earliest_is_first (s ∷ rs) =
    let m = first_more rs s in
    subst (IsEarliest (s ∷ rs)) (sym m.1) (contained (s ∷ rs) m.0 m.2, λ other c b. not_before m.0 other (each_at (s ∷ rs) m.0 other m.3 c.0 c.1 c.2) b)

-- what is kept of some refusals and then of others
pub earliest_more : (rs ss : List Refusal) (first : Option Refusal) → earliest (rs ++ ss) first ≡ earliest ss (earliest rs first)
earliest_more [] ss first = refl
earliest_more (r ∷ rs) ss first = earliest_more rs ss (earlier first r)

pub ruleset found_rules = (exprs, stmts, expr_at_tree, stmt_at_tree, earliest_more, common_steps)
