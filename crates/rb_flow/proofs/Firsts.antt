-- The first writer of a node, and of some nodes.
use Rattle.std.proofs.Common.{◌≡◌, ℕ, zero, suc, ◌+◌, ◌<◌, ◌≤◌, ◌⊎◌, inl, inr, List, [], ◌∷◌, true, false, nat_eq, nat_lt, ◌&&◌, Option, Some, None, slice_get, refl, sym, ap, ◌∙◌, subst, arith}
use Rattle.std.proofs.lemmas.Bool.{cases_Bool, eqb-true, eqb-false, ltb-true, ltb-false, cond-true, cond-false, or_cases, or_parts, and_parts, and_cases}
use Rattle.rb_trees.specs.declared.flows.Writer.{Writer}
use Rattle.rb_flow.specs.declared.origins.Origin.{Origin}
use Rattle.rb_flow.specs.Levels.{Among, level_at}
use Rattle.rb_flow.specs.Origins.{is_earlier, earlier_of, here, with_writer, first_from, first_of, least_of}

-- an origin that isn't after another
pub record AtMost (p q : Origin) : Type 0 where
  pub is : (p.level < q.level) ⊎ ((p.level ≡ q.level) × (p.at ≤ q.at))

at_most_itself : (p : Origin) → AtMost p p
at_most_itself p = record { is = inr (refl, omega arith) }

at_most_both : (p q r : Origin) → AtMost p q → AtMost q r → AtMost p r
at_most_both p q r g h = record {
  is = elim g.is [
    | inl a ↦ inl (elim h.is [ inl b ↦ omega arith | inr b ↦ omega (arith, b.0) ])
    | inr a ↦ elim h.is [ inl b ↦ inl (omega (arith, a.0)) | inr b ↦ inr (a.0 ∙ b.0, omega (arith, a.1, b.1)) ]
  ];
}

earlier_true : (p q : Origin) → is_earlier p q ≡ true → AtMost p q
earlier_true p q e = record {
  is = elim (or_cases _ _ e) [
    | inl a ↦ inl (ltb-true _ _ a)
    | inr a ↦ let both = and_parts _ _ a in let lt = ltb-true _ _ both.1 in inr (eqb-true _ _ both.0, omega arith)
  ];
}

earlier_false : (p q : Origin) → is_earlier p q ≡ false → AtMost q p
earlier_false p q e =
    let parts = or_parts (nat_lt p.level q.level) (nat_eq p.level q.level && nat_lt p.at q.at) e in
    let le : q.level ≤ p.level = ltb-false p.level q.level parts.0 in
    record {
      is = elim (and_cases (nat_eq p.level q.level) (nat_lt p.at q.at) parts.1) [
        | inl a ↦ inl (let ne : p.level ≡ q.level → ⊥ = eqb-false p.level q.level a in omega arith)
        | inr a ↦ (let at : q.at ≤ p.at = ltb-false p.at q.at a in elim (cases_Bool (nat_eq p.level q.level)) [
          | inl b ↦ inr (sym (eqb-true p.level q.level b), at)
          | inr b ↦ inl (let ne : p.level ≡ q.level → ⊥ = eqb-false p.level q.level b in omega arith)
        ])
      ];
    }

-- what is found among candidates is the first of them, and nothing is found where there is none
pub IsFirst : (Origin → Type 0) → Option Origin → Type 0
IsFirst C None = (p : Origin) → C p → ⊥
IsFirst C (Some o) = C o × ((p : Origin) → C p → AtMost o p)

pub nothing_found : (C : Origin → Type 0) → IsFirst C None → (p : Origin) → C p → ⊥
unfolding IsFirst
nothing_found C h = h

pub found : (C : Origin → Type 0) (o : Origin) → IsFirst C (Some o) → C o × ((p : Origin) → C p → AtMost o p)
unfolding IsFirst
found C o h = h

first_none : (C : Origin → Type 0) → ((p : Origin) → C p → ⊥) → IsFirst C None
unfolding IsFirst
first_none C h = h

pub first_same : (C D : Origin → Type 0) (o : Option Origin) → ((p : Origin) → C p → D p) → ((p : Origin) → D p → C p) → IsFirst C o → IsFirst D o
unfolding IsFirst
first_same C D None to back h = λ p d. h p (back p d)
first_same C D (Some o) to back h = (to o h.0, λ p d. h.1 p (back p d))

first_both : (C D : Origin → Type 0) (o q : Option Origin) → IsFirst C o → IsFirst D q → IsFirst (λ p. C p ⊎ D p) (earlier_of o q)
unfolding IsFirst
first_both C D None None g h = λ p either. elim either [ inl c ↦ g p c | inr d ↦ h p d ]
first_both C D None (Some q) g h = (inr h.0, λ p either. elim either [ inl c ↦ absurd (g p c) | inr d ↦ h.1 p d ])
first_both C D (Some o) None g h = (inl g.0, λ p either. elim either [ inl c ↦ g.1 p c | inr d ↦ absurd (h p d) ])
first_both C D (Some o) (Some q) g h = elim (cases_Bool (is_earlier q o)) [
  | inl is ↦ subst (IsFirst (λ p. C p ⊎ D p)) (sym (cond-true _ _ _ is))
      (inr h.0, λ p either. elim either [ inl c ↦ at_most_both q o p (earlier_true q o is) (g.1 p c) | inr d ↦ h.1 p d ])
  | inr isnt ↦ subst (IsFirst (λ p. C p ⊎ D p)) (sym (cond-false _ _ _ isnt))
      (inl g.0, λ p either. elim either [ inl c ↦ g.1 p c | inr d ↦ at_most_both o q p (earlier_false q o isnt) (h.1 p d) ])
]

-- a writer of a node that a source leads to: the one at the origin's place
pub record Candidate (place : ℕ) (ws : List Writer) (levels : List ℕ) (n : ℕ) (p : Origin) : Type 0 where
  pub k : ℕ
  pub there : p.place ≡ place + k
  pub writer : Writer
  pub is : slice_get ws k ≡ Some writer
  pub writes : writer.writes ≡ n
  pub at : p.at ≡ writer.at
  pub level : p.level ≡ level_at levels p.place
  pub positive : 1 ≤ p.level

abbrev HereOnly : ℕ → Writer → ℕ → ℕ → Origin → Type 0
HereOnly place w level n p = (p.place ≡ place) × (w.writes ≡ n) × (p.at ≡ w.at) × (p.level ≡ level) × (1 ≤ p.level)

origin_same : (p : Origin) (level at place : ℕ) → p.level ≡ level → p.at ≡ at → p.place ≡ place → p ≡ record { level = level; at = at; place = place }
origin_same p level at place e f g =
    ap (λ (x : ℕ). let o : Origin = record { level = x; at = p.at; place = p.place } in o) e
    ∙ ap (λ (x : ℕ). let o : Origin = record { level = level; at = x; place = p.place } in o) f
    ∙ ap (λ (x : ℕ). let o : Origin = record { level = level; at = at; place = x } in o) g

new_first : (new : Origin) → IsFirst (λ p. p ≡ new) (Some new)
unfolding IsFirst
new_first new = (refl, λ p same. subst (λ q. AtMost new q) (sym same) (at_most_itself new))

here_first : (C : Origin → Type 0) (place : ℕ) (w : Writer) (level n : ℕ) (o : Option Origin) → w.writes ≡ n → IsFirst C o
    → IsFirst (λ p. C p ⊎ HereOnly place w level n p) (here place w level o)
here_first C place w zero n o e h = first_same C (λ p. C p ⊎ HereOnly place w zero n p) o (λ p c. inl c) (λ p either. elim either [ inl c ↦ c | inr d ↦ absurd (omega (arith, d.3, d.4)) ]) h
here_first C place w (suc level) n o e h =
    let new : Origin = record { level = suc level; at = w.at; place = place } in
    first_same (λ p. C p ⊎ (p ≡ new)) (λ p. C p ⊎ HereOnly place w (suc level) n p) (earlier_of o (Some new))
    (λ p either. elim either [ inl c ↦ inl c | inr same ↦ inr (ap (λ q. q.place) same, e, ap (λ q. q.at) same, ap (λ q. q.level) same, (let l : p.level ≡ suc level = ap (λ q. q.level) same in omega arith)) ])
    (λ p either. elim either [ inl c ↦ inl c | inr d ↦ inr (origin_same p (suc level) w.at place d.3 d.2 d.0) ])
    (first_both C (λ p. p ≡ new) o (Some new) h (new_first new))

with_first : (C : Origin → Type 0) (place : ℕ) (w : Writer) (level n : ℕ) (o : Option Origin) → IsFirst C o
    → IsFirst (λ p. C p ⊎ HereOnly place w level n p) (with_writer place w level n o)
with_first C place w level n o h = elim (cases_Bool (nat_eq w.writes n)) [
  | inl is ↦ subst (IsFirst (λ p. C p ⊎ HereOnly place w level n p)) (sym (cond-true _ _ _ is)) (here_first C place w level n o (eqb-true _ _ is) h)
  | inr isnt ↦ subst (IsFirst (λ p. C p ⊎ HereOnly place w level n p)) (sym (cond-false _ _ _ isnt))
      (first_same C (λ p. C p ⊎ HereOnly place w level n p) o (λ p c. inl c) (λ p either. elim either [ inl c ↦ c | inr d ↦ absurd (eqb-false _ _ isnt d.1) ]) h)
]

first_among : (C : Origin → Type 0) (place : ℕ) (ws : List Writer) (levels : List ℕ) (n : ℕ) (o : Option Origin) → IsFirst C o
    → IsFirst (λ p. C p ⊎ Candidate place ws levels n p) (first_from place ws levels n o)
first_among C place [] levels n o h = first_same C (λ p. C p ⊎ Candidate place [] levels n p) o (λ p c. inl c) (λ p either. elim either [ inl c ↦ c | inr d ↦ absurd (let wrong = d.is in cc) ]) h
first_among C place (w ∷ ws) levels n o h =
    first_same (λ p. (C p ⊎ HereOnly place w (level_at levels place) n p) ⊎ Candidate (place + 1) ws levels n p) (λ p. C p ⊎ Candidate place (w ∷ ws) levels n p)
    (first_from (place + 1) ws levels n (with_writer place w (level_at levels place) n o))
    (λ p either. elim either [
      | inl two ↦ elim two [
        | inl c ↦ inl c
        | inr d ↦ inr (record { k = zero; there = omega (arith, d.0); writer = w; is = refl; writes = d.1; at = d.2; level = d.3 ∙ ap (level_at levels) (sym d.0); positive = d.4 })
      ]
      | inr d ↦ inr (record { k = suc d.k; there = (let t = d.there in omega arith); writer = d.writer; is = d.is; writes = d.writes; at = d.at; level = d.level; positive = d.positive })
    ])
    (λ p either. elim either [ inl c ↦ inl (inl c) | inr d ↦ split p d ])
    (first_among (λ p. C p ⊎ HereOnly place w (level_at levels place) n p) (place + 1) ws levels n (with_writer place w (level_at levels place) n o) (with_first C place w (level_at levels place) n o h))
  where
    split_at : (p : Origin) (k : ℕ) (v : Writer) → p.place ≡ place + k → slice_get (w ∷ ws) k ≡ Some v → v.writes ≡ n → p.at ≡ v.at → p.level ≡ level_at levels p.place → 1 ≤ p.level
        → (C p ⊎ HereOnly place w (level_at levels place) n p) ⊎ Candidate (place + 1) ws levels n p
    split_at p zero v t e wn at l pos =
        let same : w ≡ v = cc in
        let t0 : p.place ≡ place = omega arith in
        inl (inr (t0, ap (λ x. x.writes) same ∙ wn, at ∙ ap (λ x. x.at) (sym same), l ∙ ap (level_at levels) t0, pos))
    split_at p (suc k) v t e wn at l pos = inr (record { k = k; there = omega arith; writer = v; is = e; writes = wn; at = at; level = l; positive = pos })

    split : (p : Origin) → Candidate place (w ∷ ws) levels n p → (C p ⊎ HereOnly place w (level_at levels place) n p) ⊎ Candidate (place + 1) ws levels n p
    split p d = split_at p d.k d.writer d.there d.is d.writes d.at d.level d.positive

-- the first writer of a node
pub node_first : (writers : List Writer) (levels : List ℕ) (n : ℕ) → IsFirst (Candidate 0 writers levels n) (first_from 0 writers levels n None)
node_first writers levels n = first_same (λ p. ⊥ ⊎ Candidate 0 writers levels n p) (Candidate 0 writers levels n) (first_from 0 writers levels n None)
    (λ p either. elim either [ inl none ↦ absurd none | inr d ↦ d ]) (λ p d. inr d)
    (first_among (λ p. ⊥) 0 writers levels n None (first_none (λ p. ⊥) (λ p none. none)))

-- a writer of one of these nodes
abbrev pub OfAny : List Writer → List ℕ → List ℕ → Origin → Type 0
OfAny writers levels ns p = (n : ℕ) × Among ns n × Candidate 0 writers levels n p

any_first : (C : Origin → Type 0) (writers : List Writer) (levels : List ℕ) (origins : ℕ → Option Origin) (ns : List ℕ) (o : Option Origin)
    → ((n : ℕ) → IsFirst (Candidate 0 writers levels n) (origins n)) → IsFirst C o → IsFirst (λ p. C p ⊎ OfAny writers levels ns p) (first_of origins ns o)
any_first C writers levels origins [] o each h = first_same C (λ p. C p ⊎ OfAny writers levels [] p) o (λ p c. inl c) (λ p either. elim either [ inl c ↦ c | inr d ↦ absurd d.1 ]) h
any_first C writers levels origins (m ∷ ms) o each h =
    first_same (λ p. (C p ⊎ Candidate 0 writers levels m p) ⊎ OfAny writers levels ms p) (λ p. C p ⊎ OfAny writers levels (m ∷ ms) p) (first_of origins ms (earlier_of o (origins m)))
    (λ p either. elim either [
      | inl two ↦ elim two [ inl c ↦ inl c | inr d ↦ inr (m, inl refl, d) ]
      | inr d ↦ inr (d.0, inr d.1, d.2)
    ])
    (λ p either. elim either [
      | inl c ↦ inl (inl c)
      | inr d ↦ elim d.1 [ inl e ↦ inl (inr (subst (λ n. Candidate 0 writers levels n p) (sym e) d.2)) | inr more ↦ inr (d.0, more, d.2) ]
    ])
    (any_first (λ p. C p ⊎ Candidate 0 writers levels m p) writers levels origins ms (earlier_of o (origins m)) each (first_both C (Candidate 0 writers levels m) o (origins m) h (each m)))

-- the first writer of some nodes
pub nodes_first : (writers : List Writer) (levels : List ℕ) (origins : ℕ → Option Origin) (ns : List ℕ) → ((n : ℕ) → origins n ≡ first_from 0 writers levels n None)
    → IsFirst (OfAny writers levels ns) (first_of origins ns None)
nodes_first writers levels origins ns same =
    first_same (λ p. ⊥ ⊎ OfAny writers levels ns p) (OfAny writers levels ns) (first_of origins ns None)
    (λ p either. elim either [ inl none ↦ absurd none | inr d ↦ d ]) (λ p d. inr d)
    (any_first (λ p. ⊥) writers levels origins ns None (λ n. subst (IsFirst (Candidate 0 writers levels n)) (sym (same n)) (node_first writers levels n)) (first_none (λ p. ⊥) (λ p none. none)))

-- the least number of a list
pub record IsLeastOf (xs : List ℕ) (least : ℕ) : Type 0 where
  pub among : Among xs least
  pub below : (x : ℕ) → Among xs x → least ≤ x

pub IsLeastIn : List ℕ → Option ℕ → Type 0
IsLeastIn xs None = (x : ℕ) → Among xs x → ⊥
IsLeastIn xs (Some least) = IsLeastOf xs least

least_more : (ys : List ℕ) (x : ℕ) → (least : ℕ) × (least_of ys (Some x) ≡ Some least) × IsLeastOf (x ∷ ys) least
least_more [] x = (x, refl, record { among = inl refl; below = λ y m. elim m [ inl e ↦ omega arith | inr none ↦ absurd none ] })
least_more (y ∷ ys) x = elim (cases_Bool (nat_lt y x)) [
  | inl is ↦
      let lt = ltb-true _ _ is in
      let r = least_more ys y in
      let b = r.2.below y (inl refl) in (
        r.0,
        ap (least_of ys) (cond-true _ _ _ is) ∙ r.1,
        record {
          among = inr r.2.among;
          below = λ z m. elim m [ inl e ↦ omega arith | inr more ↦ r.2.below z more ];
        },
      )
  | inr isnt ↦
      let le = ltb-false _ _ isnt in
      let r = least_more ys x in
      let b = r.2.below x (inl refl) in (
        r.0,
        ap (least_of ys) (cond-false _ _ _ isnt) ∙ r.1,
        record {
          among = elim r.2.among [ inl e ↦ inl e | inr m ↦ inr (inr m) ];
          below = λ z m. elim m [ inl e ↦ omega arith | inr more ↦ elim more [ inl e ↦ omega arith | inr rest ↦ r.2.below z (inr rest) ] ];
        },
      )
]

pub least_is : (xs : List ℕ) (c : ℕ) → least_of xs None ≡ Some c → IsLeastOf xs c
least_is [] c e = cc
least_is (x ∷ xs) c e = let r = least_more xs x in let same : r.0 ≡ c = (let both = sym r.1 ∙ e in cc) in subst (IsLeastOf (x ∷ xs)) same r.2

pub least_none : (xs : List ℕ) → least_of xs None ≡ None → xs ≡ []
least_none [] e = refl
least_none (x ∷ xs) e = let r = least_more xs x in absurd (let both = sym r.1 ∙ e in cc)

pub least_some : (xs : List ℕ) (c : ℕ) → Among xs c → (least : ℕ) × (least_of xs None ≡ Some least)
least_some [] c m = absurd m
least_some (x ∷ xs) c m = let r = least_more xs x in (r.0, r.1)
