-- What is decided is the answer for a batch.
use Rattle.std.proofs.Common.{◌≡◌, ℕ, ◌<◌, ◌≤◌, ◌⊎◌, inl, inr, List, [], ◌∷◌, ◌++◌, Bool, true, false, nat_lt, Option, Some, None, refl, sym, ap, ◌∙◌, subst, arith}
use Rattle.std.specs.List.{Contains}
use Rattle.std.proofs.lemmas.Bool.{cases_Bool, ltb-true, ltb-false, cond-true, cond-false}
use Rattle.rb_trees.specs.declared.flows.Writer.{Writer}
use Rattle.rb_trees.specs.declared.flows.BadPart.{BadPart}
use Rattle.rb_trees.specs.declared.refusals.Refusal.{Refusal}
use Rattle.rb_trees.specs.declared.refusals.Refusal.TheVariants.{Flow, NotConstant, UnderLocalCondition, Escapes, BatchInside, InTry, RemoteVar, TooManyInputs, ScriptTooLarge}
use Rattle.rb_meaning_flow.specs.Facts.{Facts}
use Rattle.rb_meaning_flow.specs.Sites.{StmtSite}
use Rattle.rb_meaning_flow.specs.Chains.{IsChain}
use Rattle.rb_meaning_flow.specs.Flow.{writers, bad_parts}
use Rattle.rb_meaning_flow.specs.Refusals.{IsRefusal, place, number, last_of}
use Rattle.rb_flow.specs.Earliest.{IsEarliest}
use Rattle.rb_flow.specs.Found.{all_found}
use Rattle.rb_flow.specs.Parts.{least_part, all_parts, all_writers}
use Rattle.rb_flow.specs.Answers.{SitesDiffer, IsBatchAnswer, IsFlowRefusal, stands_before, IsDecidedAt, IsDecided, no_findings, batch_found}
use Rattle.rb_flow.proofs.Members.{none_contained, first_contained, more_contained, contained_cases}
use Rattle.rb_flow.proofs.First.{earliest_is_first}
use Rattle.rb_flow.proofs.Listed.{found_is_refusal, refusal_is_found}
use Rattle.rb_flow.proofs.SeenSites.{all_first, all_writers_found, all_part_found}
use Rattle.rb_flow.proofs.Together.{writers_apart, writers_together, parts_apart, parts_together, chain_more, least_chain_same}

-- the bad part at the least position of some
abbrev IsLeastPart : List BadPart → Option BadPart → Type 0
IsLeastPart ps None = ps ≡ []
IsLeastPart ps (Some u) = Contains ps u × ((v : BadPart) → Contains ps v → u.at ≤ v.at)

record LeastFrom (ps : List BadPart) (q : BadPart) : Type 0 where
  pub part : BadPart
  pub is : least_part ps (Some q) ≡ Some part
  pub among : Contains (q ∷ ps) part
  pub least : (v : BadPart) → Contains (q ∷ ps) v → part.at ≤ v.at

least_from : (ps : List BadPart) (q : BadPart) → LeastFrom ps q
least_from [] q = record {
  part = q;
  is = refl;
  among = first_contained q [];
  least = λ v h. elim (contained_cases q [] v h) [ inl e ↦ (let at : q.at ≡ v.at = ap (λ p. p.at) e in omega arith) | inr n ↦ absurd (none_contained v n) ];
}
least_from (p ∷ ps) q = elim (cases_Bool (nat_lt p.at q.at)) [
  | inl lt ↦
      let m = least_from ps p in
      record {
        part = m.part;
        is = ap (least_part ps) (cond-true _ _ _ lt) ∙ m.is;
        among = more_contained q (p ∷ ps) m.part m.among;
        least = λ v h. elim (contained_cases q (p ∷ ps) v h) [
          | inl e ↦ (let here = m.least p (first_contained p ps) in let less = ltb-true p.at q.at lt in let at : q.at ≡ v.at = ap (λ p. p.at) e in omega arith)
          | inr n ↦ m.least v n
        ];
      }
  | inr ge ↦
      let m = least_from ps q in
      record {
        part = m.part;
        is = ap (least_part ps) (cond-false _ _ _ ge) ∙ m.is;
        among = elim (contained_cases q ps m.part m.among) [
          | inl e ↦ subst (Contains (q ∷ p ∷ ps)) e (first_contained q (p ∷ ps))
          | inr n ↦ more_contained q (p ∷ ps) m.part (more_contained p ps m.part n)
        ];
        least = λ v h. elim (contained_cases q (p ∷ ps) v h) [
          | inl e ↦ m.least v (subst (Contains (q ∷ ps)) e (first_contained q ps))
          | inr n ↦ elim (contained_cases p ps v n) [
            | inl e ↦ (let here = m.least q (first_contained q ps) in let not_less = ltb-false p.at q.at ge in let at : p.at ≡ v.at = ap (λ p. p.at) e in omega arith)
            | inr k ↦ m.least v (more_contained q ps v k)
          ]
        ];
      }
]

least_is : (ps : List BadPart) → IsLeastPart ps (least_part ps None)
least_is [] = refl
least_is (p ∷ ps) = let m = least_from ps p in subst (IsLeastPart (p ∷ ps)) (sym m.is) (m.among, m.least)

-- a chain ends at its bad part
last_of_end : (ps : List ℕ) (q : ℕ) → last_of (ps ++ q ∷ []) ≡ q
last_of_end [] q = refl
last_of_end (p ∷ []) q = refl
last_of_end (p ∷ r ∷ ps) q = last_of_end (r ∷ ps) q

chain_ends : (ws : List Writer) (u : BadPart) (chain : List ℕ) → IsChain ws u chain → last_of chain ≡ u.at
chain_ends ws u chain h = ap last_of h.2 ∙ last_of_end (h.0 ∷ h.1) u.at

-- a refusal of the table: of a bad part, at its position, or one of single sites
OfPart : Facts → List StmtSite → Refusal → Type 0
OfPart x ss r = (v : BadPart) × Contains (bad_parts x ss) v × (place r ≡ v.at) × IsFlowRefusal (writers x ss) v r

rows : (x : Facts) (ss : List StmtSite) (r : Refusal) → IsRefusal x ss r → OfPart x ss r ⊎ (3 ≤ number r)
unfolding OfPart
rows x ss (Flow chain) h = inl (h.0, h.1, chain_ends (writers x ss) h.0 chain h.2.0, h.2)
rows x ss (NotConstant at) h = inl (h.0, h.1, sym h.2, (h.2, h.3))
rows x ss (UnderLocalCondition condition operation) h = inr (omega arith)
rows x ss (Escapes at) h = inr (omega arith)
rows x ss (BatchInside at) h = inr (omega arith)
rows x ss (InTry at) h = inr (omega arith)
rows x ss (RemoteVar at) h = inr (omega arith)
rows x ss (TooManyInputs batch count) h = absurd h
rows x ss (ScriptTooLarge batch bytes) h = absurd h

-- the refusal of a bad part of the batch is one of the table, at the part's position
pub part_refused : (x : Facts) (ss : List StmtSite) (u : BadPart) (r : Refusal) → Contains (bad_parts x ss) u → IsFlowRefusal (writers x ss) u r → IsRefusal x ss r × (place r ≡ u.at) × (number r ≤ 2)
part_refused x ss u (Flow chain) h f = ((u, h, f), chain_ends (writers x ss) u chain f.0, omega arith)
part_refused x ss u (NotConstant at) h f = ((u, h, f.0, f.1), sym f.0, omega arith)
part_refused x ss u (UnderLocalCondition condition operation) h f = absurd f
part_refused x ss u (Escapes at) h f = absurd f
part_refused x ss u (BatchInside at) h f = absurd f
part_refused x ss u (InTry at) h f = absurd f
part_refused x ss u (RemoteVar at) h f = absurd f
part_refused x ss u (TooManyInputs batch count) h f = absurd f
part_refused x ss u (ScriptTooLarge batch bytes) h f = absurd f

flow_same : (ws vs : List Writer) → ((w : Writer) → Contains ws w → Contains vs w) → ((w : Writer) → Contains vs w → Contains ws w)
    → (u : BadPart) (r : Refusal) → IsFlowRefusal ws u r → IsFlowRefusal vs u r
flow_same ws vs to back u (Flow chain) f = least_chain_same ws vs to back u chain f
flow_same ws vs to back u (NotConstant at) f = (f.0, λ chain c. f.1 chain (chain_more vs ws back u chain c))
flow_same ws vs to back u (UnderLocalCondition condition operation) f = absurd f
flow_same ws vs to back u (Escapes at) f = absurd f
flow_same ws vs to back u (BatchInside at) f = absurd f
flow_same ws vs to back u (InTry at) f = absurd f
flow_same ws vs to back u (RemoteVar at) f = absurd f
flow_same ws vs to back u (TooManyInputs batch count) f = absurd f
flow_same ws vs to back u (ScriptTooLarge batch bytes) f = absurd f

-- of one bad part there aren't both refusals
one_refusal : (ws : List Writer) (u : BadPart) (r other : Refusal) → IsFlowRefusal ws u r → IsFlowRefusal ws u other → number other < number r → ⊥
one_refusal ws u (Flow chain) (Flow other) f g lt = absurd (omega (arith, lt))
one_refusal ws u (Flow chain) (NotConstant at) f g lt = absurd (omega (arith, lt))
one_refusal ws u (NotConstant at) (Flow chain) f g lt = f.1 chain g.0
one_refusal ws u (NotConstant at) (NotConstant b) f g lt = absurd (omega (arith, lt))
one_refusal ws u (UnderLocalCondition a b) other f g lt = absurd f
one_refusal ws u (Escapes at) other f g lt = absurd f
one_refusal ws u (BatchInside at) other f g lt = absurd f
one_refusal ws u (InTry at) other f g lt = absurd f
one_refusal ws u (RemoteVar at) other f g lt = absurd f
one_refusal ws u (TooManyInputs batch count) other f g lt = absurd f
one_refusal ws u (ScriptTooLarge batch bytes) other f g lt = absurd f
one_refusal ws u (Flow chain) (UnderLocalCondition a b) f g lt = absurd g
one_refusal ws u (Flow chain) (Escapes at) f g lt = absurd g
one_refusal ws u (Flow chain) (BatchInside at) f g lt = absurd g
one_refusal ws u (Flow chain) (InTry at) f g lt = absurd g
one_refusal ws u (Flow chain) (RemoteVar at) f g lt = absurd g
one_refusal ws u (Flow chain) (TooManyInputs batch count) f g lt = absurd g
one_refusal ws u (Flow chain) (ScriptTooLarge batch bytes) f g lt = absurd g
one_refusal ws u (NotConstant c) (UnderLocalCondition a b) f g lt = absurd g
one_refusal ws u (NotConstant c) (Escapes at) f g lt = absurd g
one_refusal ws u (NotConstant c) (BatchInside at) f g lt = absurd g
one_refusal ws u (NotConstant c) (InTry at) f g lt = absurd g
one_refusal ws u (NotConstant c) (RemoteVar at) f g lt = absurd g
one_refusal ws u (NotConstant c) (TooManyInputs batch count) f g lt = absurd g
one_refusal ws u (NotConstant c) (ScriptTooLarge batch bytes) f g lt = absurd g

-- without a bad part the first refusal of single sites is the answer
without_part : (x : Facts) (ss : List StmtSite) (first : Option Refusal) → IsEarliest (all_found x ss) first → all_parts x ss ≡ [] → IsBatchAnswer x ss first
unfolding OfPart
without_part x ss None e none = λ r h. elim (rows x ss r h) [
  | inl p ↦ none_contained p.0 (subst (λ ps. Contains ps p.0) none (parts_together x ss p.0 p.1))
  | inr n ↦ none_contained r (subst (λ rs. Contains rs r) e (refusal_is_found x ss r h n))
]
without_part x ss (Some s) e none = (
  found_is_refusal x ss s e.0,
  λ other h before. elim (rows x ss other h) [
    | inl p ↦ none_contained p.0 (subst (λ ps. Contains ps p.0) none (parts_together x ss p.0 p.1))
    | inr n ↦ e.1 other (refusal_is_found x ss other h n) before
  ],
)

-- a refusal that stands before all bad parts
before_parts : (x : Facts) (ss : List StmtSite) (s : Refusal) (u : BadPart) → IsEarliest (all_found x ss) (Some s) → IsLeastPart (all_parts x ss) (Some u) → place s < u.at → IsBatchAnswer x ss (Some s)
unfolding OfPart
before_parts x ss s u e least lt = (
  found_is_refusal x ss s e.0,
  λ other h before. elim (rows x ss other h) [
    | inl p ↦
        let after : u.at ≤ p.0.at = least.1 p.0 (parts_together x ss p.0 p.1) in
        elim before [ inl b ↦ absurd (omega (arith, p.2, b, after, lt)) | inr b ↦ absurd (omega (arith, p.2, b.0, after, lt)) ]
    | inr n ↦ e.1 other (refusal_is_found x ss other h n) before
  ],
)

-- no refusal of single sites stands before a position
NoneBefore : Facts → List StmtSite → ℕ → Type 0
NoneBefore x ss at = (r : Refusal) → Contains (all_found x ss) r → place r < at → ⊥

none_before : (x : Facts) (ss : List StmtSite) (first : Option Refusal) (at : ℕ) → IsEarliest (all_found x ss) first → stands_before first at ≡ false → NoneBefore x ss at
unfolding NoneBefore
none_before x ss None at e b r h lt = none_contained r (subst (λ rs. Contains rs r) e h)
none_before x ss (Some s) at e b r h lt = let ge : at ≤ place s = ltb-false (place s) at b in e.1 r h (inl (omega (arith, ge, lt)))

-- the bad part stands first
part_first : (x : Facts) (ss : List StmtSite) (u : BadPart) (r : Refusal) → SitesDiffer x ss → IsLeastPart (all_parts x ss) (Some u) → NoneBefore x ss u.at → IsFlowRefusal (all_writers x ss) u r → IsBatchAnswer x ss (Some r)
unfolding OfPart NoneBefore
part_first x ss u r differ least none f =
    let mine : Contains (bad_parts x ss) u = parts_apart x ss u least.0 in
    let flow : IsFlowRefusal (writers x ss) u r = flow_same (all_writers x ss) (writers x ss) (writers_apart x ss) (writers_together x ss) u r f in
    let is = part_refused x ss u r mine flow in (
      is.0,
      λ other h before. elim (rows x ss other h) [
        | inl p ↦
            let after : u.at ≤ p.0.at = least.1 p.0 (parts_together x ss p.0 p.1) in
            elim before [
              | inl b ↦ absurd (omega (arith, p.2, b, after, is.1))
              | inr b ↦
                  let at : p.0.at ≡ u.at = sym p.2 ∙ b.0 ∙ is.1 in
                  let same : p.0 ≡ u = differ.parts p.0 u p.1 mine at in
                  one_refusal (writers x ss) u r other flow (subst (λ v. IsFlowRefusal (writers x ss) v other) same p.3) b.1
            ]
        | inr n ↦ elim before [
          | inl b ↦ none other (refusal_is_found x ss other h n) (omega (arith, b, is.1))
          | inr b ↦ absurd (omega (arith, n, b.1, is.2))
        ]
      ],
    )

decided_at : (x : Facts) (ss : List StmtSite) (before : Bool) (first : Option Refusal) (u : BadPart) (answer : Option Refusal) → stands_before first u.at ≡ before → SitesDiffer x ss
    → IsEarliest (all_found x ss) first → IsLeastPart (all_parts x ss) (Some u) → IsDecidedAt before first (all_writers x ss) u answer → IsBatchAnswer x ss answer
decided_at x ss true None u answer b differ e least d = absurd (let wrong : false ≡ true = b in cc)
decided_at x ss true (Some s) u answer b differ e least d = subst (IsBatchAnswer x ss) (sym d) (before_parts x ss s u e least (ltb-true (place s) u.at b))
decided_at x ss false first u answer b differ e least d = subst (IsBatchAnswer x ss) (sym d.1) (part_first x ss u d.0 differ least (none_before x ss first u.at e b) d.2)

decided : (x : Facts) (ss : List StmtSite) (first : Option Refusal) (part : Option BadPart) (answer : Option Refusal) → SitesDiffer x ss
    → IsEarliest (all_found x ss) first → IsLeastPart (all_parts x ss) part → IsDecided first (all_writers x ss) part answer → IsBatchAnswer x ss answer
decided x ss first None answer differ e none d = subst (IsBatchAnswer x ss) (sym d) (without_part x ss first e none)
decided x ss first (Some u) answer differ e least d = decided_at x ss (stands_before first u.at) first u answer refl differ e least d

-- what is decided from what is found in a batch is its answer
pub batch_answered : (x : Facts) (ss : List StmtSite) (answer : Option Refusal) → SitesDiffer x ss
    → IsDecided (batch_found x ss).first (batch_found x ss).writers (batch_found x ss).part answer → IsBatchAnswer x ss answer
batch_answered x ss answer differ d =
    decided x ss (batch_found x ss).first (batch_found x ss).part answer differ
    (subst (IsEarliest (all_found x ss)) (sym (all_first x ss no_findings)) (earliest_is_first (all_found x ss)))
    (subst (IsLeastPart (all_parts x ss)) (sym (all_part_found x ss no_findings)) (least_is (all_parts x ss)))
    (subst (λ ws. IsDecided (batch_found x ss).first ws (batch_found x ss).part answer) (all_writers_found x ss no_findings) d)
