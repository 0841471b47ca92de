-- The law of the least chain: along levels the first writer of the first level is the first step.
use Rattle.std.proofs.Common.{◌≡◌, ℕ, zero, suc, ◌+◌, ◌<◌, ◌≤◌, inl, inr, List, [], ◌∷◌, length, Option, Some, None, slice_get, refl, sym, ap, ◌∙◌, subst, arith}
use Rattle.std.specs.List.{Contains}
use Rattle.std.proofs.lemmas.Option.{slice_get-get_or}
use Rattle.std.proofs.lemmas.Bool.{cases_lt}
use Rattle.rb_trees.specs.declared.flows.Writer.{Writer}
use Rattle.rb_flow.specs.declared.origins.Origin.{Origin}
use Rattle.rb_meaning_flow.specs.Chains.{Leads, PositionsDiffer}
use Rattle.rb_flow.specs.Levels.{Among, level_at, Certificate}
use Rattle.rb_flow.specs.Origins.{first_of}
use Rattle.rb_flow.specs.Walks.{NotAfter, IsFirstWay, Guides, IsWayTo}
use Rattle.rb_flow.proofs.Lists.{among_contained, contained_among}
use Rattle.rb_flow.proofs.Firsts.{AtMost, IsFirst, OfAny, IsLeastOf, found, nothing_found, nodes_first}

-- a writer of the list stands at a place
pub place_of : (writers : List Writer) (w : Writer) → Contains writers w → (i : ℕ) × (slice_get writers i ≡ Some w)
place_of writers w h = (h.0, slice_get-get_or writers h.0 w h.1 ∙ ap Some h.2)

-- a writer at a place is a writer of the list
pub writer_at : (writers : List Writer) (i : ℕ) (w : Writer) → slice_get writers i ≡ Some w → Contains writers w
writer_at [] i w e = cc
writer_at (v ∷ ws) zero w e = let same : v ≡ w = cc in (zero, omega arith, same)
writer_at (v ∷ ws) (suc i) w e = let more = writer_at ws i w e in (suc more.0, omega (arith, more.1), more.2)

-- each way to a writer has at least as many writers as its level says
pub at_least : (writers : List Writer) (levels : List ℕ) → Certificate writers levels → (j : ℕ) (w : Writer) → slice_get writers j ≡ Some w → (c : ℕ) (ps : List ℕ) → Leads writers w.reads w.sources c ps
    → (1 ≤ level_at levels j) × (level_at levels j ≤ length ps + 1)
at_least writers levels cert j w is c [] h =
    let one = cert.first j c w is (among_contained w.sources c h) in (omega arith, omega arith)
at_least writers levels cert j w is c (p ∷ ps) h =
    let there = place_of writers h.0 h.1 in
    let before = at_least writers levels cert there.0 h.0 there.1 c ps h.4 in
    let b = cert.below there.0 j h.0 w there.1 is (among_contained w.reads h.0.writes h.3) before.0 in
    (b.0, omega (arith, b.1, before.1))

-- the least source is the first way
pub source_first : (writers : List Writer) (reads sources : List ℕ) (c : ℕ) → IsLeastOf sources c → IsFirstWay writers reads sources c []
source_first writers reads sources c h = record { leads = contained_among sources c h.among; first = first }
  where
    first : (d : ℕ) (qs : List ℕ) → Leads writers reads sources d qs → NotAfter c [] d qs
    first d [] l = inr (refl, h.below d (among_contained sources d l))
    first d (q ∷ qs) l = inl (omega arith)

-- among writers of some nodes, the first one and a first way to it make a first way
pub step_first : (writers : List Writer) (levels reads sources : List ℕ) (o : Origin) (v : Writer) (c : ℕ) (ps : List ℕ) → PositionsDiffer writers → Certificate writers levels
    → ((d : ℕ) → Among sources d → ⊥) → slice_get writers o.place ≡ Some v → o.at ≡ v.at → Among reads v.writes → ((p : Origin) → OfAny writers levels reads p → AtMost o p)
    → IsWayTo writers o c ps → IsFirstWay writers reads sources c (o.at ∷ ps)
step_first writers levels reads sources o v c ps differ cert none is at m firsts way =
    record { leads = (v, writer_at writers o.place v is, sym at, contained_among reads v.writes m, (way.way v is).leads); first = first }
  where
    first : (d : ℕ) (qs : List ℕ) → Leads writers reads sources d qs → NotAfter c (o.at ∷ ps) d qs
    first d [] l = absurd (none d (among_contained sources d l))
    first d (q ∷ qs) l =
        let u = l.0 in
        let there = place_of writers u l.1 in
        let size = way.size in
        let least = at_least writers levels cert there.0 u there.1 d qs l.4 in
        let other : Origin = record { level = level_at levels there.0; at = u.at; place = there.0 } in
        let known : AtMost o other = firsts other (
          u.writes,
          among_contained reads u.writes l.3,
          record { k = there.0; there = omega arith; writer = u; is = there.1; writes = refl; at = refl; level = refl; positive = least.0 },
        ) in
        elim (cases_lt (length ps) (length qs)) [
          | inl less ↦ inl (omega arith)
          | inr le ↦ (let low = least.1 in elim known.is [
            | inl lower ↦ absurd (omega arith)
            | inr level ↦ (let same_size : length ps ≡ length qs = omega (arith, level.0) in
                elim (cases_lt o.at q) [
                  | inl less ↦ inr (ap suc same_size, inl less)
                  | inr more ↦ (let pos : o.at ≡ q = (let e = l.2 in omega (arith, level.1)) in
                      let same : u ≡ v = differ u v l.1 (writer_at writers o.place v is) (l.2 ∙ sym pos ∙ at) in
                      elim ((way.way v is).first d qs (subst (λ x. Leads writers x.reads x.sources d qs) same l.4)) [
                        | inl less ↦ absurd (omega arith)
                        | inr tied ↦ inr (ap suc same_size, inr (pos, tied.1))
                      ])
                ])
          ])
        ]

-- where a writer isn't of level 1 it has no source
pub no_source : (writers : List Writer) (levels : List ℕ) → Certificate writers levels → (i : ℕ) (w : Writer) → slice_get writers i ≡ Some w → 1 < level_at levels i → (d : ℕ) → Among w.sources d → ⊥
no_source writers levels cert i w is far d m = let one = cert.first i d w is m in omega arith

-- a writer of some of the nodes, before which there is none
pub record OfOrigin (writers : List Writer) (levels reads : List ℕ) (o : Origin) : Type 0 where
  pub writer : Writer
  pub is : slice_get writers o.place ≡ Some writer
  pub at : o.at ≡ writer.at
  pub level : o.level ≡ level_at levels o.place
  pub positive : 1 ≤ o.level
  pub among : Among reads writer.writes
  pub firsts : (p : Origin) → OfAny writers levels reads p → AtMost o p

pub origin_found : (writers : List Writer) (levels : List ℕ) (origins : ℕ → Option Origin) (reads : List ℕ) (o : Origin) → Guides writers levels origins → first_of origins reads None ≡ Some o
    → OfOrigin writers levels reads o
origin_found writers levels origins reads o guides e =
    let f = found (OfAny writers levels reads) o (subst (IsFirst (OfAny writers levels reads)) e (nodes_first writers levels origins reads guides.known)) in
    let d = f.0.2 in
    let same : d.k ≡ o.place = (let t = d.there in omega arith) in
    record {
      writer = d.writer;
      is = ap (slice_get writers) (sym same) ∙ d.is;
      at = d.at;
      level = d.level;
      positive = d.positive;
      among = subst (λ n. Among reads n) (sym d.writes) f.0.1;
      firsts = f.1;
    }

found_step : (writers : List Writer) (levels : List ℕ) (origins : ℕ → Option Origin) (reads : List ℕ) (o : Option Origin) → Guides writers levels origins → first_of origins reads None ≡ o
    → (i : ℕ) (v : Writer) → slice_get writers i ≡ Some v → Among reads v.writes → 1 ≤ level_at levels i → (p : Origin) × (first_of origins reads None ≡ Some p)
found_step writers levels origins reads (Some p) guides e i v is m pos = (p, e)
found_step writers levels origins reads None guides e i v is m pos =
    absurd (nothing_found (OfAny writers levels reads) (subst (IsFirst (OfAny writers levels reads)) e (nodes_first writers levels origins reads guides.known))
    (record { level = level_at levels i; at = v.at; place = i })
    (v.writes, m, record { k = i; there = omega arith; writer = v; is = is; writes = refl; at = refl; level = refl; positive = pos }))

-- where a writer of some node has a level, one is found
pub some_found : (writers : List Writer) (levels : List ℕ) (origins : ℕ → Option Origin) (reads : List ℕ) → Guides writers levels origins
    → (i : ℕ) (v : Writer) → slice_get writers i ≡ Some v → Among reads v.writes → 1 ≤ level_at levels i → (p : Origin) × (first_of origins reads None ≡ Some p)
some_found writers levels origins reads guides = found_step writers levels origins reads (first_of origins reads None) guides refl

-- a writer of a further level: what is above one of the level below
pub above_at : (writers : List Writer) (levels : List ℕ) → Certificate writers levels → (j n : ℕ) (w : Writer) → slice_get writers j ≡ Some w → level_at levels j ≡ n → 1 < n
    → (i : ℕ) × (v : Writer) × (slice_get writers i ≡ Some v) × Among w.reads v.writes × (level_at levels i + 1 ≡ n)
above_at writers levels cert j zero w is e far = absurd (omega arith)
above_at writers levels cert j (suc zero) w is e far = absurd (omega arith)
above_at writers levels cert j (suc (suc k)) w is e far = let x = cert.above j k w is e in (x.0, x.1, x.2, x.3, omega (arith, x.4))

pub step_lower : (writers : List Writer) (levels : List ℕ) (origins : ℕ → Option Origin) (here o : Origin) (w : Writer) → Guides writers levels origins → slice_get writers here.place ≡ Some w
    → here.level ≡ level_at levels here.place → 1 < here.level → first_of origins w.reads None ≡ Some o → o.level + 1 ≡ here.level
step_lower writers levels origins here o w guides is level far e =
    let f = origin_found writers levels origins w.reads o guides e in
    let x = above_at writers levels guides.certificate here.place here.level w is (sym level) far in
    let l4 = x.4 in
    let other : Origin = record { level = level_at levels x.0; at = x.1.at; place = x.0 } in
    let known : AtMost o other = f.firsts other (x.1.writes, x.3, record { k = x.0; there = omega arith; writer = x.1; is = x.2; writes = refl; at = refl; level = refl; positive = omega arith }) in
    let fl = f.level in
    let fp = f.positive in
    let b = guides.certificate.below o.place here.place f.writer w f.is is f.among (omega arith) in
    let up : here.level ≤ o.level + 1 = omega (arith, b.1) in
    let down : o.level + 1 ≤ here.level = elim known.is [ inl lt ↦ omega arith | inr tied ↦ omega (arith, tied.0) ] in
    omega arith
