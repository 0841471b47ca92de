-- Pools of texts: where a text stands, and what each use of a text adds to those that were used.
use Rattle.std.proofs.Common.{◌≡◌, ℕ, zero, suc, ◌+◌, ◌<◌, ◌≤◌, ◌^◌, Bool, true, false, cond, ◌||◌, nat_eq, List, [], ◌∷◌, ◌++◌, length, take, drop, refl, ap, sym, ◌∙◌, subst, arith, append_assoc, append-nil, inl, inr, bytes_eq, length-append, length-take-le, take_at, take-append-drop}
use Rattle.std.specs.Str.{is_utf8}
use Rattle.std.proofs.lemmas.Bool.{or_parts, true≢false, eq-eqb, ne_eqb, cases_eq, cond-true, cond-false}
use Rattle.std.proofs.lemmas.List.{take_more, append_cancel_left}
use Rattle.std.proofs.lemmas.Slice.Eq.{bytes_eq-Decides}
use Rattle.rb_trees.specs.declared.versions.Version.{Version}
use Rattle.rb_trees.specs.declared.versions.Version.TheVariants.{One, Two}
use Rattle.rb_meaning_bytes.specs.formats.Pools.{is_among, place_in, text_at, with_text, with_texts, used_after}

-- texts and their bytes
abbrev pub Words : Type 0
Words = List (List ℕ)

-- Each text differs from those before it.
abbrev pub Differ : Words → Type 0
Differ texts = (i : ℕ) → i < length texts → is_among (text_at texts i) (take i texts) ≡ false

-- What holds of each text.
abbrev pub EachText : (List ℕ → Type 0) → Words → Type 0
EachText P [] = Unit {0}
EachText P (t ∷ ts) = P t × EachText P ts

-- a text that a pool may have
abbrev pub IsPoolText : List ℕ → Type 0
IsPoolText t = (length t < 2 ^ 32) × (is_utf8 t ≡ true)

pub each_both : (P : List ℕ → Type 0) (xs ys : Words) → EachText P xs → EachText P ys → EachText P (xs ++ ys)
each_both P [] ys h k = k
each_both P (x ∷ xs) ys h k = (h.0, each_both P xs ys h.1 k)

pub each_at : (P : List ℕ → Type 0) (texts : Words) (i : ℕ) → i < length texts → EachText P texts → P (text_at texts i)
each_at P [] i h k = absurd (omega arith)
each_at P (t ∷ ts) zero h k = k.0
each_at P (t ∷ ts) (suc i) h k = each_at P ts i (omega arith) k.1

with_each : (P : List ℕ → Type 0) (known : Words) (t : List ℕ) → EachText P known → P t → EachText P (with_text known t)
with_each P known t h k = go (is_among t known)
  where
    go : (v : Bool) → EachText P (cond v known (known ++ t ∷ []))
    go true = h
    go false = each_both P known (t ∷ []) h (k, tt)

pub each_with : (P : List ℕ → Type 0) (known ws : Words) → EachText P known → EachText P ws → EachText P (with_texts known ws)
each_with P known [] h k = h
each_with P known (w ∷ ws) h k = each_with P (with_text known w) ws (with_each P known w h k.0) k.1

-- ---- places

same_text : (t : List ℕ) → bytes_eq t t ≡ true
same_text t = (bytes_eq-Decides t t).1 refl

-- what is known of a text that stands among the first so many
pub record Placed (texts : Words) (used : ℕ) (t : List ℕ) : Type 0 where
  pub early : place_in texts t < used
  pub inside : place_in texts t < length texts
  pub is : text_at texts (place_in texts t) ≡ t

pub placed : (used : ℕ) (texts : Words) (t : List ℕ) → is_among t (take used texts) ≡ true → Placed texts used t
placed zero texts t h = absurd (true≢false (sym h))
placed (suc n) [] t h = absurd (true≢false (sym h))
placed (suc n) (s ∷ ts) t h = go (bytes_eq s t) refl h (placed n ts t)
  where
    go : (v : Bool) → bytes_eq s t ≡ v → (v || is_among t (take n ts)) ≡ true → (is_among t (take n ts) ≡ true → Placed ts n t) → Placed (s ∷ ts) (suc n) t
    go true e i k =
        let p : place_in (s ∷ ts) t ≡ 0 = ap (λ b. cond b 0 (suc (place_in ts t))) e in
        record {
          early = subst (λ m. m < suc n) (sym p) (omega arith);
          inside = subst (λ m. m < suc (length ts)) (sym p) (omega arith);
          is = ap (λ m. text_at (s ∷ ts) m) p ∙ (bytes_eq-Decides s t).0 e;
        }
    go false e i k =
        let q = k i in
        let p : place_in (s ∷ ts) t ≡ suc (place_in ts t) = ap (λ b. cond b 0 (suc (place_in ts t))) e in
        let early = q.early in
        let inside = q.inside in
        record {
          early = subst (λ m. m < suc n) (sym p) (omega arith);
          inside = subst (λ m. m < suc (length ts)) (sym p) (omega arith);
          is = ap (λ m. text_at (s ∷ ts) m) p ∙ q.is;
        }

pub among_at : (used : ℕ) (texts : Words) (i : ℕ) → i < used → i < length texts → is_among (text_at texts i) (take used texts) ≡ true
among_at zero texts i h k = absurd (omega arith)
among_at (suc n) [] i h k = absurd (omega arith)
among_at (suc n) (t ∷ ts) zero h k = ap (λ b. b || is_among t (take n ts)) (same_text t)
among_at (suc n) (t ∷ ts) (suc i) h k = go (bytes_eq t (text_at ts i)) (among_at n ts i (omega arith) (omega arith))
  where
    go : (v : Bool) → is_among (text_at ts i) (take n ts) ≡ true → (v || is_among (text_at ts i) (take n ts)) ≡ true
    go true e = refl
    go false e = e

fewer : (t : List ℕ) (ts : Words) → Differ (t ∷ ts) → Differ ts
fewer t ts d i h = (or_parts (bytes_eq t (text_at ts i)) (is_among (text_at ts i) (take i ts)) (d (suc i) (omega arith))).1

-- The text at a place stands there and nowhere before.
pub place_at : (texts : Words) (i : ℕ) → Differ texts → i < length texts → place_in texts (text_at texts i) ≡ i
place_at [] i d h = absurd (omega arith)
place_at (t ∷ ts) zero d h = ap (λ b. cond b 0 (suc (place_in ts t))) (same_text t)
place_at (t ∷ ts) (suc i) d h =
    ap (λ b. cond b 0 (suc (place_in ts (text_at ts i)))) (or_parts (bytes_eq t (text_at ts i)) (is_among (text_at ts i) (take i ts)) (d (suc i) (omega arith))).0
    ∙ ap suc (place_at ts i (fewer t ts d) (omega arith))

-- ---- what words add

pub with_both : (known xs ys : Words) → with_texts known (xs ++ ys) ≡ with_texts (with_texts known xs) ys
with_both known [] ys = refl
with_both known (x ∷ xs) ys = with_both (with_text known x) xs ys

-- what stands behind the known ones
pub record Grown (known all : Words) : Type 0 where
  pub more : Words
  pub is : all ≡ known ++ more

grown_one : (known : Words) (t : List ℕ) → Grown known (with_text known t)
grown_one known t = go (is_among t known)
  where
    go : (v : Bool) → Grown known (cond v known (known ++ t ∷ []))
    go true = record { more = []; is = sym (append-nil known) }
    go false = record { more = t ∷ []; is = refl }

pub grown : (known ws : Words) → Grown known (with_texts known ws)
grown known [] = record { more = []; is = sym (append-nil known) }
grown known (w ∷ ws) =
    let one = grown_one known w in
    let two = grown (with_text known w) ws in
    record {
      more = one.more ++ two.more;
      is = two.is ∙ ap (λ l. l ++ two.more) one.is ∙ append_assoc known one.more two.more;
    }

-- ---- from so many used texts through words to so many

-- In version 1 no text is of a pool.
abbrev pub Uses : Version → Words → ℕ → Words → ℕ → Type 0
Uses One texts u ws v = u ≡ v
Uses Two texts u ws v = (u ≤ length texts) × (v ≤ length texts) × (with_texts (take u texts) ws ≡ take v texts)

pub uses_none : (version : Version) (texts : Words) (u v : ℕ) (ws : Words) → Uses version texts u ws v → Uses version texts v [] v
uses_none One texts u v ws h = refl
uses_none Two texts u v ws h = (h.1, h.1, refl)

pub uses_both : (version : Version) (texts : Words) (u v w : ℕ) (xs ys : Words) → Uses version texts u xs v → Uses version texts v ys w → Uses version texts u (xs ++ ys) w
uses_both One texts u v w xs ys h k = h ∙ k
uses_both Two texts u v w xs ys h k = (h.0, k.1, with_both (take u texts) xs ys ∙ ap (λ l. with_texts l ys) h.2 ∙ k.2)

-- a front of the texts is as many as it has
front_taken : (texts front more : Words) (w : ℕ) → front ++ more ≡ take w texts → (length front ≤ length texts) × (front ≡ take (length front) texts)
front_taken texts front more w e =
    let all : texts ≡ front ++ (more ++ drop w texts) = sym (take-append-drop w texts) ∙ ap (λ l. l ++ drop w texts) (sym e) ∙ append_assoc front more (drop w texts) in
    let n = ap length all in (
      omega (arith, n, length-append front (more ++ drop w texts)),
      sym (ap (λ l. take (length front) l) all ∙ take_at front (more ++ drop w texts) (length front) refl),
    )

pub record Between (version : Version) (texts : Words) (u : ℕ) (xs ys : Words) (w : ℕ) : Type 0 where
  pub used : ℕ
  pub one : Uses version texts u xs used
  pub two : Uses version texts used ys w

pub uses_split : (version : Version) (texts : Words) (u w : ℕ) (xs ys : Words) → Uses version texts u (xs ++ ys) w → Between version texts u xs ys w
uses_split One texts u w xs ys h = record { used = u; one = refl; two = h }
uses_split Two texts u w xs ys h =
    let known = with_texts (take u texts) xs in
    let g = grown known ys in
    let e : with_texts known ys ≡ take w texts = sym (with_both (take u texts) xs ys) ∙ h.2 in
    let f = front_taken texts known g.more w (sym g.is ∙ e) in
    record {
      used = length known;
      one = (h.0, f.0, f.1);
      two = (f.0, h.1, ap (λ l. with_texts l ys) (sym f.1) ∙ e);
    }

pub uses_nothing : (version : Version) (texts : Words) (u v : ℕ) → Uses version texts u [] v → u ≡ v
uses_nothing One texts u v h = h
uses_nothing Two texts u v h = sym (length-take-le u texts h.0) ∙ ap length h.2 ∙ length-take-le v texts h.1

-- ---- one use

-- what is used once the text at a place was
pub use_of : (texts : Words) (u place : ℕ) → Differ texts → u ≤ length texts → place < length texts → place ≤ u → Uses Two texts u (text_at texts place ∷ []) (used_after u place)
use_of texts u place d h i le =
    elim (cases_eq place u) [
      | inl e ↦
          let one : used_after u place ≡ suc u = cond-true (nat_eq place u) (suc u) u (eq-eqb place u e) in
          let lt : u < length texts = omega arith in
          let plus : u + 1 ≡ suc u = omega arith in
          let fresh : is_among (text_at texts place) (take u texts) ≡ false = subst (λ m. is_among (text_at texts m) (take u texts) ≡ false) (sym e) (d u lt) in
          let two : with_text (take u texts) (text_at texts place) ≡ take (u + 1) texts =
          cond-false (is_among (text_at texts place) (take u texts)) (take u texts) (take u texts ++ text_at texts place ∷ []) fresh
          ∙ ap (λ m. take u texts ++ text_at texts m ∷ []) e ∙ sym (take_more texts u [] lt) in
          subst (λ m. Uses Two texts u (text_at texts place ∷ []) m) (sym one) (h, lt, two ∙ ap (λ m. take m texts) plus)
      | inr n ↦
          let one : used_after u place ≡ u = cond-false (nat_eq place u) (suc u) u (ne_eqb place u n) in
          let lt : place < u = omega (arith, n) in
          let two : with_text (take u texts) (text_at texts place) ≡ take u texts =
          cond-true (is_among (text_at texts place) (take u texts)) (take u texts) (take u texts ++ text_at texts place ∷ []) (among_at u texts place lt i) in
          subst (λ m. Uses Two texts u (text_at texts place ∷ []) m) (sym one) (h, h, two)
    ]

same_last : (front : Words) (s t : List ℕ) → front ++ s ∷ [] ≡ front ++ t ∷ [] → s ≡ t
same_last front s t e = let tails : s ∷ [] ≡ t ∷ [] = append_cancel_left front (s ∷ []) (t ∷ []) e in cc

-- where a text stands that is used
pub record UsedAt (texts : Words) (u : ℕ) (t : List ℕ) (v : ℕ) : Type 0 where
  pub early : place_in texts t ≤ u
  pub inside : place_in texts t < length texts
  pub is : text_at texts (place_in texts t) ≡ t
  pub after : used_after u (place_in texts t) ≡ v

pub used_at : (texts : Words) (u v : ℕ) (t : List ℕ) → Differ texts → Uses Two texts u (t ∷ []) v → UsedAt texts u t v
used_at texts u v t d h = go (is_among t (take u texts)) refl h.2
  where
    go : (b : Bool) → is_among t (take u texts) ≡ b → cond b (take u texts) (take u texts ++ t ∷ []) ≡ take v texts → UsedAt texts u t v
    go true e k =
        let p = placed u texts t e in
        let early = p.early in
        let same : u ≡ v = uses_nothing Two texts u v (h.0, h.1, k) in
        record {
          early = omega arith;
          inside = p.inside;
          is = p.is;
          after = cond-false (nat_eq (place_in texts t) u) (suc u) u (ne_eqb (place_in texts t) u (λ x. omega arith)) ∙ same;
        }
    go false e k =
        let front = take u texts in
        let n : length front ≡ u = length-take-le u texts h.0 in
        let m : length (take v texts) ≡ v = length-take-le v texts h.1 in
        let v_is : v ≡ suc u = omega (arith, n, m, ap length k, length-append front (t ∷ [])) in
        let lt : u < length texts = omega (arith, h.1) in
        let plus : u + 1 ≡ v = omega (arith, v_is) in
        let at : text_at texts u ≡ t = same_last (take u texts) (text_at texts u) t (sym (take_more texts u [] lt) ∙ ap (λ j. take j texts) plus ∙ sym k) in
        let place : place_in texts t ≡ u = ap (λ s. place_in texts s) (sym at) ∙ place_at texts u d lt in
        record {
          early = omega (arith, place);
          inside = omega (arith, place);
          is = ap (λ j. text_at texts j) place ∙ at;
          after = cond-true (nat_eq (place_in texts t) u) (suc u) u (eq-eqb (place_in texts t) u place) ∙ sym v_is;
        }
