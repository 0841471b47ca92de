-- The fields of a pool: its texts differ, and each is UTF-8. What they spell, and what spells them.
use Rattle.std.proofs.Common.{◌≡◌, ℕ, zero, suc, ◌+◌, ◌<◌, ◌^◌, Bool, true, false, cond, nat_eq, List, [], ◌∷◌, ◌++◌, length, take, Some, None, refl, ap, sym, ◌∙◌, subst, arith, append_assoc, append-nil, length-append, take_at, inl, inr}
use Rattle.std.specs.Str.{is_utf8}
use Rattle.std.proofs.lemmas.Bool.{eqb-true, eq-eqb, cases_eq, cond-true, cond-false}
use Rattle.std.proofs.lemmas.List.{get_or_append_left, get_or_at, take-append-le}
use Rattle.rb_trees.specs.declared.versions.Version.{Version}
use Rattle.rb_trees.specs.declared.versions.Version.TheVariants.{One, Two}
use Rattle.rb_meaning_bytes.specs.formats.Fields.{Short, Brief, Check, brief, bad_text, bad_pool}
use Rattle.rb_meaning_bytes.specs.formats.Shorts.{short}
use Rattle.rb_meaning_bytes.specs.formats.Formats.{Done, Spells, done, more}
use Rattle.rb_meaning_bytes.specs.formats.Pools.{is_among, text_at, with_text, with_texts, any_number, new_text_test, unused}
use Rattle.rb_meaning_bytes.specs.formats.ScriptMessages.{more_texts, pool, all_used}
use Rattle.rb_meaning_bytes.specs.formats.ScriptBytes.{texts_bytes, pool_bytes}
use Rattle.rb_meaning_bytes.proofs.formats.Only.{Only, only_done, only_more}
use Rattle.rb_meaning_bytes.proofs.formats.Values.{the_spelled, unless_met, met_unless}
use Rattle.rb_meaning_bytes.proofs.formats.PoolLaws.{Words, Differ, EachText, IsPoolText, each_both}
use Rattle.rb_meaning_bytes.proofs.formats.PooledTexts.{IsPool}

-- ---- texts that differ

differ_more : (known : Words) (t : List ℕ) → Differ known → is_among t known ≡ false → Differ (known ++ t ∷ [])
differ_more known t d h i lt =
    let n : length (known ++ t ∷ []) ≡ length known + length (t ∷ []) = length-append known (t ∷ []) in
    elim (cases_eq i (length known)) [
      | inl e ↦
          let back : length known ≡ i = sym e in
          let at : text_at (known ++ t ∷ []) i ≡ t = get_or_at known t [] [] i back in
          let front : take i (known ++ t ∷ []) ≡ known = take_at known (t ∷ []) i back in
          ap (λ s. is_among s (take i (known ++ t ∷ []))) at ∙ ap (λ l. is_among t l) front ∙ h
      | inr apart ↦
          let early : i < length known = omega (arith, n, apart) in
          let at : text_at (known ++ t ∷ []) i ≡ text_at known i = get_or_append_left known (t ∷ []) [] i early in
          let front : take i (known ++ t ∷ []) ≡ take i known = take-append-le i known (t ∷ []) (omega arith) in
          ap (λ s. is_among s (take i (known ++ t ∷ []))) at ∙ ap (λ l. is_among (text_at known i) l) front ∙ d i early
    ]

differ_one : (known : Words) (t : List ℕ) → Differ known → Differ (with_text known t)
differ_one known t d = go (is_among t known) refl
  where
    go : (v : Bool) → is_among t known ≡ v → Differ (cond v known (known ++ t ∷ []))
    go true e = d
    go false e = differ_more known t d e

pub differ_with : (known ws : Words) → Differ known → Differ (with_texts known ws)
differ_with known [] d = d
differ_with known (w ∷ ws) d = differ_with (with_text known w) ws (differ_one known w d)

pub differ_none : Differ []
differ_none i h = absurd (omega arith)

record NewText (earlier : Words) (t : List ℕ) : Type 0 where
  utf8 : is_utf8 t ≡ true
  fresh : is_among t earlier ≡ false

new_text : (earlier : Words) (t : List ℕ) → new_text_test earlier t ≡ None → NewText earlier t
new_text earlier t h = go (is_utf8 t) (is_among t earlier) refl refl h
  where
    go : (v w : Bool) → is_utf8 t ≡ v → is_among t earlier ≡ w → cond v (cond w (Some bad_pool) None) (Some bad_text) ≡ None → NewText earlier t
    go true false e f k = record { utf8 = e; fresh = f }
    go true true e f k = absurd cc
    go false w e f k = absurd cc

text_new : (earlier : Words) (t : List ℕ) → is_utf8 t ≡ true → is_among t earlier ≡ false → new_text_test earlier t ≡ None
text_new earlier t h k = cond-true (is_utf8 t) (cond (is_among t earlier) (Some bad_pool) None) (Some bad_text) h ∙ cond-false (is_among t earlier) (Some bad_pool) None k

texts_both : (xs ys : Words) → texts_bytes (xs ++ ys) ≡ texts_bytes xs ++ texts_bytes ys
texts_both [] ys = refl
texts_both (x ∷ xs) ys = ap (λ l. brief x ++ l) (texts_both xs ys) ∙ sym (append_assoc (brief x) (texts_bytes xs) (texts_bytes ys))

-- ---- what is spelled

abbrev FineTexts : Words → Type 0
FineTexts texts = Differ texts × EachText IsPoolText texts

-- behind the texts that were read
more_only : (n : ℕ) (earlier : Words) → FineTexts earlier
    → Only (more_texts n earlier) (texts_bytes earlier) texts_bytes (λ texts. (length texts ≡ length earlier + n) × FineTexts texts)
unfolding more_texts
more_only zero earlier f = only_done texts_bytes (λ texts. (length texts ≡ length earlier + 0) × FineTexts texts) earlier (texts_bytes earlier) refl (omega arith, f)
more_only (suc n) earlier f =
    let ok : Words → Type 0 = λ texts. (length texts ≡ length earlier + suc n) × FineTexts texts in
    only_more texts_bytes ok (Brief (2 ^ 32) (new_text_test earlier)) (λ t. more_texts n (earlier ++ t ∷ [])) (texts_bytes earlier) (λ t h.
    let new = new_text earlier t h.2 in
    let fine : FineTexts (earlier ++ t ∷ []) = (differ_more earlier t f.0 new.fresh, each_both IsPoolText earlier (t ∷ []) f.1 ((h.0, new.utf8), tt)) in
    let rest = more_only n (earlier ++ t ∷ []) fine in
    let size = length-append earlier (t ∷ []) in
    let front : texts_bytes (earlier ++ t ∷ []) ≡ texts_bytes earlier ++ brief t = texts_both earlier (t ∷ []) ∙ ap (λ l. texts_bytes earlier ++ l) (append-nil (brief t)) in
    subst (λ l. Only (more_texts n (earlier ++ t ∷ [])) l texts_bytes ok) front
    (record { made = λ bytes a s. let m = rest.made bytes a s in let count = m.fits.0 in record { is = m.is; fits = (omega (arith, size, count), m.fits.1) } }))

pub pool_only : (version : Version) → Only (pool version) [] (λ texts. pool_bytes version texts) (λ texts. IsPool version texts)
unfolding pool
pool_only One = only_done (λ texts. pool_bytes One texts) (λ texts. IsPool One texts) [] [] refl refl
pool_only Two =
    let ok : Words → Type 0 = λ texts. IsPool Two texts in
    only_more (λ texts. pool_bytes Two texts) ok (Short any_number) (λ count. more_texts count []) [] (λ count h.
    let rest = more_only count [] (differ_none, tt) in
    record {
      made = λ bytes a s.
          let m = rest.made bytes a s in
          let size = m.fits.0 in
          let same : length a ≡ count = omega (arith, size) in
          record {
            is = ap (λ l. short count ++ l) m.is ∙ ap (λ k. short k ++ texts_bytes a) (sym same);
            fits = (subst (λ k. k < 2 ^ 32) (sym same) h.0, m.fits.1.0, m.fits.1.1);
          };
    })

-- all texts of a pool were used
abbrev pub AllUsed : Version → Words → ℕ → Type 0
AllUsed One texts used = Unit {0}
AllUsed Two texts used = used ≡ length texts

pub all_used_only : (version : Version) (texts : Words) (used : ℕ) → Only (all_used version texts used) [] (λ u. []) (λ u. AllUsed version texts used)
unfolding all_used
all_used_only One texts used = only_done (λ u. []) (λ u. AllUsed One texts used) tt [] refl tt
all_used_only Two texts used = only_more (λ u. []) (λ u. AllUsed Two texts used) (Check (unused texts used)) _ []
    (λ u h. only_done (λ u. []) (λ u. AllUsed Two texts used) tt [] refl (eqb-true used (length texts) (unless_met (nat_eq used (length texts)) bad_pool h)))

-- ---- what spells

more_spelled : (new earlier : Words) → Differ (earlier ++ new) → EachText IsPoolText new → Spells (more_texts (length new) earlier) (texts_bytes new) (earlier ++ new)
unfolding more_texts
more_spelled [] earlier d h = subst (λ l. Spells {A = Words} (Done earlier) [] l) (sym (append-nil earlier)) (done earlier)
more_spelled (t ∷ new) earlier d h =
    let shift : (earlier ++ t ∷ []) ++ new ≡ earlier ++ t ∷ new = append_assoc earlier (t ∷ []) new in
    let n = length-append earlier (t ∷ new) in
    let inside : length earlier < length (earlier ++ t ∷ new) = omega (arith, n) in
    let at : text_at (earlier ++ t ∷ new) (length earlier) ≡ t = get_or_at earlier t new [] (length earlier) refl in
    let front : take (length earlier) (earlier ++ t ∷ new) ≡ earlier = take_at earlier (t ∷ new) (length earlier) refl in
    let fresh : is_among t earlier ≡ false =
    sym (ap (λ s. is_among s (take (length earlier) (earlier ++ t ∷ new))) at ∙ ap (λ l. is_among t l) front) ∙ d (length earlier) inside in
    let size = h.0.0 in
    more t (h.0.0, omega arith, text_new earlier t h.0.1 fresh)
    (subst (λ l. Spells (more_texts (length new) (earlier ++ t ∷ [])) (texts_bytes new) l) shift (more_spelled new (earlier ++ t ∷ []) (subst Differ (sym shift) d) h.1))

pub pool_spelled : (version : Version) (texts : Words) → IsPool version texts → Spells (pool version) (pool_bytes version texts) texts
unfolding pool
pool_spelled One texts h = subst (λ l. Spells {A = Words} (Done []) [] l) (sym h) (done [])
pool_spelled Two texts h = more (length texts) (h.0, refl) (more_spelled texts [] h.1 h.2)

pub all_used_spelled : (version : Version) (texts : Words) (used : ℕ) → AllUsed version texts used → Spells (all_used version texts used) [] tt
unfolding all_used
all_used_spelled One texts used h = done tt
all_used_spelled Two texts used h = the_spelled (Check (unused texts used)) tt (met_unless (nat_eq used (length texts)) bad_pool (eq-eqb used (length texts) h))
