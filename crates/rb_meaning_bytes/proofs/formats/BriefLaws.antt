-- The laws of a text behind a length in groups: looking at one gives the text that the bytes spell, or what is violated.
use Rattle.std.proofs.Common.{◌≡◌, ℕ, ◌<◌, ◌≤◌, ◌^◌, true, false, cond, ltb, List, ◌++◌, length, take, drop, Option, None, Some, Ok, Err, refl, ap, sym, ◌∙◌, subst, arith, inl, inr, append_assoc, length-append}
use Rattle.std.proofs.lemmas.Bool.{cases_lt, ltb-true, ltb-false, le-ltb, lt-ltb}
use Rattle.std.proofs.lemmas.List.{take-append-drop, length-take}
use Rattle.std.proofs.Math.Seq.{take-append_seam, drop-append_seam}
use Rattle.rb_meaning_bytes.specs.formats.Shorts.{short, groups, Groups, read_groups}
use Rattle.rb_meaning_bytes.specs.formats.Fields.{Test, IsBytes, Brief, brief, needs, Wrong, no_length, too_much, refused_bytes, Violates, bad_text, not_canonical}
use Rattle.rb_meaning_bytes.specs.formats.Reading.{Fault, Read, on, look, is_cut, of_groups, unrefused, content_of}
use Rattle.rb_meaning_bytes.proofs.formats.FieldParts.{Took, IsBytes-drop, rest_bytes, good_else, bad_else, cut_at, wrong_at}
use Rattle.rb_meaning_bytes.proofs.formats.ShortLaws.{the_pair, short_took, short_again, short_cut, short_bad, bad_short, told}

-- what looking answers once the groups were read
abbrev held : ℕ → Test (List ℕ) → List ℕ → Groups → Read (List ℕ)
held most test bytes r = on (of_groups bytes r) (λ n rest. content_of most test bytes n rest)

abbrev parted : List ℕ → List ℕ → List ℕ × List ℕ
parted bytes rest = (bytes, rest)

-- the length that stands before a text is read
brief_read : (bytes rest : List ℕ) → length bytes < 2 ^ 32 → read_groups 16 4 (brief bytes ++ rest) ≡ Ok (the_pair (length bytes) (bytes ++ rest))
unfolding short
brief_read bytes rest h = ap (read_groups 16 4) (append_assoc (groups 4 (length bytes)) bytes rest) ∙ short_again 16 4 (length bytes) (bytes ++ rest) h

-- and the text behind it
content_there : (most : ℕ) (test : Test (List ℕ)) (l bytes rest : List ℕ) → length bytes ≤ most → content_of most test l (length bytes) (bytes ++ rest) ≡ unrefused (test bytes) l (Ok (parted bytes rest))
content_there most test l bytes rest h =
    let few : ltb most (length bytes) ≡ false = le-ltb _ _ h in
    let whole : ltb (length (bytes ++ rest)) (length bytes) ≡ false = le-ltb _ _ (omega (arith, length-append bytes rest)) in
    rw (few, whole, take-append_seam bytes rest, drop-append_seam bytes rest) refl

-- the bytes behind a length, parted
whole_brief : (bytes : List ℕ) (y : ℕ × List ℕ) → bytes ≡ groups 4 y.0 ++ y.1 → y.0 ≤ length y.1 → bytes ≡ brief (take y.0 y.1) ++ drop y.0 y.1
unfolding short
whole_brief bytes y is h =
    let len : y.0 ≡ length (take y.0 y.1) = omega (arith, length-take y.0 y.1) in
    is ∙ ap (λ l. groups 4 y.0 ++ l) (sym (take-append-drop y.0 y.1)) ∙ sym (append_assoc (groups 4 y.0) (take y.0 y.1) (drop y.0 y.1))
    ∙ ap (λ n. groups 4 n ++ take y.0 y.1 ++ drop y.0 y.1) len

pub brief_took : (most : ℕ) (test : Test (List ℕ)) (bytes : List ℕ) (x : List ℕ × List ℕ) → IsBytes bytes → look (Brief most test) bytes ≡ Ok x → Took (Brief most test) bytes x
unfolding look
brief_took most test bytes x b e = go (read_groups 16 4 bytes) refl e
  where
    tested : (y : ℕ × List ℕ) (v : Option ℕ) → test (take y.0 y.1) ≡ v → read_groups 16 4 bytes ≡ Ok y → y.0 ≤ most → y.0 ≤ length y.1
        → unrefused v bytes (Ok (parted (take y.0 y.1) (drop y.0 y.1))) ≡ Ok x → Took (Brief most test) bytes x
    tested y None t i few whole h =
        let j : parted (take y.0 y.1) (drop y.0 y.1) ≡ x = cc in
        let s = short_took 16 4 bytes y (omega arith) (omega arith) b i in
        let f = s.fits in
        let len : length (take y.0 y.1) ≡ y.0 = omega (arith, length-take y.0 y.1) in
        let rest = rest_bytes bytes (groups 4 y.0) y.1 s.is b in
        subst (λ z. Took (Brief most test) bytes z) j (record {
          is = whole_brief bytes y s.is whole;
          fits = (omega arith, omega arith, t);
          rest_fits = IsBytes-drop y.0 y.1 rest;
        })
    tested y (Some n) t i few whole h = absurd cc

    go : (r : Groups) → read_groups 16 4 bytes ≡ r → held most test bytes r ≡ Ok x → Took (Brief most test) bytes x
    go (Ok y) i h =
        let few = good_else (ltb most y.0) _ x (bad_text, length bytes) h in
        let whole = good_else (ltb (length y.1) y.0) _ x is_cut few.1 in
        tested y (test (take y.0 y.1)) refl i (ltb-false _ _ few.0) (ltb-false _ _ whole.0) whole.1
    go (Err true) i h = absurd cc
    go (Err false) i h = absurd cc

pub brief_again : (most : ℕ) (test : Test (List ℕ)) (bytes rest : List ℕ) → length bytes < 2 ^ 32 → length bytes ≤ most → test bytes ≡ None → look (Brief most test) (brief bytes ++ rest) ≡ Ok (bytes, rest)
unfolding look
brief_again most test bytes rest h few t =
    ap (held most test (brief bytes ++ rest)) (brief_read bytes rest h) ∙ content_there most test (brief bytes ++ rest) bytes rest few
    ∙ ap (λ v. unrefused v (brief bytes ++ rest) (Ok (parted bytes rest))) t

-- Where bytes of the length lack, nothing is wrong.
right_length : (most : ℕ) (test : Test (List ℕ)) (bytes : List ℕ) (n : ℕ) → IsBytes bytes → read_groups 16 4 bytes ≡ Err true → Wrong (Brief most test) bytes n → ⊥
unfolding short
right_length _ _ _ _ b e (no_length bytes none) = let t = short_cut 16 4 bytes (omega arith) b e in none t.number t.fits (inl (t.more, t.is))
right_length _ _ _ _ b e (too_much n rest h m) = let s = short_again 16 4 n rest h in absurd cc
right_length _ _ _ _ b e (refused_bytes bytes rest number h few t) = let s = brief_read bytes rest h in absurd cc

-- Where bytes behind the length lack, nothing is wrong.
right_content : (most : ℕ) (test : Test (List ℕ)) (bytes : List ℕ) (n : ℕ) (y : ℕ × List ℕ) → IsBytes bytes → read_groups 16 4 bytes ≡ Ok y → y.0 ≤ most → length y.1 < y.0
    → Wrong (Brief most test) bytes n → ⊥
unfolding short
right_content _ _ _ _ y b e few lacks (no_length bytes none) = let s = bad_short 16 4 bytes (omega arith) (omega arith) b none in absurd cc
right_content _ _ _ _ y b e few lacks (too_much n rest h m) =
    let s = short_again 16 4 n rest h in
    let i : the_pair n rest ≡ y = cc in
    let j : n ≡ y.0 = ap (λ p. p.0) i in
    omega arith
right_content _ _ _ _ y b e few lacks (refused_bytes bytes rest number h m t) =
    let s = brief_read bytes rest h in
    let i : the_pair (length bytes) (bytes ++ rest) ≡ y = cc in
    let j : length bytes ≡ y.0 = ap (λ p. p.0) i in
    let k : length (bytes ++ rest) ≡ length y.1 = ap (λ p. length p.1) i in
    omega (arith, length-append bytes rest)

pub brief_wrongly : (most : ℕ) (test : Test (List ℕ)) (bytes : List ℕ) (e : Fault) → IsBytes bytes → look (Brief most test) bytes ≡ Err e → Violates (Brief most test) bytes e.0 e.1
unfolding look short
brief_wrongly most test bytes e b h = go (read_groups 16 4 bytes) refl h
  where
    tested : (y : ℕ × List ℕ) (v : Option ℕ) → test (take y.0 y.1) ≡ v → read_groups 16 4 bytes ≡ Ok y → y.0 ≤ most → y.0 ≤ length y.1
        → unrefused v bytes (Ok (parted (take y.0 y.1) (drop y.0 y.1))) ≡ Err e → Violates (Brief most test) bytes e.0 e.1
    tested y None t i few whole j = absurd cc
    tested y (Some n) t i few whole j =
        let s = short_took 16 4 bytes y (omega arith) (omega arith) b i in
        let f = s.fits in
        let len : length (take y.0 y.1) ≡ y.0 = omega (arith, length-take y.0 y.1) in
        wrong_at (Brief most test) bytes n e (cc)
        (subst (λ l. Wrong (Brief most test) l n) (sym (whole_brief bytes y s.is whole)) (refused_bytes (take y.0 y.1) (drop y.0 y.1) n (omega arith) (omega arith) t))

    read_on : (y : ℕ × List ℕ) → read_groups 16 4 bytes ≡ Ok y → content_of most test bytes y.0 y.1 ≡ Err e → Violates (Brief most test) bytes e.0 e.1
    read_on y i j =
        let s = short_took 16 4 bytes y (omega arith) (omega arith) b i in
        let t = told 16 4 bytes y (omega arith) i in
        let long = t.long in
        let value = t.value in
        elim (bad_else (ltb most y.0) _ (bad_text, length bytes) e j) [
          | inl g ↦ wrong_at (Brief most test) bytes _ e g.1 (subst (λ l. Wrong (Brief most test) l bad_text) (sym s.is) (too_much y.0 y.1 s.fits (ltb-true _ _ g.0)))
          | inr few ↦ elim (bad_else (ltb (length y.1) y.0) _ is_cut e few.1) [
            | inl g ↦ let lacks = ltb-true _ _ g.0 in cut_at (Brief most test) bytes e g.1 (omega arith) (λ n w. right_content most test bytes n y b i (ltb-false _ _ few.0) lacks w)
            | inr whole ↦ tested y (test (take y.0 y.1)) refl i (ltb-false _ _ few.0) (ltb-false _ _ whole.0) whole.1
          ]
        ]

    go : (r : Groups) → read_groups 16 4 bytes ≡ r → held most test bytes r ≡ Err e → Violates (Brief most test) bytes e.0 e.1
    go (Ok y) i j = read_on y i j
    go (Err true) i j = let t = (short_cut 16 4 bytes (omega arith) b i).short in cut_at (Brief most test) bytes e (cc) (omega arith) (λ n w. right_length most test bytes n b i w)
    go (Err false) i j = wrong_at (Brief most test) bytes not_canonical e (cc) (no_length bytes (short_bad 16 4 bytes (omega arith) (omega arith) b i))

pub brief_seen : (most : ℕ) (test : Test (List ℕ)) (bytes : List ℕ) (n : ℕ) → IsBytes bytes → Wrong (Brief most test) bytes n → look (Brief most test) bytes ≡ Err (n, length bytes)
unfolding look short
brief_seen most test _ _ b (no_length bytes none) = ap (held most test bytes) (bad_short 16 4 bytes (omega arith) (omega arith) b none)
brief_seen most test _ _ b (too_much n rest h m) =
    ap (held most test (groups 4 n ++ rest)) (short_again 16 4 n rest h)
    ∙ ap (λ v. cond v (Err (bad_text, length (groups 4 n ++ rest))) (cond (ltb (length rest) n) (Err is_cut) (unrefused (test (take n rest)) (groups 4 n ++ rest) (Ok (parted (take n rest) (drop n rest)))))) (lt-ltb most n m)
brief_seen most test _ _ b (refused_bytes bytes rest number h few t) =
    ap (held most test (brief bytes ++ rest)) (brief_read bytes rest h) ∙ content_there most test (brief bytes ++ rest) bytes rest few
    ∙ ap (λ v. unrefused v (brief bytes ++ rest) (Ok (parted bytes rest))) t

pub brief_lacking : (most : ℕ) (test : Test (List ℕ)) (bytes : List ℕ) → IsBytes bytes → length bytes < needs (Brief most test) bytes → ((n : ℕ) → ¬ Wrong (Brief most test) bytes n)
    → look (Brief most test) bytes ≡ Err is_cut
unfolding look short
brief_lacking most test bytes b h w = go (read_groups 16 4 bytes) refl
  where
    go : (r : Groups) → read_groups 16 4 bytes ≡ r → held most test bytes r ≡ Err is_cut
    go (Ok y) i =
        let s = short_took 16 4 bytes y (omega arith) (omega arith) b i in
        let t = told 16 4 bytes y (omega arith) i in
        let long = t.long in
        let value = t.value in
        elim (cases_lt most y.0) [
          | inl m ↦ absurd (w bad_text (subst (λ l. Wrong (Brief most test) l bad_text) (sym s.is) (too_much y.0 y.1 s.fits m)))
          | inr few ↦
              let fine : ltb most y.0 ≡ false = le-ltb _ _ few in
              let lacks : ltb (length y.1) y.0 ≡ true = lt-ltb _ _ (omega arith) in
              rw (fine, lacks) refl
        ]
    go (Err true) i = refl
    go (Err false) i = absurd (w not_canonical (no_length bytes (short_bad 16 4 bytes (omega arith) (omega arith) b i)))
