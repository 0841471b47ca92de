-- Looking at a field gives the value that the bytes spell, or what is violated.
use Rattle.std.proofs.Common.{◌≡◌, ℕ, ℤ, zero, suc, ◌+◌, ◌<◌, ◌≤◌, ◌^◌, true, false, cond, ltb, List, [], ◌∷◌, ◌++◌, length, take, drop, None, Some, Ok, Err, refl, ap, sym, ◌∙◌, subst, arith, append_assoc, length-append, inl, inr, drop-drop}
use Rattle.std.specs.Int.{Width, w32, w64, byte_len, from_be_bytes, to_be_bytes, cast_signed, cast_unsigned}
use Rattle.std.specs.Int.RustNames.{FitsSigned}
use Rattle.std.specs.Str.{is_utf8}
use Rattle.std.proofs.lemmas.Int.{to_z-of_z, of_z-to_z}
use borrow.Author.Gap.{read_sfits}
use mir.Facts.{Fits-of_z, Fits-lt-pow}
use Rattle.std.proofs.lemmas.Bool.{cases_lt, ltb-true, ltb-false, le-ltb, lt-ltb}
use Rattle.std.proofs.lemmas.List.{take_at, drop_at, take-append-drop, length-take, length-drop}
use Rattle.std.proofs.lemmas.Nat.{be_bytes_4, be_bytes_8, from_be_bytes-to_be_bytes_4, from_be_bytes-to_be_bytes_8}
use Rattle.rb_trees.specs.Limits.{longest_text}
use Rattle.rb_meaning_bytes.specs.formats.Fields.{IsBytes, Field, Tag, Byte, Number, Wide, Truth, Text, Name, Short, Zig, Brief, Check, Deeper, Of, spelled, number, wide_number, text, Fits, is_name, announced, content, needs, Wrong, no_such_tag, no_truth, too_long, no_utf8, no_name, no_short, refused_number, no_zig, no_length, too_much, refused_bytes, refused_here, deeper, Violates, wrong, cut, bad_tag, bad_text, not_canonical, too_deep}
use Rattle.std.proofs.Math.Seq.{take-append_seam, drop-append_seam}
use Rattle.rb_meaning_bytes.specs.formats.Reading.{Fault, look, is_cut, fixed, unrefused}
use Rattle.rb_meaning_bytes.proofs.formats.FieldParts.{IsBytes-drop, IsBytes-take, IsBytes-rest, Took, good, good_else, bad, bad_else, cut_at, wrong_at}
use Rattle.rb_meaning_bytes.proofs.formats.GroupLaws.{short_took_field, short_again_field, short_wrongly, short_seen, short_lacking, zig_took, zig_again, zig_wrongly, zig_seen, zig_lacking}
use Rattle.rb_meaning_bytes.proofs.formats.BriefLaws.{brief_took, brief_again, brief_wrongly, brief_seen, brief_lacking}

-- ---- numbers

pub record IsWide (w : Width) (limit : ℕ) : Type 0 where
  pub len : (n : ℕ) → length (to_be_bytes w n) ≡ byte_len w
  pub back : (bytes : List ℕ) → length bytes ≡ byte_len w → IsBytes bytes → to_be_bytes w (from_be_bytes w bytes) ≡ bytes
  pub again : (n : ℕ) → n < limit → from_be_bytes w (to_be_bytes w n) ≡ n
  pub below : (bytes : List ℕ) → IsBytes bytes → from_be_bytes w bytes < limit

wide32 : IsWide w32 (2 ^ 32)
wide32 = record {
  len = λ n. refl;
  back = λ bytes len fits. be_bytes_4 bytes _ len fits refl;
  again = λ n lt. from_be_bytes-to_be_bytes_4 n lt;
  below = λ bytes fits. omega (arith, fits 0, fits 1, fits 2, fits 3);
}

wide64 : IsWide w64 (2 ^ 64)
wide64 = record {
  len = λ n. refl;
  back = λ bytes len fits. be_bytes_8 bytes _ len fits refl;
  again = λ n lt. from_be_bytes-to_be_bytes_8 n lt;
  below = λ bytes fits. omega (arith, fits 0, fits 1, fits 2, fits 3, fits 4, fits 5, fits 6, fits 7);
}

-- a number at the front of bytes
record NumberTook (w : Width) (limit : ℕ) (bytes : List ℕ) : Type 0 where
  is : bytes ≡ to_be_bytes w (from_be_bytes w (take (byte_len w) bytes)) ++ drop (byte_len w) bytes
  fits : from_be_bytes w (take (byte_len w) bytes) < limit
  rest_fits : IsBytes (drop (byte_len w) bytes)

number_took : (w : Width) (limit : ℕ) (wide : IsWide w limit) (bytes : List ℕ) → IsBytes bytes → byte_len w ≤ length bytes → NumberTook w limit bytes
number_took w limit wide bytes b long =
    let t = IsBytes-take (byte_len w) bytes b in
    let front = wide.back (take (byte_len w) bytes) (omega (arith, length-take (byte_len w) bytes)) t in
    record {
      is = sym (take-append-drop (byte_len w) bytes) ∙ ap (λ (l : List ℕ). l ++ drop (byte_len w) bytes) (sym front);
      fits = wide.below (take (byte_len w) bytes) t;
      rest_fits = IsBytes-drop (byte_len w) bytes b;
    }

-- a number at the front is read
record NumberThere (w : Width) (n : ℕ) (rest : List ℕ) : Type 0 where
  long : byte_len w ≤ length (to_be_bytes w n ++ rest)
  value : from_be_bytes w (take (byte_len w) (to_be_bytes w n ++ rest)) ≡ n
  rest_is : drop (byte_len w) (to_be_bytes w n ++ rest) ≡ rest

number_there : (w : Width) (limit : ℕ) (wide : IsWide w limit) (n : ℕ) (rest : List ℕ) → n < limit → NumberThere w n rest
number_there w limit wide n rest lt =
    let len = wide.len n in
    record {
      long = omega (arith, length-append (to_be_bytes w n) rest);
      value = ap (from_be_bytes w) (take_at (to_be_bytes w n) rest (byte_len w) len) ∙ wide.again n lt;
      rest_is = drop_at (to_be_bytes w n) rest (byte_len w) len;
    }

unsigned_fits : (z : ℤ) → FitsSigned w64 z → cast_unsigned w64 z < 2 ^ 64
unsigned_fits z h = Fits-lt-pow (Fits-of_z h)

signed_fits : (n : ℕ) → FitsSigned w64 (cast_signed w64 n)
signed_fits n = read_sfits w64 n

-- ---- texts

-- a text at the front of bytes
record TextTook (bytes : List ℕ) : Type 0 where
  is : bytes ≡ text (content bytes) ++ drop (4 + announced bytes) bytes
  length_is : length (content bytes) ≡ announced bytes
  fits : length (content bytes) < 2 ^ 32
  rest_fits : IsBytes (drop (4 + announced bytes) bytes)

announced_whole : (bytes : List ℕ) → 4 ≤ length bytes → announced bytes ≡ from_be_bytes w32 (take 4 bytes)
unfolding announced
announced_whole bytes h = ap (λ v. cond v 0 (from_be_bytes w32 (take 4 bytes))) (le-ltb _ _ h)

text_took : (bytes : List ℕ) → IsBytes bytes → 4 + announced bytes ≤ length bytes → TextTook bytes
unfolding content number
text_took bytes b long =
    let n = announced_whole bytes (omega arith) in
    let t = number_took w32 (2 ^ 32) wide32 bytes b (omega arith) in
    let len : length (content bytes) ≡ announced bytes = omega (arith, length-take (announced bytes) (drop 4 bytes), length-drop 4 bytes) in
    let same : from_be_bytes w32 (take 4 bytes) ≡ length (content bytes) = omega arith in
    let tail : drop 4 bytes ≡ content bytes ++ drop (4 + announced bytes) bytes = sym (take-append-drop (announced bytes) (drop 4 bytes)) ∙ ap (λ l. content bytes ++ l) (drop-drop (announced bytes) 4 bytes) in
    record {
      is = t.is ∙ ap (λ k. to_be_bytes w32 k ++ drop 4 bytes) same ∙ ap (λ l. to_be_bytes w32 (length (content bytes)) ++ l) tail ∙ sym (append_assoc (to_be_bytes w32 (length (content bytes))) (content bytes) (drop (4 + announced bytes) bytes));
      length_is = len;
      fits = let f = t.fits in omega arith;
      rest_fits = IsBytes-drop (4 + announced bytes) bytes b;
    }

-- a text at the front is read
record TextThere (bytes rest : List ℕ) : Type 0 where
  long : 4 + announced (text bytes ++ rest) ≤ length (text bytes ++ rest)
  announced_is : announced (text bytes ++ rest) ≡ length bytes
  content_is : content (text bytes ++ rest) ≡ bytes
  rest_is : drop (4 + announced (text bytes ++ rest)) (text bytes ++ rest) ≡ rest

text_there : (bytes rest : List ℕ) → length bytes < 2 ^ 32 → TextThere bytes rest
unfolding number content
text_there bytes rest h =
    let r : text bytes ++ rest ≡ to_be_bytes w32 (length bytes) ++ (bytes ++ rest) = append_assoc (to_be_bytes w32 (length bytes)) bytes rest in
    let t = number_there w32 (2 ^ 32) wide32 (length bytes) (bytes ++ rest) h in
    let four : 4 ≤ length (text bytes ++ rest) = subst (λ (l : List ℕ). 4 ≤ length l) (sym r) t.long in
    let n : announced (text bytes ++ rest) ≡ length bytes = announced_whole (text bytes ++ rest) four ∙ ap (λ (l : List ℕ). from_be_bytes w32 (take 4 l)) r ∙ t.value in
    let tail : drop 4 (text bytes ++ rest) ≡ bytes ++ rest = ap (λ (l : List ℕ). drop 4 l) r ∙ t.rest_is in
    let both : length (drop 4 (text bytes ++ rest)) ≡ length bytes + length rest = ap (λ (l : List ℕ). length l) tail ∙ length-append bytes rest in
    record {
      long = omega (arith, length-drop 4 (text bytes ++ rest));
      announced_is = n;
      content_is = ap (λ k. take k (drop 4 (text bytes ++ rest))) n ∙ ap (λ (l : List ℕ). take (length bytes) l) tail ∙ take-append_seam bytes rest;
      rest_is = sym (drop-drop (announced (text bytes ++ rest)) 4 (text bytes ++ rest)) ∙ ap (λ k. drop k (drop 4 (text bytes ++ rest))) n ∙ ap (λ (l : List ℕ). drop (length bytes) l) tail ∙ drop-append_seam bytes rest;
    }

-- ---- fields

abbrev checked : List ℕ → Unit {0} × List ℕ
checked bytes = (tt, bytes)

pub took : (f : Field) (bytes : List ℕ) (x : Of f × List ℕ) → IsBytes bytes → look f bytes ≡ Ok x → Took f bytes x
unfolding look number wide_number
took (Tag test) [] x b e = absurd cc
took (Tag test) (c ∷ cs) x b e =
    let g = good (test c) (c, cs) x (bad_tag, length (c ∷ cs)) e in
    subst (λ y. Took (Tag test) (c ∷ cs) y) g.1 (record { is = refl; fits = (g.0, b 0); rest_fits = IsBytes-rest c cs b })
took Byte [] x b e = absurd cc
took Byte (c ∷ cs) x b e =
    let g : (c, cs) ≡ x = cc in
    subst (λ y. Took Byte (c ∷ cs) y) g (record { is = refl; fits = b 0; rest_fits = IsBytes-rest c cs b })
took Number bytes x b e =
    let g = good_else (ltb (length bytes) 4) (Ok (from_be_bytes w32 (take 4 bytes), drop 4 bytes)) x is_cut e in
    let t = number_took w32 (2 ^ 32) wide32 bytes b (ltb-false _ _ g.0) in
    let i : (from_be_bytes w32 (take 4 bytes), drop 4 bytes) ≡ x = cc (g.1) in
    subst (λ y. Took Number bytes y) i (record { is = t.is; fits = t.fits; rest_fits = t.rest_fits })
took Wide bytes x b e =
    let g = good_else (ltb (length bytes) 8) (Ok (cast_signed w64 (from_be_bytes w64 (take 8 bytes)), drop 8 bytes)) x is_cut e in
    let t = number_took w64 (2 ^ 64) wide64 bytes b (ltb-false _ _ g.0) in
    let i : (cast_signed w64 (from_be_bytes w64 (take 8 bytes)), drop 8 bytes) ≡ x = cc (g.1) in
    subst (λ y. Took Wide bytes y) i (record {
      is = t.is ∙ ap (λ k. to_be_bytes w64 k ++ drop 8 bytes) (sym (of_z-to_z w64 (from_be_bytes w64 (take 8 bytes)) t.fits));
      fits = signed_fits (from_be_bytes w64 (take 8 bytes));
      rest_fits = t.rest_fits;
    })
took Truth [] x b e = absurd cc
took Truth (zero ∷ cs) x b e =
    let i : (false, cs) ≡ x = cc in
    subst (λ y. Took Truth (0 ∷ cs) y) i (record { is = refl; fits = tt; rest_fits = IsBytes-rest 0 cs b })
took Truth (suc zero ∷ cs) x b e =
    let i : (true, cs) ≡ x = cc in
    subst (λ y. Took Truth (1 ∷ cs) y) i (record { is = refl; fits = tt; rest_fits = IsBytes-rest 1 cs b })
took Truth (suc (suc c) ∷ cs) x b e = let g = good_else (ltb 1 (suc (suc c))) _ x (not_canonical, length (suc (suc c) ∷ cs)) e in absurd (omega (arith, ltb-false 1 (suc (suc c)) g.0))
took Text bytes x b e =
    let short = good_else (ltb longest_text (announced bytes)) _ x (bad_text, length bytes) e in
    let whole = good_else (ltb (length bytes) (4 + announced bytes)) _ x is_cut short.1 in
    let formed = good (is_utf8 (content bytes)) (content bytes, drop (4 + announced bytes) bytes) x (bad_text, length bytes) whole.1 in
    let t = text_took bytes b (ltb-false _ _ whole.0) in
    let l = t.length_is in
    let m : announced bytes ≤ longest_text = ltb-false _ _ short.0 in
    subst (λ y. Took Text bytes y) formed.1 (record { is = t.is; fits = (omega arith, formed.0); rest_fits = t.rest_fits })
took Name bytes x b e =
    let whole = good_else (ltb (length bytes) (4 + announced bytes)) _ x is_cut e in
    let formed = good (is_name (content bytes)) (content bytes, drop (4 + announced bytes) bytes) x (bad_text, length bytes) whole.1 in
    let t = text_took bytes b (ltb-false _ _ whole.0) in
    subst (λ y. Took Name bytes y) formed.1 (record { is = t.is; fits = (t.fits, formed.0); rest_fits = t.rest_fits })
took (Short test) bytes x b e = short_took_field test bytes x b e
took Zig bytes x b e = zig_took bytes x b e
took (Brief most test) bytes x b e = brief_took most test bytes x b e
took (Check None) bytes x b e = let i : checked bytes ≡ x = cc in subst (λ y. Took (Check None) bytes y) i (record { is = refl; fits = refl; rest_fits = b })
took (Check (Some n)) bytes x b e = absurd cc
took Deeper bytes x b e = absurd x.0

fixed_again : {A : Type 0} (w : Width) (limit : ℕ) (wide : IsWide w limit) (g : ℕ → A) (n : ℕ) (rest : List ℕ) → n < limit → fixed (byte_len w) (λ front. g (from_be_bytes w front)) (to_be_bytes w n ++ rest) ≡ Ok (g n, rest)
fixed_again w limit wide g n rest lt =
    let t = number_there w limit wide n rest lt in
    let long = le-ltb _ _ t.long in
    rw (long, t.value, t.rest_is) refl

text_again : (l bytes rest : List ℕ) → announced l ≡ length bytes → content l ≡ bytes → drop (4 + announced l) l ≡ rest → 4 + announced l ≤ length l → length bytes ≤ longest_text → is_utf8 bytes ≡ true → look Text l ≡ Ok (bytes, rest)
unfolding look
text_again l bytes rest n c d long limit formed =
    let short : ltb longest_text (announced l) ≡ false = le-ltb _ _ (omega arith) in
    let whole : ltb (length l) (4 + announced l) ≡ false = le-ltb _ _ long in
    rw (short, whole, c, formed, d) refl

name_again : (l bytes rest : List ℕ) → content l ≡ bytes → drop (4 + announced l) l ≡ rest → 4 + announced l ≤ length l → is_name bytes ≡ true → look Name l ≡ Ok (bytes, rest)
unfolding look
name_again l bytes rest c d long formed =
    let whole : ltb (length l) (4 + announced l) ≡ false = le-ltb _ _ long in
    rw (whole, c, formed, d) refl

pub again : (f : Field) (x : Of f) (rest : List ℕ) → Fits f x → look f (spelled f x ++ rest) ≡ Ok (x, rest)
unfolding look number wide_number
again (Tag test) c rest h = ap (λ v. cond v (Ok (c, rest)) (Err (bad_tag, length (c ∷ rest)))) h.0
again Byte n rest h = refl
again Number n rest h = fixed_again w32 (2 ^ 32) wide32 (λ k. k) n rest h
again Wide z rest h = fixed_again w64 (2 ^ 64) wide64 (λ k. cast_signed w64 k) (cast_unsigned w64 z) rest (unsigned_fits z h) ∙ ap (λ v. Ok (v, rest)) (to_z-of_z w64 z h)
again Truth false rest h = refl
again Truth true rest h = refl
again Text bytes rest h = let t = text_there bytes rest (omega (arith, h.0)) in text_again (text bytes ++ rest) bytes rest t.announced_is t.content_is t.rest_is t.long h.0 h.1
again Name bytes rest h = let t = text_there bytes rest h.0 in name_again (text bytes ++ rest) bytes rest t.content_is t.rest_is t.long h.1
again (Short test) n rest h = short_again_field test n rest h.0 h.1
again Zig z rest h = zig_again z rest h
again (Brief most test) bytes rest h = brief_again most test bytes rest h.0 h.1 h.2
again (Check refused) x rest h = ap (λ v. unrefused v rest (Ok (checked rest))) h
again Deeper x rest h = absurd x

-- ---- what is violated

right_text : (bytes : List ℕ) (n : ℕ) → announced bytes ≤ longest_text → length bytes < 4 + announced bytes → Wrong Text bytes n → ⊥
right_text _ _ h k (too_long bytes l) = omega arith
right_text _ _ h k (no_utf8 bytes l u) = omega arith

right_name : (bytes : List ℕ) (n : ℕ) → length bytes < 4 + announced bytes → Wrong Name bytes n → ⊥
right_name _ _ k (no_name bytes l u) = omega arith

right_number : (bytes : List ℕ) (n : ℕ) → Wrong Number bytes n → ⊥
right_number bytes n w = elim w [ ]

right_wide : (bytes : List ℕ) (n : ℕ) → Wrong Wide bytes n → ⊥
right_wide bytes n w = elim w [ ]

pub wrongly : (f : Field) (bytes : List ℕ) (e : Fault) → IsBytes bytes → look f bytes ≡ Err e → Violates f bytes e.0 e.1
unfolding look
wrongly (Tag test) [] e bb h = cut_at (Tag test) [] e (cc) (omega arith) (λ n w. elim w [ ])
wrongly (Tag test) (b ∷ rest) e bb h =
    let g = bad (test b) (b, rest) (bad_tag, length (b ∷ rest)) e h in
    wrong_at (Tag test) (b ∷ rest) _ e g.1 (no_such_tag b rest g.0)
wrongly Byte [] e bb h = cut_at Byte [] e (cc) (omega arith) (λ n w. elim w [ ])
wrongly Byte (b ∷ rest) e bb h = absurd cc
wrongly Number bytes e bb h =
    elim (bad_else (ltb (length bytes) 4) (Ok (from_be_bytes w32 (take 4 bytes), drop 4 bytes)) is_cut e h) [
      | inl g ↦ cut_at Number bytes e g.1 (ltb-true _ _ g.0) (right_number bytes)
      | inr g ↦ absurd (let k = g.1 in cc)
    ]
wrongly Wide bytes e bb h =
    elim (bad_else (ltb (length bytes) 8) (Ok (cast_signed w64 (from_be_bytes w64 (take 8 bytes)), drop 8 bytes)) is_cut e h) [
      | inl g ↦ cut_at Wide bytes e g.1 (ltb-true _ _ g.0) (right_wide bytes)
      | inr g ↦ absurd (let k = g.1 in cc)
    ]
wrongly Truth [] e bb h = cut_at Truth [] e (cc) (omega arith) (λ n w. elim w [ ])
wrongly Truth (b ∷ rest) e bb h =
    elim (bad_else (ltb 1 b) _ (not_canonical, length (b ∷ rest)) e h) [
      | inl g ↦ wrong_at Truth (b ∷ rest) _ e g.1 (no_truth b rest (ltb-true _ _ g.0))
      | inr g ↦ absurd (let k = g.1 in cc)
    ]
wrongly Text bytes e bb h =
    elim (bad_else (ltb longest_text (announced bytes)) _ (bad_text, length bytes) e h) [
      | inl g ↦ wrong_at Text bytes _ e g.1 (too_long bytes (ltb-true _ _ g.0))
      | inr short ↦ elim (bad_else (ltb (length bytes) (4 + announced bytes)) _ is_cut e short.1) [
        | inl g ↦ cut_at Text bytes e g.1 (ltb-true _ _ g.0) (λ n. right_text bytes n (ltb-false _ _ short.0) (ltb-true _ _ g.0))
        | inr whole ↦ let g = bad (is_utf8 (content bytes)) _ (bad_text, length bytes) e whole.1 in wrong_at Text bytes _ e g.1 (no_utf8 bytes (ltb-false _ _ whole.0) g.0)
      ]
    ]
wrongly Name bytes e bb h =
    elim (bad_else (ltb (length bytes) (4 + announced bytes)) _ is_cut e h) [
      | inl g ↦ cut_at Name bytes e g.1 (ltb-true _ _ g.0) (λ n. right_name bytes n (ltb-true _ _ g.0))
      | inr whole ↦ let g = bad (is_name (content bytes)) _ (bad_text, length bytes) e whole.1 in wrong_at Name bytes _ e g.1 (no_name bytes (ltb-false _ _ whole.0) g.0)
    ]
wrongly (Short test) bytes e bb h = short_wrongly test bytes e bb h
wrongly Zig bytes e bb h = zig_wrongly bytes e bb h
wrongly (Brief most test) bytes e bb h = brief_wrongly most test bytes e bb h
wrongly (Check None) bytes e bb h = absurd cc
wrongly (Check (Some n)) bytes e bb h = wrong_at (Check (Some n)) bytes n e (cc) (refused_here n bytes)
wrongly Deeper [] e bb h = cut_at Deeper [] e (cc) (omega arith) (λ n w. elim w [ ])
wrongly Deeper (b ∷ rest) e bb h = wrong_at Deeper (b ∷ rest) too_deep e (cc) (deeper b rest)

-- something wrong is seen
seen : (f : Field) (bytes : List ℕ) (n : ℕ) → IsBytes bytes → Wrong f bytes n → look f bytes ≡ Err (n, length bytes)
unfolding look
seen _ _ _ bb (no_such_tag {test = test} b rest h) = ap (λ v. cond v (Ok (b, rest)) (Err (bad_tag, length (b ∷ rest)))) h
seen _ _ _ bb (no_truth b rest h) = let t = lt-ltb 1 b h in rw t refl
seen _ _ _ bb (too_long bytes h) = let t = lt-ltb longest_text (announced bytes) h in rw t refl
seen _ _ _ bb (no_utf8 bytes h u) =
    elim (cases_lt longest_text (announced bytes)) [
      | inl l ↦ let t = lt-ltb longest_text (announced bytes) l in rw t refl
      | inr l ↦ let short : ltb longest_text (announced bytes) ≡ false = le-ltb _ _ l in
          let whole : ltb (length bytes) (4 + announced bytes) ≡ false = le-ltb _ _ h in
          rw (short, whole, u) refl
    ]
seen _ _ _ bb (no_name bytes h u) = let whole : ltb (length bytes) (4 + announced bytes) ≡ false = le-ltb _ _ h in rw (whole, u) refl
seen (Short test) _ _ bb (no_short bytes none) = short_seen test bytes _ bb (no_short bytes none)
seen (Short test) _ _ bb (refused_number n number rest h t) = short_seen test _ number bb (refused_number n number rest h t)
seen _ _ _ bb (no_zig bytes none) = zig_seen bytes _ bb (no_zig bytes none)
seen (Brief most test) _ _ bb (no_length bytes none) = brief_seen most test bytes _ bb (no_length bytes none)
seen (Brief most test) _ _ bb (too_much n rest h m) = brief_seen most test _ _ bb (too_much n rest h m)
seen (Brief most test) _ _ bb (refused_bytes bytes rest number h few t) = brief_seen most test _ number bb (refused_bytes bytes rest number h few t)
seen _ _ _ bb (refused_here number bytes) = refl
seen _ _ _ bb (deeper b rest) = refl

-- a field that lacks bytes is seen to
lacking : (f : Field) (bytes : List ℕ) → IsBytes bytes → length bytes < needs f bytes → ((n : ℕ) → ¬ Wrong f bytes n) → look f bytes ≡ Err is_cut
unfolding look
lacking (Tag test) [] bb h w = refl
lacking (Tag test) (b ∷ rest) bb h w = absurd (omega arith)
lacking Byte [] bb h w = refl
lacking Byte (b ∷ rest) bb h w = absurd (omega arith)
lacking Number bytes bb h w = let t = lt-ltb _ _ h in rw t refl
lacking Wide bytes bb h w = let t = lt-ltb _ _ h in rw t refl
lacking Truth [] bb h w = refl
lacking Truth (b ∷ rest) bb h w = absurd (omega arith)
lacking Text bytes bb h w =
    elim (cases_lt longest_text (announced bytes)) [
      | inl l ↦ absurd (w bad_text (too_long bytes l))
      | inr l ↦ let short : ltb longest_text (announced bytes) ≡ false = le-ltb _ _ l in
          let t = lt-ltb _ _ h in
          rw (short, t) refl
    ]
lacking Name bytes bb h w = let t = lt-ltb _ _ h in rw t refl
lacking (Short test) bytes bb h w = short_lacking test bytes bb h w
lacking Zig bytes bb h w = zig_lacking bytes bb h w
lacking (Brief most test) bytes bb h w = brief_lacking most test bytes bb h w
lacking (Check refused) bytes bb h w = absurd (omega arith)
lacking Deeper [] bb h w = refl
lacking Deeper (b ∷ rest) bb h w = absurd (omega arith)

pub refused : (f : Field) (bytes : List ℕ) (number left : ℕ) → IsBytes bytes → Violates f bytes number left → look f bytes ≡ Err (number, left)
refused f bytes _ _ bb (wrong {number = n} w) = seen f bytes n bb w
refused f bytes _ _ bb (cut h w) = lacking f bytes bb h w
