-- The laws of fields in groups: looking at one gives the value that the bytes spell, or what is violated.
use Rattle.std.proofs.Common.{◌≡◌, ℕ, ℤ, ◌<◌, ◌^◌, true, false, List, ◌++◌, length, Option, None, Some, Ok, Err, refl, ap, sym, ◌∙◌, subst, arith, inl}
use Rattle.std.specs.Int.{w64}
use Rattle.std.specs.Int.RustNames.{FitsSigned}
use Rattle.rb_meaning_bytes.specs.formats.Shorts.{short, zig, groups, folded, unfolded, Groups, read_groups}
use Rattle.rb_meaning_bytes.specs.formats.Fields.{Test, IsBytes, Short, Zig, needs, Wrong, no_short, refused_number, no_zig, Violates, not_canonical}
use Rattle.rb_meaning_bytes.specs.formats.Reading.{Fault, Read, on, look, is_cut, of_groups, unrefused}
use Rattle.rb_meaning_bytes.proofs.formats.FieldParts.{Took, rest_bytes, cut_at, wrong_at}
use Rattle.rb_meaning_bytes.proofs.formats.ShortLaws.{the_pair, short_took, short_again, short_cut, short_bad, bad_short, lacks_short, folded_back, unfolded_back, folded_fits, unfolded_fits}

-- ---- numbers that pass a test

-- what looking answers once the groups were read
abbrev numbered : Test ℕ → List ℕ → Groups → Read ℕ
numbered test bytes r = on (of_groups bytes r) (λ n rest. unrefused (test n) bytes (Ok (n, rest)))

pub short_took_field : (test : Test ℕ) (bytes : List ℕ) (x : ℕ × List ℕ) → IsBytes bytes → look (Short test) bytes ≡ Ok x → Took (Short test) bytes x
unfolding look short
short_took_field test bytes x b e = go (read_groups 16 4 bytes) refl e
  where
    tested : (y : ℕ × List ℕ) (v : Option ℕ) → test y.0 ≡ v → read_groups 16 4 bytes ≡ Ok y → unrefused v bytes (Ok (the_pair y.0 y.1)) ≡ Ok x → Took (Short test) bytes x
    tested y None t i h =
        let j : the_pair y.0 y.1 ≡ x = cc in
        let s = short_took 16 4 bytes y (omega arith) (omega arith) b i in
        subst (λ z. Took (Short test) bytes z) j (record { is = s.is; fits = (s.fits, t); rest_fits = rest_bytes bytes (groups 4 y.0) y.1 s.is b })
    tested y (Some n) t i h = absurd cc

    go : (r : Groups) → read_groups 16 4 bytes ≡ r → numbered test bytes r ≡ Ok x → Took (Short test) bytes x
    go (Ok y) i h = tested y (test y.0) refl i h
    go (Err true) i h = absurd cc
    go (Err false) i h = absurd cc

pub short_again_field : (test : Test ℕ) (n : ℕ) (rest : List ℕ) → n < 2 ^ 32 → test n ≡ None → look (Short test) (short n ++ rest) ≡ Ok (n, rest)
unfolding look short
short_again_field test n rest h t = ap (numbered test (groups 4 n ++ rest)) (short_again 16 4 n rest h) ∙ ap (λ v. unrefused v (groups 4 n ++ rest) (Ok (n, rest))) t

-- Where bytes lack, nothing is wrong.
right_short : (test : Test ℕ) (bytes : List ℕ) (n : ℕ) → IsBytes bytes → read_groups 16 4 bytes ≡ Err true → Wrong (Short test) bytes n → ⊥
unfolding short
right_short _ _ _ b e (no_short bytes none) = let t = short_cut 16 4 bytes (omega arith) b e in none t.number t.fits (inl (t.more, t.is))
right_short _ _ _ b e (refused_number n number rest h t) = let s = short_again 16 4 n rest h in absurd cc

pub short_wrongly : (test : Test ℕ) (bytes : List ℕ) (e : Fault) → IsBytes bytes → look (Short test) bytes ≡ Err e → Violates (Short test) bytes e.0 e.1
unfolding look short
short_wrongly test bytes e b h = go (read_groups 16 4 bytes) refl h
  where
    tested : (y : ℕ × List ℕ) (v : Option ℕ) → test y.0 ≡ v → read_groups 16 4 bytes ≡ Ok y → unrefused v bytes (Ok (the_pair y.0 y.1)) ≡ Err e → Violates (Short test) bytes e.0 e.1
    tested y None t i j = absurd cc
    tested y (Some n) t i j =
        let s = short_took 16 4 bytes y (omega arith) (omega arith) b i in
        wrong_at (Short test) bytes n e (cc) (subst (λ l. Wrong (Short test) l n) (sym s.is) (refused_number y.0 n y.1 s.fits t))

    go : (r : Groups) → read_groups 16 4 bytes ≡ r → numbered test bytes r ≡ Err e → Violates (Short test) bytes e.0 e.1
    go (Ok y) i j = tested y (test y.0) refl i j
    go (Err true) i j = let t = short_cut 16 4 bytes (omega arith) b i in cut_at (Short test) bytes e (cc) t.short (λ n w. right_short test bytes n b i w)
    go (Err false) i j = wrong_at (Short test) bytes not_canonical e (cc) (no_short bytes (short_bad 16 4 bytes (omega arith) (omega arith) b i))

pub short_seen : (test : Test ℕ) (bytes : List ℕ) (n : ℕ) → IsBytes bytes → Wrong (Short test) bytes n → look (Short test) bytes ≡ Err (n, length bytes)
unfolding look short
short_seen test _ _ b (no_short bytes none) = ap (numbered test bytes) (bad_short 16 4 bytes (omega arith) (omega arith) b none)
short_seen test _ _ b (refused_number n number rest h t) =
    ap (numbered test (groups 4 n ++ rest)) (short_again 16 4 n rest h) ∙ ap (λ v. unrefused v (groups 4 n ++ rest) (Ok (n, rest))) t

pub short_lacking : (test : Test ℕ) (bytes : List ℕ) → IsBytes bytes → length bytes < needs (Short test) bytes → ((n : ℕ) → ¬ Wrong (Short test) bytes n) → look (Short test) bytes ≡ Err is_cut
unfolding look
short_lacking test bytes b h w = ap (numbered test bytes) (lacks_short 16 4 bytes (omega arith) (omega arith) b h (λ none. w not_canonical (no_short bytes none)))

-- ---- signed numbers

abbrev signed : List ℕ → Groups → Read ℤ
signed bytes r = on (of_groups bytes r) (λ n rest. Ok (unfolded n, rest))

abbrev a_signed : ℤ → List ℕ → ℤ × List ℕ
a_signed z rest = (z, rest)

pub zig_took : (bytes : List ℕ) (x : ℤ × List ℕ) → IsBytes bytes → look Zig bytes ≡ Ok x → Took Zig bytes x
unfolding look zig
zig_took bytes x b e = go (read_groups 2 9 bytes) refl e
  where
    go : (r : Groups) → read_groups 2 9 bytes ≡ r → signed bytes r ≡ Ok x → Took Zig bytes x
    go (Ok y) i h =
        let j : a_signed (unfolded y.0) y.1 ≡ x = cc in
        let s = short_took 2 9 bytes y (omega arith) (omega arith) b i in
        subst (λ z. Took Zig bytes z) j (record {
          is = s.is ∙ ap (λ k. groups 9 k ++ y.1) (sym (unfolded_back y.0));
          fits = unfolded_fits y.0 s.fits;
          rest_fits = rest_bytes bytes (groups 9 y.0) y.1 s.is b;
        })
    go (Err true) i h = absurd cc
    go (Err false) i h = absurd cc

pub zig_again : (z : ℤ) (rest : List ℕ) → FitsSigned w64 z → look Zig (zig z ++ rest) ≡ Ok (z, rest)
unfolding look zig
zig_again z rest h = ap (signed (groups 9 (folded z) ++ rest)) (short_again 2 9 (folded z) rest (folded_fits z h)) ∙ ap (λ y. Ok (a_signed y rest)) (folded_back z)

right_zig : (bytes : List ℕ) (n : ℕ) → IsBytes bytes → read_groups 2 9 bytes ≡ Err true → Wrong Zig bytes n → ⊥
right_zig _ _ b e (no_zig bytes none) = let t = short_cut 2 9 bytes (omega arith) b e in none t.number t.fits (inl (t.more, t.is))

pub zig_wrongly : (bytes : List ℕ) (e : Fault) → IsBytes bytes → look Zig bytes ≡ Err e → Violates Zig bytes e.0 e.1
unfolding look
zig_wrongly bytes e b h = go (read_groups 2 9 bytes) refl h
  where
    go : (r : Groups) → read_groups 2 9 bytes ≡ r → signed bytes r ≡ Err e → Violates Zig bytes e.0 e.1
    go (Ok y) i j = absurd cc
    go (Err true) i j = let t = short_cut 2 9 bytes (omega arith) b i in cut_at Zig bytes e (cc) t.short (λ n w. right_zig bytes n b i w)
    go (Err false) i j = wrong_at Zig bytes not_canonical e (cc) (no_zig bytes (short_bad 2 9 bytes (omega arith) (omega arith) b i))

pub zig_seen : (bytes : List ℕ) (n : ℕ) → IsBytes bytes → Wrong Zig bytes n → look Zig bytes ≡ Err (n, length bytes)
unfolding look
zig_seen _ _ b (no_zig bytes none) = ap (signed bytes) (bad_short 2 9 bytes (omega arith) (omega arith) b none)

pub zig_lacking : (bytes : List ℕ) → IsBytes bytes → length bytes < needs Zig bytes → ((n : ℕ) → ¬ Wrong Zig bytes n) → look Zig bytes ≡ Err is_cut
unfolding look
zig_lacking bytes b h w = ap (signed bytes) (lacks_short 2 9 bytes (omega arith) (omega arith) b h (λ none. w not_canonical (no_zig bytes none)))
