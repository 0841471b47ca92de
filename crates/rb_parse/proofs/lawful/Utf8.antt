-- The value of a text literal is UTF-8, where the text is.
use Rattle.std.proofs.Common.{◌≡◌, ℕ, ◌+◌, ◌<◌, ◌≤◌, ◌==◌, Bool, true, false, cond, ltb, List, [], ◌∷◌, ◌++◌, length, get_or, take, drop, refl, ap, sym, subst, ◌∙◌, arith, IsUtf8, le-ltb, ltb-false, ltb-true, ne_eqb, append_assoc, take-append-drop, length-drop, get_or-drop, drop-drop}
use Rattle.std.proofs.lemmas.Bool.{and_parts}
use Rattle.std.proofs.lemmas.Bool.Decides.{nat_tests}
use Rattle.std.proofs.lemmas.Str.{IsUtf8-append, IsUtf8-nil, IsUtf8-encode, IsUtf8-from_ascii, IsUtf8-drop, IsCharBoundary-after_ascii, encode_ascii, length-encode, len_utf8_bounds}
use Rattle.std.proofs.lemmas.Str.Ascii.{IsAscii-cons}
use Rattle.std.proofs.Math.Utf8.{encode, encodes, scalar, scalars}
use Rattle.rb_meaning_bytes.specs.tokens.Bytes.{is_plain, quote, backslash, letter_n, line_feed}
use Rattle.rb_meaning_bytes.specs.tokens.Forms.{Body, empty, plain, escape, IsLiteral}
use Rattle.rb_meaning_bytes.specs.tokens.Values.{unescaped, escape_value, text_value}

-- each byte is above ASCII
abbrev pub AllHigh : List ℕ → Type 0
AllHigh [] = Unit {0}
AllHigh (b ∷ bs) = (128 ≤ b) × AllHigh bs

high_cases : (c : ℕ) (one two three : Bool) (l m n : List ℕ) → one ≡ false → AllHigh l → AllHigh m → AllHigh n → AllHigh (cond one (c ∷ []) (cond two l (cond three m n)))
high_cases c true two three l m n h x y z = cc
high_cases c false true three l m n h x y z = x
high_cases c false false true l m n h x y z = y
high_cases c false false false l m n h x y z = z

pub encode_high : (c : ℕ) → 128 ≤ c → AllHigh (encode c)
unfolding encode
encode_high c h =
    high_cases c (ltb c 128) (ltb c 2048) (ltb c 65536) _ _ _ (le-ltb c 128 h)
    (omega arith, (omega arith, tt)) (omega arith, (omega arith, (omega arith, tt))) (omega arith, (omega arith, (omega arith, (omega arith, tt))))

-- above ASCII a byte stands for itself
escape_high : (x : ℕ) → 128 ≤ x → escape_value x ≡ x
unfolding escape_value
escape_high x h = let e : (x == letter_n) ≡ false = ne_eqb x letter_n (λ k. omega arith) in rw e refl

unescaped_high : (e : Bool) (x : ℕ) (bs : List ℕ) → 128 ≤ x → unescaped e (x ∷ bs) ≡ x ∷ unescaped false bs
unescaped_high true x bs h = ap (λ v. v ∷ unescaped false bs) (escape_high x h)
unescaped_high false x bs h =
    let q : (x == quote) ≡ false = ne_eqb x quote (λ k. omega arith) in
    let b : (x == backslash) ≡ false = ne_eqb x backslash (λ k. omega arith) in
    rw (q, b) refl

unescaped_highs : (e : Bool) (l bs : List ℕ) → AllHigh l → 0 < length l → unescaped e (l ++ bs) ≡ l ++ unescaped false bs
unescaped_highs e [] bs h n = absurd (omega arith)
unescaped_highs e (x ∷ []) bs h n = unescaped_high e x bs h.0
unescaped_highs e (x ∷ y ∷ l) bs h n = unescaped_high e x (y ∷ l ++ bs) h.0 ∙ ap (λ v. x ∷ v) (unescaped_highs false (y ∷ l) bs h.1 (omega arith))

pub ascii_first : (c : ℕ) (bs : List ℕ) → c < 128 → IsUtf8 bs → IsUtf8 (c ∷ bs)
ascii_first c bs h u = IsUtf8-append (c ∷ []) bs (IsUtf8-from_ascii (c ∷ []) (IsAscii-cons c [] h (λ i. omega arith))) u

escape_low : (c : ℕ) → c < 128 → escape_value c < 128
unfolding escape_value
escape_low c h = by (c == letter_n)
  where
    by : (b : Bool) → cond b line_feed c < 128
    by true = omega arith
    by false = h

low_utf8 : (e : Bool) (c : ℕ) (bs : List ℕ) → c < 128 → ((d : Bool) → IsUtf8 (unescaped d bs)) → IsUtf8 (unescaped e (c ∷ bs))
low_utf8 true c bs h u = ascii_first (escape_value c) (unescaped false bs) (escape_low c h) (u false)
low_utf8 false c bs h u = by (c == quote) (c == backslash)
  where
    by : (q b : Bool) → IsUtf8 (cond q [] (cond b (unescaped true bs) (c ∷ unescaped false bs)))
    by true b = IsUtf8-nil
    by false true = u true
    by false false = ascii_first c (unescaped false bs) h (u false)

char_utf8 : (b e : Bool) (c : ℕ) (bs : List ℕ) → ltb c 128 ≡ b → scalar c ≡ true → ((d : Bool) → IsUtf8 (unescaped d bs)) → IsUtf8 (unescaped e (encode c ++ bs))
char_utf8 true e c bs h k u =
    let l : c < 128 = ltb-true c 128 h in
    subst (λ v. IsUtf8 (unescaped e (v ++ bs))) (sym (encode_ascii c l)) (low_utf8 e c bs l u)
char_utf8 false e c bs h k u =
    let l : 128 ≤ c = ltb-false c 128 h in
    subst IsUtf8 (sym (unescaped_highs e (encode c) bs (encode_high c l) (omega (arith, length-encode c, (len_utf8_bounds c).0))))
    (IsUtf8-append (encode c) (unescaped false bs) (IsUtf8-encode c k) (u false))

chars_utf8 : (cs : List ℕ) → scalars cs ≡ true → (e : Bool) → IsUtf8 (unescaped e (encodes cs))
chars_utf8 [] h e = IsUtf8-nil
chars_utf8 (c ∷ cs) h e = char_utf8 (ltb c 128) e c (encodes cs) refl (and_parts (scalar c) (scalars cs) h).0 (chars_utf8 cs (and_parts (scalar c) (scalars cs) h).1)

unescaped_utf8 : (e : Bool) (bs : List ℕ) → IsUtf8 bs → IsUtf8 (unescaped e bs)
unescaped_utf8 e bs u = subst (λ v. IsUtf8 (unescaped e v)) u.1.1 (chars_utf8 u.0 u.1.0 e)

-- the value of a literal ends at its second quote, whatever follows

plain_apart : (b : ℕ) → is_plain b ≡ true → ((b == quote) ≡ false) × ((b == backslash) ≡ false)
unfolding is_plain
plain_apart b h = (grind (arith, nat_tests), grind (arith, nat_tests))

body_value : {body : List ℕ} (rest : List ℕ) → Body body → unescaped false (body ++ quote ∷ rest) ≡ unescaped false (body ++ quote ∷ [])
body_value rest empty = refl
body_value rest (plain {body} b p d) =
    let a = plain_apart b p in
    let h = a.0 in
    let g = a.1 in
    let i : b ∷ unescaped false (body ++ quote ∷ rest) ≡ b ∷ unescaped false (body ++ quote ∷ []) = ap (λ v. b ∷ v) (body_value rest d) in
    rw (h, g) i
body_value rest (escape {body} b p d) = ap (λ v. escape_value b ∷ v) (body_value rest d)

first_is : (b : ℕ) (bs l : List ℕ) → l ≡ b ∷ bs → get_or l 0 0 ≡ b
first_is b bs l h = ap (λ v. get_or v 0 0) h

longer : (b : ℕ) (bs l : List ℕ) → l ≡ b ∷ bs → 0 < length l
longer b bs l h = omega (arith, ap length h)

-- The value of a literal that stands in a text is UTF-8.
pub literal_utf8 : (source : List ℕ) (start size : ℕ) → IsUtf8 source → IsLiteral (take size (drop start source)) → IsUtf8 (text_value (take size (drop start source)))
literal_utf8 source start size u f =
    let rest = drop start source in
    let body = f.0 in
    let more = body ++ quote ∷ drop size rest in
    let w : rest ≡ quote ∷ more = sym (take-append-drop size rest) ∙ ap (λ v. v ++ drop size rest) f.1 ∙ ap (λ v. quote ∷ v) (append_assoc body (quote ∷ []) (drop size rest)) in
    let l : start < length source = omega (arith, longer quote more rest w, length-drop start source) in
    let z : start + 0 ≡ start = omega arith in
    let q : get_or source start 0 ≡ quote = ap (λ k. get_or source k 0) (sym z) ∙ sym (get_or-drop start source 0 0) ∙ first_is quote more rest w in
    let d : drop (start + 1) source ≡ more = sym (drop-drop 1 start source) ∙ ap (drop 1) w in
    let v : IsUtf8 more = subst IsUtf8 d (IsUtf8-drop source (start + 1) u (IsCharBoundary-after_ascii source start u l (omega (arith, q)))) in
    subst IsUtf8 (body_value (drop size rest) f.2 ∙ ap text_value (sym f.1)) (unescaped_utf8 false more v)
