-- The tokens of printed programs have their forms.
use Rattle.std.proofs.Common.{◌≡◌, ℕ, ◌+◌, ◌<◌, ◌≤◌, ◌^◌, ◌%◌, ◌&&◌, eqb, ltb, cond, Bool, true, false, List, [], ◌∷◌, ◌++◌, refl, sym, ap, subst, ◌∙◌, arith, Some, IsUtf8, ltb-false, ltb-true, ne_eqb}
use Rattle.std.proofs.lemmas.Bool.{and_from, and_parts}
use Rattle.std.proofs.lemmas.Bool.Decides.{nat_tests}
use Rattle.std.proofs.lemmas.Fmt.{decimal_by_steps}
use Rattle.std.specs.Fmt.{decimal}
use Rattle.std.specs.Prelude.{codes}
use Rattle.std.specs.List.{list_all}
use Rattle.std.proofs.lemmas.List.Folds.{list_all-append}
use Rattle.std.proofs.lemmas.Str.{IsUtf8-append, IsUtf8-nil, IsUtf8-encode, encode_ascii}
use Rattle.std.proofs.Math.Utf8.{encode, encodes, scalar, scalars}
use Rattle.rb_trees.specs.declared.tokens.TokenKind.TheVariants as kinds
use Rattle.rb_trees.specs.printing.Words.{escaped, all_escaped}
use Rattle.rb_meaning_bytes.specs.tokens.Bytes.{is_letter, is_digit, is_word_byte, is_separator, is_plain, is_escaped}
use Rattle.rb_meaning_bytes.specs.tokens.Forms.{Form, IsWord, IsNumber, Body, empty, plain, escape}
use Rattle.rb_meaning_bytes.specs.tokens.Tables.{signs, number_in}
use Rattle.rb_parse.proofs.lawful.Utf8.{AllHigh, encode_high, ascii_first}
use Rattle.rb_parse.proofs.printing.lexed.Slices.{sign_ascii}

-- ASCII text is UTF-8

all_utf8 : (p : ℕ → Bool) → ((b : ℕ) → p b ≡ true → b < 128) → (bs : List ℕ) → list_all p bs ≡ true → IsUtf8 bs
all_utf8 p low [] h = IsUtf8-nil
all_utf8 p low (b ∷ bs) h = ascii_first b bs (low b (and_parts (p b) _ h).0) (all_utf8 p low bs (and_parts (p b) _ h).1)

letter_low : (b : ℕ) → is_letter b ≡ true → b < 128
unfolding is_letter
letter_low b h = grind (arith, nat_tests)

word_low : (b : ℕ) → is_word_byte b ≡ true → b < 128
unfolding is_word_byte is_letter is_digit
word_low b h = grind (arith, nat_tests)

digit_low : (b : ℕ) → is_digit b ≡ true → b < 128
unfolding is_digit
digit_low b h = grind (arith, nat_tests)

separator_low : (b : ℕ) → is_separator b ≡ true → b < 128
unfolding is_separator
separator_low b h = grind (arith, nat_tests)

pub word_utf8 : (w : List ℕ) → IsWord w → IsUtf8 w
word_utf8 [] h = absurd h
word_utf8 (b ∷ bs) h = ascii_first b bs (letter_low b h.0) (all_utf8 is_word_byte word_low bs h.1)

pub number_utf8 : (w : List ℕ) → IsNumber w → IsUtf8 w
number_utf8 [] h = absurd h
number_utf8 (b ∷ bs) h = ascii_first b bs (digit_low b h.0) (all_utf8 is_digit digit_low bs h.1)

pub separators_utf8 : (w : List ℕ) → list_all is_separator w ≡ true → IsUtf8 w
separators_utf8 w h = all_utf8 is_separator separator_low w h

pub sign_utf8 : (w : List ℕ) (n : ℕ) → number_in signs w ≡ Some n → IsUtf8 w
sign_utf8 w n h = all_utf8 (λ b. ltb b 128) (λ b l. ltb-true b 128 l) w (sign_ascii w n h)

-- numbers

digit_is : (n : ℕ) → n < 10 → is_digit (48 + n) ≡ true
unfolding is_digit
digit_is n h = grind (arith, nat_tests)

number_more : (ds : List ℕ) (d : ℕ) → is_digit d ≡ true → IsNumber ds → IsNumber (ds ++ d ∷ [])
number_more [] d h f = absurd f
number_more (b ∷ bs) d h f = (f.0, list_all-append is_digit bs (d ∷ []) ∙ and_from (list_all is_digit bs) (is_digit d && true) f.1 (and_from (is_digit d) true h refl))

pub decimal_number : (n : ℕ) → n < 2 ^ 64 → IsNumber (decimal n)
decimal_number n h = decimal_by_steps (λ m ds. IsNumber ds) one more n h
  where
    one : (m : ℕ) → m < 10 → IsNumber ((48 + m) ∷ [])
    one m l = (digit_is m l, refl)

    more : (m : ℕ) (ds : List ℕ) → 10 ≤ m → IsNumber ds → IsNumber (ds ++ (48 + m % 10) ∷ [])
    more m ds l f = number_more ds (48 + m % 10) (digit_is (m % 10) (omega arith)) f

-- text literals

escaped_body : (b : ℕ) (bs : List ℕ) (line quoted back : Bool) → eqb b 10 ≡ line → eqb b 34 ≡ quoted → eqb b 92 ≡ back → Body bs
    → Body (cond line (codes "\\n") (cond quoted (codes "\\\"") (cond back (codes "\\\\") (b ∷ []))) ++ bs)
unfolding is_escaped is_plain
escaped_body b bs true quoted back h1 h2 h3 d = escape 110 refl d
escaped_body b bs false true back h1 h2 h3 d = escape 34 refl d
escaped_body b bs false false true h1 h2 h3 d = escape 92 refl d
escaped_body b bs false false false h1 h2 h3 d = plain b (grind (arith, nat_tests)) d

all_escaped_body : (t : List ℕ) → Body (all_escaped t)
all_escaped_body [] = empty
all_escaped_body (b ∷ bs) = escaped_body b (all_escaped bs) (eqb b 10) (eqb b 34) (eqb b 92) refl refl refl (all_escaped_body bs)

pub literal_form : (t : List ℕ) → Form kinds.TextLit (codes "\"" ++ all_escaped t ++ codes "\"")
literal_form t = (all_escaped t, refl, all_escaped_body t)

-- escaping keeps UTF-8

escaped_high : (x : ℕ) → 128 ≤ x → escaped x ≡ x ∷ []
escaped_high x h =
    let l : eqb x 10 ≡ false = ne_eqb x 10 (λ k. omega arith) in
    let q : eqb x 34 ≡ false = ne_eqb x 34 (λ k. omega arith) in
    let b : eqb x 92 ≡ false = ne_eqb x 92 (λ k. omega arith) in
    rw (l, q, b) refl

escaped_highs : (l bs : List ℕ) → AllHigh l → all_escaped (l ++ bs) ≡ l ++ all_escaped bs
escaped_highs [] bs h = refl
escaped_highs (x ∷ l) bs h = ap (λ v. v ++ all_escaped (l ++ bs)) (escaped_high x h.0) ∙ ap (λ v. x ∷ v) (escaped_highs l bs h.1)

escaped_low : (c : ℕ) (line quoted back : Bool) (bs : List ℕ) → c < 128 → IsUtf8 bs → IsUtf8 (cond line (codes "\\n") (cond quoted (codes "\\\"") (cond back (codes "\\\\") (c ∷ []))) ++ bs)
escaped_low c true quoted back bs h u = ascii_first 92 (110 ∷ bs) (omega arith) (ascii_first 110 bs (omega arith) u)
escaped_low c false true back bs h u = ascii_first 92 (34 ∷ bs) (omega arith) (ascii_first 34 bs (omega arith) u)
escaped_low c false false true bs h u = ascii_first 92 (92 ∷ bs) (omega arith) (ascii_first 92 bs (omega arith) u)
escaped_low c false false false bs h u = ascii_first c bs h u

char_escaped : (b : Bool) (c : ℕ) (bs : List ℕ) → ltb c 128 ≡ b → scalar c ≡ true → IsUtf8 (all_escaped bs) → IsUtf8 (all_escaped (encode c ++ bs))
char_escaped true c bs h k u =
    let l : c < 128 = ltb-true c 128 h in
    subst (λ v. IsUtf8 (all_escaped (v ++ bs))) (sym (encode_ascii c l)) (escaped_low c (eqb c 10) (eqb c 34) (eqb c 92) (all_escaped bs) l u)
char_escaped false c bs h k u =
    let l : 128 ≤ c = ltb-false c 128 h in
    subst IsUtf8 (sym (escaped_highs (encode c) bs (encode_high c l))) (IsUtf8-append (encode c) (all_escaped bs) (IsUtf8-encode c k) u)

chars_escaped : (cs : List ℕ) → scalars cs ≡ true → IsUtf8 (all_escaped (encodes cs))
chars_escaped [] h = IsUtf8-nil
chars_escaped (c ∷ cs) h = char_escaped (ltb c 128) c (encodes cs) refl (and_parts (scalar c) (scalars cs) h).0 (chars_escaped cs (and_parts (scalar c) (scalars cs) h).1)

pub literal_utf8 : (t : List ℕ) → IsUtf8 t → IsUtf8 (codes "\"" ++ all_escaped t ++ codes "\"")
literal_utf8 t u =
    ascii_first 34 (all_escaped t ++ 34 ∷ []) (omega arith)
    (IsUtf8-append (all_escaped t) (34 ∷ []) (subst (λ v. IsUtf8 (all_escaped v)) u.1.1 (chars_escaped u.0 u.1.0)) (ascii_first 34 [] (omega arith) IsUtf8-nil))
