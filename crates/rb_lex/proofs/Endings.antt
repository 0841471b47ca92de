-- Steps of the loops over text literals.
use Rattle.std.proofs.Common.{◌≡◌, ℕ, ◌+◌, ◌<◌, ◌≤◌, true, false, eqb, List, [], ◌∷◌, ◌++◌, length, get_or, drop, refl, sym, ap, ◌∙◌, append_assoc, arith, Option, None, Some}
use Rattle.std.proofs.lemmas.List.{drop_more, drop_all, drop-drop, append-nil}
use Rattle.std.proofs.lemmas.Bool.Decides.{nat_tests}
use Rattle.rb_meaning_bytes.specs.tokens.Bytes.{makes_escape}
use Rattle.rb_meaning_bytes.specs.tokens.Values.{unescaped, escape_value}
use Rattle.rb_lex.specs.declared.literals.End.{End}
use Rattle.rb_lex.specs.declared.literals.End.TheVariants.{Closes, Breaks, Never}
use Rattle.rb_lex.specs.Ends.{later, broken, text_end, end_at_quote, first_bad, found_later}

closes_same : {m n size more : ℕ} → m ≡ n → size ≡ more → Closes m size ≡ Closes n more
closes_same h g = cc

pub later_found : (bad : Option ℕ) (n size k j : ℕ) (e : End) → found_later bad n size (later k j e) ≡ found_later bad (n + k) (size + j) e
later_found bad n size k j Never = refl
later_found None n size k j (Closes m v) = closes_same (omega arith) (omega arith)
later_found None n size k j (Breaks m) = ap Breaks (omega arith)
later_found (Some at) n size k j (Closes m v) = refl
later_found (Some at) n size k j (Breaks m) = refl

broken_found : (bad : Option ℕ) (n size : ℕ) (e : End) → found_later bad n size (broken (later 1 1 e)) ≡ found_later (first_bad bad n) (n + 1) (size + 1) e
broken_found bad n size Never = refl
broken_found None n size (Closes m v) = ap Breaks (omega arith)
broken_found None n size (Breaks m) = ap Breaks (omega arith)
broken_found (Some at) n size (Closes m v) = refl
broken_found (Some at) n size (Breaks m) = refl

-- what text_end tells by the byte at the head
pub end_quote : (b : ℕ) (bs : List ℕ) → eqb b 34 ≡ true → text_end false (b ∷ bs) ≡ Closes 0 0
unfolding text_end
end_quote b bs h = rw h

pub end_line : (b : ℕ) (bs : List ℕ) → eqb b 34 ≡ false → eqb b 10 ≡ true → text_end false (b ∷ bs) ≡ Never
unfolding text_end
end_line b bs h g = rw (h, g)

pub end_plain : (b : ℕ) (bs : List ℕ) → eqb b 34 ≡ false → eqb b 10 ≡ false → eqb b 92 ≡ false → text_end false (b ∷ bs) ≡ later 1 1 (text_end false bs)
unfolding text_end
end_plain b bs h g k = rw (h, g, k)

pub end_bad : (bs : List ℕ) → makes_escape bs ≡ false → text_end false (92 ∷ bs) ≡ broken (later 1 1 (text_end false bs))
unfolding text_end
end_bad bs h = rw h

pub end_escape : (b : ℕ) (bs : List ℕ) → makes_escape (b ∷ bs) ≡ true → text_end false (92 ∷ b ∷ bs) ≡ later 1 1 (later 1 0 (text_end false bs))
unfolding text_end
end_escape b bs h = rw h

pub end_nothing : text_end false [] ≡ Never
unfolding text_end
end_nothing = refl

at_place : (bad : Option ℕ) (n size : ℕ) (s : List ℕ) → n < length s → found_later bad n size (text_end false (drop n s)) ≡ found_later bad n size (text_end false (get_or s n 0 ∷ drop (n + 1) s))
at_place bad n size s l = ap (λ r. found_later bad n size (text_end false r)) (drop_more s n 0 l)

not_eqb : (a b : ℕ) → ¬ (a ≡ b) → eqb a b ≡ false
not_eqb a b h = grind (arith, nat_tests)

pub shuts : (bad : Option ℕ) (n size : ℕ) (s : List ℕ) → n < length s → get_or s n 0 ≡ 34 → found_later bad n size (text_end false (drop n s)) ≡ end_at_quote bad n size
shuts bad n size s l h =
    at_place bad n size s l ∙ ap (found_later bad n size) (end_quote _ _ (ap (λ b. eqb b 34) h)) ∙ at_quote bad
  where
    at_quote : (bad : Option ℕ) → found_later bad n size (Closes 0 0) ≡ end_at_quote bad n size
    at_quote None = closes_same (omega arith) (omega arith)
    at_quote (Some at) = refl

pub breaks_line : (bad : Option ℕ) (n size : ℕ) (s : List ℕ) → n < length s → get_or s n 0 ≡ 10 → found_later bad n size (text_end false (drop n s)) ≡ Never
breaks_line bad n size s l h =
    at_place bad n size s l ∙ ap (found_later bad n size) (end_line _ _ (ap (λ b. eqb b 34) h) (ap (λ b. eqb b 10) h))

pub plain : (bad : Option ℕ) (n size : ℕ) (s : List ℕ) → n < length s → ¬ (get_or s n 0 ≡ 34) → ¬ (get_or s n 0 ≡ 10) → ¬ (get_or s n 0 ≡ 92)
    → found_later bad n size (text_end false (drop n s)) ≡ found_later bad (n + 1) (size + 1) (text_end false (drop (n + 1) s))
plain bad n size s l h g k =
    at_place bad n size s l ∙ ap (found_later bad n size) (end_plain _ _ (not_eqb _ _ h) (not_eqb _ _ g) (not_eqb _ _ k)) ∙ later_found bad n size 1 1 _

pub bad_escape : (bad : Option ℕ) (n size : ℕ) (s : List ℕ) → n < length s → get_or s n 0 ≡ 92 → makes_escape (drop (n + 1) s) ≡ false
    → found_later bad n size (text_end false (drop n s)) ≡ found_later (first_bad bad n) (n + 1) (size + 1) (text_end false (drop (n + 1) s))
bad_escape bad n size s l h g =
    at_place bad n size s l ∙ ap (λ b. found_later bad n size (text_end false (b ∷ drop (n + 1) s))) h
    ∙ ap (found_later bad n size) (end_bad _ g) ∙ broken_found bad n size _

escaped_by : (bad : Option ℕ) (n size : ℕ) (bs : List ℕ) → makes_escape bs ≡ true
    → found_later bad n size (text_end false (92 ∷ bs)) ≡ found_later bad (n + 2) (size + 1) (text_end false (drop 1 bs))
escaped_by bad n size [] h = cc
escaped_by bad n size (b ∷ bs) h =
    ap (found_later bad n size) (end_escape b bs h) ∙ later_found bad n size 1 1 _ ∙ later_found bad (n + 1) (size + 1) 1 0 _
    ∙ (let p : n + 1 + 1 ≡ n + 2 = omega arith in let q : size + 1 + 0 ≡ size + 1 = omega arith in cc)

pub escaped : (bad : Option ℕ) (n size : ℕ) (s : List ℕ) → n < length s → get_or s n 0 ≡ 92 → makes_escape (drop (n + 1) s) ≡ true
    → found_later bad n size (text_end false (drop n s)) ≡ found_later bad (n + 2) (size + 1) (text_end false (drop (n + 2) s))
escaped bad n size s l h g =
    at_place bad n size s l ∙ ap (λ b. found_later bad n size (text_end false (b ∷ drop (n + 1) s))) h ∙ escaped_by bad n size _ g
    ∙ ap (λ r. found_later bad (n + 2) (size + 1) (text_end false r)) (drop-drop 1 (n + 1) s ∙ (let p : n + 1 + 1 ≡ n + 2 = omega arith in cc))

pub no_end : (bad : Option ℕ) (n size : ℕ) (s : List ℕ) → length s ≤ n → found_later bad n size (text_end false (drop n s)) ≡ Never
no_end bad n size s l = ap (λ r. found_later bad n size (text_end false r)) (drop_all n s l) ∙ ap (found_later bad n size) end_nothing

pub escape_is_there : (s : List ℕ) → makes_escape s ≡ true → 0 < length s
escape_is_there [] h = cc
escape_is_there (b ∷ bs) h = omega arith

pub ruleset end_steps = (shuts, breaks_line, plain, bad_escape, escaped, no_end, escape_is_there)

-- one byte, or one escape, of a literal's value
module _ (value : List ℕ) where
  pub value_quote : (b : ℕ) (bs : List ℕ) → b ≡ 34 → value ++ unescaped false (b ∷ bs) ≡ value
  value_quote b bs h = ap (λ a. value ++ unescaped false (a ∷ bs)) h ∙ append-nil value

  pub value_plain : (b : ℕ) (bs : List ℕ) → ¬ (b ≡ 34) → ¬ (b ≡ 92) → value ++ unescaped false (b ∷ bs) ≡ (value ++ b ∷ []) ++ unescaped false bs
  value_plain b bs h g = rw (not_eqb b 34 h, not_eqb b 92 g) (sym (append_assoc value (b ∷ []) (unescaped false bs)))

  pub value_escape : (b a : ℕ) (bs : List ℕ) → b ≡ 92 → value ++ unescaped false (b ∷ a ∷ bs) ≡ (value ++ escape_value a ∷ []) ++ unescaped false bs
  value_escape b a bs h = ap (λ c. value ++ unescaped false (c ∷ a ∷ bs)) h ∙ sym (append_assoc value (escape_value a ∷ []) (unescaped false bs))

  pub value_alone : (b : ℕ) → b ≡ 92 → value ++ unescaped false (b ∷ []) ≡ value ++ unescaped false []
  value_alone b h = ap (λ c. value ++ unescaped false (c ∷ [])) h

pub ruleset value_steps = (value_quote, value_plain, value_escape, value_alone)
