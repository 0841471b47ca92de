-- The values of what is printed: a number's digits stand for the number, and an escaped text in quotes for the text.
use Rattle.std.proofs.Common.{◌≡◌, ℕ, ◌+◌, ◌*◌, ◌/◌, ◌%◌, ◌-◌, ◌<◌, ◌≤◌, ◌^◌, Bool, true, false, cond, eqb, List, [], ◌∷◌, ◌++◌, refl, sym, ap, ◌∙◌, arith, append_assoc}
use Rattle.std.proofs.lemmas.Bool.Decides.{nat_tests}
use Rattle.std.proofs.lemmas.Fmt.{decimal_by_steps}
use Rattle.std.proofs.lemmas.List.Sums.{fold-append}
use Rattle.std.specs.Fmt.{decimal}
use Rattle.std.specs.Prelude.{codes}
use Rattle.rb_trees.specs.printing.Words.{escaped, all_escaped}
use Rattle.rb_meaning_bytes.specs.tokens.Bytes.{quote}
use Rattle.rb_meaning_bytes.specs.tokens.Values.{number_value, unescaped, escape_value, text_value}

-- The digits of a number stand for it.
pub number_of_decimal : (n : ℕ) → n < 2 ^ 64 → number_value (decimal n) ≡ n
number_of_decimal n h = decimal_by_steps (λ m digits. number_value digits ≡ m) one more n h
  where
    one : (m : ℕ) → m < 10 → number_value ((48 + m) ∷ []) ≡ m
    one m l = omega arith

    more : (m : ℕ) (digits : List ℕ) → 10 ≤ m → number_value digits ≡ m / 10 → number_value (digits ++ (48 + m % 10) ∷ []) ≡ m
    more m digits l e =
        fold-append (λ (value digit : ℕ). 10 * value + (digit - 48)) 0 digits ((48 + m % 10) ∷ []) ∙ ap (λ v. 10 * v + (48 + m % 10 - 48)) e ∙ omega arith

escaped_value : (b : ℕ) (bs : List ℕ) (line quoted back : Bool) → eqb b 10 ≡ line → eqb b 34 ≡ quoted → eqb b 92 ≡ back
    → unescaped false (cond line (codes "\\n") (cond quoted (codes "\\\"") (cond back (codes "\\\\") (b ∷ []))) ++ bs) ≡ b ∷ unescaped false bs
unfolding escape_value
escaped_value b bs true quoted back h1 h2 h3 = let e : b ≡ 10 = grind (arith, nat_tests) in ap (λ v. v ∷ unescaped false bs) (sym e)
escaped_value b bs false true back h1 h2 h3 = let e : b ≡ 34 = grind (arith, nat_tests) in ap (λ v. v ∷ unescaped false bs) (sym e)
escaped_value b bs false false true h1 h2 h3 = let e : b ≡ 92 = grind (arith, nat_tests) in ap (λ v. v ∷ unescaped false bs) (sym e)
escaped_value b bs false false false h1 h2 h3 = rw (h2, h3) refl

escaped_values : (t : List ℕ) → unescaped false (all_escaped t ++ quote ∷ []) ≡ t
escaped_values [] = refl
escaped_values (b ∷ bs) =
    ap (unescaped false) (append_assoc (escaped b) (all_escaped bs) (quote ∷ []))
    ∙ escaped_value b (all_escaped bs ++ quote ∷ []) (eqb b 10) (eqb b 34) (eqb b 92) refl refl refl ∙ ap (λ v. b ∷ v) (escaped_values bs)

-- An escaped text in quotes stands for the text.
pub text_of_literal : (t : List ℕ) → text_value (codes "\"" ++ all_escaped t ++ codes "\"") ≡ t
text_of_literal t = escaped_values t
