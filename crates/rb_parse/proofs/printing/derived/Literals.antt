-- The literals that are printed, and their derivations.
use Rattle.std.proofs.Common.{◌≡◌, ℕ, ℤ, pos, negsuc, ◌==◌, ◌≤◌, min, Bool, true, false, List, [], ◌∷◌, refl, ap, sym, ◌∙◌, subst, arith}
use Rattle.std.specs.Fmt.{decimal}
use Rattle.std.proofs.lemmas.Bool.Decides.{nat_tests}
use Rattle.rb_trees.specs.declared.tokens.Token.{Token as Lexeme}
use Rattle.rb_trees.specs.declared.values.Value.{Value}
use Rattle.rb_trees.specs.declared.values.Value.TheVariants as value
use Rattle.rb_trees.specs.declared.values.Value.TheOpen.{Value-F}
use Rattle.rb_trees.specs.declared.values.Value.TheViews.{out-Value, roll-Value, roll-out-Value}
use Rattle.rb_trees.specs.mirror.Code.{Lit}
use Rattle.rb_trees.specs.printing.Words.{int_pieces, bool_piece, number_piece, form_pieces, literal_pieces}
use Rattle.rb_trees.specs.printing.Unplaced.{unplaced_expr}
use Rattle.rb_meaning_bytes.specs.tokens.Values.{number_value, int_of, text_value}
use Rattle.rb_meaning_bytes.specs.grammar.Values.{slice, number_of}
use Rattle.rb_meaning_bytes.specs.grammar.Symbols as s
use Rattle.rb_meaning_bytes.specs.grammar.Productions as r
use Rattle.rb_parse.proofs.readable.Trees.{IsReadInt, IsReadForm, IsReadLiteral}
use Rattle.rb_parse.proofs.printing.Values.{number_of_decimal, text_of_literal}
use Rattle.rb_parse.proofs.printing.derived.Made.{MadePart, end, token, by}

-- the Int of a number that is small enough
small : (n : ℕ) → n ≤ 9223372036854775807 → int_of (min n 9223372036854775808) ≡ pos n
small n h =
    let m : min n 9223372036854775808 ≡ n = omega arith in
    let d : (n == 9223372036854775808) ≡ false = grind (arith, nat_tests) in
    rw (m, d) refl

module _ (source : List ℕ) where
  valued : (n : ℕ) (t : Lexeme) → n ≤ 9223372036854775808 → slice source t ≡ decimal n → number_of source t ≡ int_of (min n 9223372036854775808)
  valued n t l e = ap (λ v. int_of (min v 9223372036854775808)) (ap number_value e ∙ number_of_decimal n (omega arith))

  -- a number's token is its Int
  number_made : (n : ℕ) (z : ℤ) → n ≤ 9223372036854775808 → int_of (min n 9223372036854775808) ≡ z → MadePart source s.First (number_piece n ∷ []) (λ x. unplaced_expr x ≡ Lit 0 (roll-Value (Value-F.Int z)))
  number_made n z l h = by r.number (token λ t e. end (ap (Lit 0) (ap value.Int (valued n t l e ∙ h) ∙ sym (value.rolls-Int z))))

  int_made : (z : ℤ) (minus : Bool) → IsReadInt minus z → MadePart source s.First (int_pieces z) (λ x. unplaced_expr x ≡ Lit 0 (roll-Value (Value-F.Int z)))
  int_made (pos n) minus h = number_made n (pos n) (omega arith) (small n h)
  int_made (negsuc n) true h = subst (λ k. MadePart source s.First (int_pieces (negsuc k)) (λ x. unplaced_expr x ≡ Lit 0 (roll-Value (Value-F.Int (negsuc k))))) (sym h) (number_made 9223372036854775808 (negsuc 9223372036854775807) (omega arith) refl)
  int_made (negsuc n) false h = absurd h

  bool_made : (b : Bool) → MadePart source s.First (bool_piece b ∷ []) (λ x. unplaced_expr x ≡ Lit 0 (roll-Value (Value-F.Bool b)))
  bool_made true = by r.true_literal (token λ t e. end (ap (Lit 0) (sym (value.rolls-Bool true))))
  bool_made false = by r.false_literal (token λ t e. end (ap (Lit 0) (sym (value.rolls-Bool false))))

  form_made : (form : Value-F Value) (minus : Bool) → IsReadForm minus form → MadePart source s.First (form_pieces form) (λ x. unplaced_expr x ≡ Lit 0 (roll-Value form))
  form_made Value-F.Unit minus h = absurd h
  form_made (Value-F.Int z) minus h = int_made z minus h
  form_made (Value-F.Bool b) minus h = bool_made b
  form_made (Value-F.Text text) minus h = by r.text (token λ t e. end (ap (Lit 0) (ap value.Text (ap text_value e ∙ text_of_literal text) ∙ sym (value.rolls-Text text))))
  form_made (Value-F.List items) minus h = absurd h
  form_made (Value-F.Ref object) minus h = absurd h
  form_made (Value-F.Remote object) minus h = absurd h
  form_made (Value-F.Rows rows) minus h = absurd h

  pub literal_made : (v : Value) (minus : Bool) → IsReadLiteral minus v → MadePart source s.First (literal_pieces v) (λ x. unplaced_expr x ≡ Lit 0 v)
  literal_made v minus h = subst (λ w. MadePart source s.First (literal_pieces v) (λ x. unplaced_expr x ≡ Lit 0 w)) (roll-out-Value v) (form_made (out-Value v) minus h)
