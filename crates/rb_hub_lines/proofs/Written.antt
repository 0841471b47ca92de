-- How events are written: what their words lack, and what they are found by.
use Rattle.std.proofs.Common.{◌≡◌, ◌<◌, ◌≤◌, ◌+◌, ◌-◌, ◌*◌, ◌/◌, ◌%◌, ◌^◌, ◌&&◌, ℕ, suc, true, List, [], ◌∷◌, ◌++◌, codes, length, get_or, refl, sym, ap, ◌∙◌, arith}
use Rattle.std.proofs.lemmas.Bool.Decides.{nat_tests}
use Rattle.std.proofs.lemmas.Bool.{leb-true}
use Rattle.std.proofs.lemmas.List.Sums.{AllPass-from_list_all}
use Rattle.std.proofs.lemmas.Fmt.{digits_decimal, digits_value-decimal}
use Rattle.std.proofs.lemmas.Str.Parse.{IsNumeralModel, numerals_by_fold, tells_all_ascii_digits}
use Rattle.std.specs.Char.{is_ascii_digit}
use Rattle.std.specs.Fmt.{decimal}
use Rattle.std.specs.Prelude.{slice_index, fold, nat_le}
use Rattle.std.specs.Str.{all_ascii_digits}
use Rattle.hex.specs.Hex.{encode_lower, encode_with, lower_digits}
use Rattle.rb_meaning_bytes.specs.formats.Fields.{IsBytes}
use Rattle.rb_meaning_bytes.specs.tokens.Values.{number_value}
use Rattle.rb_meaning_frames.specs.Histories.{Event, Open, Piece, Close}
use Rattle.rb_hub_lines.specs.Cuts.{lacks}
use Rattle.rb_hub_lines.specs.Lines.{IsWritable, event_words}
use Rattle.rb_hub_lines.proofs.Cut.{lacks-append, lacks-cons}

-- the value of digits is a fold over them
abbrev value_from : ℕ → List ℕ → ℕ
value_from n digits = fold (λ value digit. 10 * value + (digit - 48)) n digits

numbers : IsNumeralModel (λ ds. all_ascii_digits ds ≡ true) number_value
numbers = numerals_by_fold _ tells_all_ascii_digits value_from (record {
  empty = λ n. refl;
  more = λ n c cs r. ap (λ v. value_from v cs) (omega arith);
})

pub number_value-decimal : (n : ℕ) → n < 2 ^ 64 → number_value (decimal n) ≡ n
number_value-decimal n h = digits_value-decimal numbers n h

-- digits lack what is below them
digits_lack : (byte : ℕ) (ds : List ℕ) → byte < 48 → all_ascii_digits ds ≡ true → lacks byte ds ≡ true
digits_lack byte [] low h = refl
digits_lack byte (c ∷ ds) low h = grind (arith, nat_tests, digits_lack byte ds low)

pub decimal_lacks : (byte n : ℕ) → byte < 48 → n < 2 ^ 64 → lacks byte (decimal n) ≡ true
decimal_lacks byte n low h = digits_lack byte (decimal n) low (digits_decimal numbers n h)

-- each digit is at least 48
high_enough : (d : ℕ) → d < 16 → 48 ≤ slice_index lower_digits d
high_enough d h =
    let there : nat_le 48 (get_or lower_digits d 0) ≡ true = AllPass-from_list_all (nat_le 48) lower_digits refl d 0 (omega arith) in
    leb-true 48 (get_or lower_digits d 0) there

hex_digit_lacks : (byte d : ℕ) → byte < 48 → d < 16 → slice_index lower_digits d ≡ byte → ⊥
hex_digit_lacks byte d low h e =
    let here = high_enough d h in
    absurd (omega (arith, here, e))

pub hex_lacks : (byte : ℕ) (bytes : List ℕ) → byte < 48 → IsBytes bytes → lacks byte (encode_lower bytes) ≡ true
unfolding encode_with
hex_lacks byte [] low h = refl
hex_lacks byte (b ∷ bytes) low h =
    let small : b < 256 = h 0 in
    lacks-cons byte (slice_index lower_digits (b / 16)) (slice_index lower_digits (b % 16) ∷ encode_lower bytes) (hex_digit_lacks byte (b / 16) low (omega arith))
    (lacks-cons byte (slice_index lower_digits (b % 16)) (encode_lower bytes) (hex_digit_lacks byte (b % 16) low (omega arith)) (hex_lacks byte bytes low (λ i. h (suc i))))

-- the words of an event have no line feed
pub words_lack_feed : (event : Event) → IsWritable event → lacks 10 (event_words event) ≡ true
words_lack_feed Open w = refl
words_lack_feed (Piece number piece) w =
    lacks-append 10 (codes "piece ") (decimal number ++ (codes " " ++ encode_lower piece)) refl
    (lacks-append 10 (decimal number) (codes " " ++ encode_lower piece) (decimal_lacks 10 number (omega arith) (omega arith))
    (lacks-append 10 (codes " ") (encode_lower piece) refl (hex_lacks 10 piece (omega arith) w.1)))
words_lack_feed (Close number) w = lacks-append 10 (codes "close ") (decimal number) refl (decimal_lacks 10 number (omega arith) (omega arith))
