-- What words may be those of.
use Rattle.std.proofs.Common.{◌≡◌, ◌<◌, ◌≤◌, ◌+◌, ◌%◌, ◌^◌, ◌==◌, Bool, true, false, ℕ, List, [], ◌∷◌, ◌++◌, Option, None, Some, Result, Ok, Err, codes, length, get_or, min, refl, sym, ap, ◌∙◌, subst, arith}
use Rattle.std.specs.Fmt.{decimal}
use Rattle.std.proofs.lemmas.List.{append_cancel_left}
use Rattle.std.specs.Prelude.{if◌then◌else◌}
use Rattle.hex.specs.declared.error.FromHexError.TheVariants as errors
use Rattle.hex.specs.Hex.{decode_of, decode_pairs, encode_lower}
use Rattle.hex.specs.declared.error.FromHexError.{FromHexError}
use Rattle.hex.proofs.HexLemmas.{decode_of-encode_lower, decode_pairs-ok}
use Rattle.rb_meaning_bytes.specs.formats.Fields.{IsBytes}
use Rattle.rb_meaning_bytes.specs.tokens.Values.{number_value}
use Rattle.rb_meaning_frames.specs.Histories.{Event, Open, Piece, Close}
use Rattle.rb_hub_lines.specs.Cuts.{IsCutAt, lacks}
use Rattle.rb_hub_lines.specs.Lines.{IsWritable, event_words}
use Rattle.rb_hub_lines.specs.Reading.{FindsBytes, FindsEvent, FindsNumber, FindsPiece, unless_empty}
use Rattle.rb_hub_lines.proofs.Cut.{cut_once, lacks_none_there}
use Rattle.rb_hub_lines.proofs.Written.{decimal_lacks, number_value-decimal}

-- digits that are decoded are those of one list of bytes at most
one_decoding : (digits bytes others : List ℕ) → decode_of digits ≡ Ok bytes → IsBytes others → digits ≡ encode_lower others → bytes ≡ others
one_decoding digits bytes others d h e =
    let both : Ok bytes ≡ Ok others = sym d ∙ ap decode_of e ∙ decode_of-encode_lower others h in
    cc both

decoded_bytes : (digits bytes : List ℕ) → decode_of digits ≡ Ok bytes → IsBytes bytes
decoded_bytes digits bytes d = by_parity (length digits % 2 == 1) refl
  where
    by_parity : (odd : Bool) → (length digits % 2 == 1) ≡ odd → IsBytes bytes
    by_parity true o = absurd (let e : Err errors.OddLength ≡ Ok bytes = sym (ap (λ b. if b then Err errors.OddLength else decode_pairs 0 digits) o) ∙ d in cc e)
    by_parity false o = (decode_pairs-ok 0 digits bytes (sym (ap (λ b. if b then Err errors.OddLength else decode_pairs 0 digits) o) ∙ d)).2

pub decoded : (digits bytes result : List ℕ) → decode_of digits ≡ Ok bytes → result ≡ bytes → FindsBytes digits (unless_empty result)
decoded digits bytes [] d r = record {
  finds = λ others h l e. absurd (let same = ap length (r ∙ one_decoding digits bytes others d h e) in omega (arith, same));
  are = tt;
}
decoded digits bytes (x ∷ xs) d r = record {
  finds = λ others h l e. ap Some (r ∙ one_decoding digits bytes others d h e);
  are = (subst IsBytes (sym r) (decoded_bytes digits bytes d), omega arith);
}

pub not_decoded : (digits : List ℕ) (error : FromHexError) → decode_of digits ≡ Err error → FindsBytes digits None
not_decoded digits error d = record {
  finds = λ others h l e. absurd (let both : Err error ≡ Ok others = sym d ∙ ap decode_of e ∙ decode_of-encode_lower others h in cc both);
  are = tt;
}

-- ---- numbers

pub number_found : (word : List ℕ) (answer : Option ℕ) (value most : ℕ) → value ≡ min (number_value word) most → 2 ^ 32 ≤ most → (value < 2 ^ 32 → answer ≡ Some value) → FindsNumber word answer
number_found word answer value most v m a number few w =
    let is = ap number_value w ∙ number_value-decimal number (omega arith) in
    let same : value ≡ number = omega (arith, is, v) in
    a (omega arith) ∙ ap Some same

-- ---- pieces

-- a piece's number and its digits stand before and behind the first space
piece_parts : (words front rest : List ℕ) → IsCutAt 32 words front rest → (number : ℕ) (piece : List ℕ) → IsWritable (Piece number piece) → words ≡ decimal number ++ (codes " " ++ encode_lower piece)
    → (front ≡ decimal number) × (rest ≡ encode_lower piece)
piece_parts words front rest at number piece w e =
    cut_once 32 front (decimal number) rest (encode_lower piece) at.first (decimal_lacks 32 number (omega arith) (omega arith)) (sym at.is ∙ e)

pub no_space : (words : List ℕ) → lacks 32 words ≡ true → FindsPiece words None
no_space words l = record {
  finds = λ number piece w e. absurd (lacks_none_there 32 (decimal number) (encode_lower piece) (subst (λ t. lacks 32 t ≡ true) e l));
  writable = tt;
}

pub no_number : (words front rest : List ℕ) → IsCutAt 32 words front rest → FindsNumber front None → FindsPiece words None
no_number words front rest at n = record {
  finds = λ number piece w e. absurd (let wrong = n number w.0 (piece_parts words front rest at number piece w e).0 in cc wrong);
  writable = tt;
}

pub no_bytes : (words front rest : List ℕ) → IsCutAt 32 words front rest → FindsBytes rest None → FindsPiece words None
no_bytes words front rest at b = record {
  finds = λ number piece w e. absurd (let wrong = b.finds piece w.1 w.2 (piece_parts words front rest at number piece w e).1 in cc wrong);
  writable = tt;
}

pub a_piece : (words front rest bytes : List ℕ) (n : ℕ) → IsCutAt 32 words front rest → n < 2 ^ 32 → FindsNumber front (Some n) → FindsBytes rest (Some bytes) → FindsPiece words (Some (Piece n bytes))
a_piece words front rest bytes n at few m b = record {
  finds = λ number piece w e. ap Some (
      let parts = piece_parts words front rest at number piece w e in
      let number_is = m number w.0 parts.0 in
      let piece_is = b.finds piece w.1 w.2 parts.1 in
      cc (number_is, piece_is));
  writable = (few, b.are.0, b.are.1);
}
