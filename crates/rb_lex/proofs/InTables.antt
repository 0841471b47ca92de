-- Words that stand in the tables of keywords and signs.
use Rattle.std.proofs.Common.{◌≡◌, ℕ, suc, ◌+◌, Bool, true, false, not, ◌&&◌, cond, ltb, List, [], ◌∷◌, length, refl, sym, ap, ◌∙◌, arith, None, Some}
use Rattle.std.proofs.lemmas.Bool.{and_parts}
use Rattle.std.proofs.lemmas.Bool.Decides.{nat_tests}
use Rattle.std.proofs.lemmas.Slice.Eq.{bytes_eq-Decides}
use Rattle.std.specs.List.{list_all, position_or_len}
use Rattle.std.specs.Str.{bytes_eq}
use Rattle.rb_meaning_bytes.specs.tokens.Bytes.{is_letter, is_digit, is_word_byte}
use Rattle.rb_meaning_bytes.specs.tokens.Tables.{keywords, number_in}
use Rattle.rb_meaning_bytes.specs.tokens.Forms.{IsWord}

-- a word that stands in a table passes the test that all of the table pass

module _ (test : List ℕ → Bool) (word : List ℕ) where
  first_by : (s : List ℕ) (table : List (List ℕ)) (e : Bool) → bytes_eq s word ≡ e → (test s && list_all test table) ≡ true
      → ltb (cond (not e) (1 + position_or_len (λ s. bytes_eq s word) table) 0) (suc (length table)) ≡ true
      → (ltb (position_or_len (λ s. bytes_eq s word) table) (length table) ≡ true → test word ≡ true) → test word ≡ true
  first_by s table true h a l f = ap test (sym ((bytes_eq-Decides s word).0 h)) ∙ (and_parts (test s) _ a).0
  first_by s table false h a l f = f (grind (arith, nat_tests))

  stands : (table : List (List ℕ)) → list_all test table ≡ true → ltb (position_or_len (λ s. bytes_eq s word) table) (length table) ≡ true → test word ≡ true
  stands [] a l = cc
  stands (s ∷ table) a l = first_by s table (bytes_eq s word) refl a l (stands table (and_parts (test s) _ a).1)

  placed_by : (table : List (List ℕ)) (place n : ℕ) (b : Bool) → ltb (position_or_len (λ s. bytes_eq s word) table) (length table) ≡ b → list_all test table ≡ true
      → cond b (Some place) None ≡ Some n → test word ≡ true
  placed_by table place n true h a e = stands table a h
  placed_by table place n false h a e = cc

  pub placed : (table : List (List ℕ)) (n : ℕ) → list_all test table ≡ true → number_in table word ≡ Some n → test word ≡ true
  unfolding number_in
  placed table n a e = placed_by table (position_or_len (λ s. bytes_eq s word) table) n (ltb (position_or_len (λ s. bytes_eq s word) table) (length table)) refl a e

-- each keyword is a word

abbrev is_word : List ℕ → Bool
is_word [] = false
is_word (b ∷ bs) = is_letter b && list_all is_word_byte bs

words : list_all is_word keywords ≡ true
unfolding keywords is_letter is_digit is_word_byte
words = refl

word_is : (w : List ℕ) → is_word w ≡ true → IsWord w
word_is [] h = cc
word_is (b ∷ bs) h = and_parts (is_letter b) (list_all is_word_byte bs) h

pub keyword_word : (w : List ℕ) (n : ℕ) → number_in keywords w ≡ Some n → IsWord w
keyword_word w n h = word_is w (placed is_word w keywords n words h)
