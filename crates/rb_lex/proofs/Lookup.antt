-- Looking a word up in a table.
use Rattle.std.proofs.Common.{◌≡◌, ℕ, suc, ◌+◌, not, Bool, cond, ltb, List, [], ◌∷◌, length, map, refl, sym, ap, ◌∙◌, Option, Some, None}
use Rattle.std.specs.Borrow.{Bor}
use Rattle.std.specs.List.{prefix_len, position_or_len}
use Rattle.std.specs.Str.{bytes_eq}
use Rattle.rb_meaning_bytes.specs.tokens.Tables.{number_in}

abbrev pub texts : List (Bor (List ℕ)) → List (List ℕ)
texts table = map (λ s. s.now) table

prefix_len_texts : (p : List ℕ → Bool) (table : List (Bor (List ℕ))) → prefix_len p (texts table) ≡ prefix_len (λ s. p s.now) table
prefix_len_texts p [] = refl
prefix_len_texts p (s ∷ table) = ap (λ n. cond (p s.now) (1 + n) 0) (prefix_len_texts p table)

length_texts : (table : List (Bor (List ℕ))) → length (texts table) ≡ length table
length_texts [] = refl
length_texts (s ∷ table) = ap suc (length_texts table)

-- what a search gives, by the length before the place and the length of the table
abbrev pub place_by : ℕ → ℕ → Option ℕ
place_by n count = cond (ltb n count) (Some n) None

pub place_found : (table : List (Bor (List ℕ))) (word : List ℕ) (r : Option ℕ)
    → r ≡ cond (ltb (position_or_len (λ s. bytes_eq s.now word) table) (length table)) (Some (position_or_len (λ s. bytes_eq s.now word) table)) None
    → r ≡ number_in (texts table) word
unfolding number_in
place_found table word r h =
    let a : position_or_len (λ s. bytes_eq s.now word) table ≡ position_or_len (λ s. bytes_eq s word) (texts table) = sym (prefix_len_texts (λ s. not (bytes_eq s word)) table) in
    let b : length table ≡ length (texts table) = sym (length_texts table) in
    h ∙ ap (λ n. place_by n (length table)) a ∙ ap (place_by (position_or_len (λ s. bytes_eq s word) (texts table))) b
