-- A text that was read from a file up to the limit.
use Rattle.std.proofs.Common.{◌≡◌, ℕ, ◌+◌, ◌≤◌, ◌<◌, List, Option, length, take, sym, ◌∙◌, subst, arith}
use Rattle.std.proofs.lemmas.List.{length-take, take_all}
use Rattle.rb_meaning_bytes.specs.tokens.Texts.{longest_text}
use Rattle.rb_base.specs.Directories.{Directory, Finds}
use Rattle.rb_top.specs.Texts.{TooLong}

front_is_all : (n : ℕ) (xs : List ℕ) → length (take (n + 1) xs) ≤ n → take (n + 1) xs ≡ xs
front_is_all n xs h =
    let l = length-take (n + 1) xs in
    take_all (n + 1) xs (omega arith)

-- A text within the limit is the file's.
pub read_whole : (n : ℕ) (told : Option Directory) (name file new : List ℕ) → Finds told name file → new ≡ take (n + 1) file → length new ≤ n → Finds told name new
read_whole n told name file new f e h = subst (Finds told name) (sym (e ∙ front_is_all n file (subst (λ l. length l ≤ n) e h))) f

longer_file : (n : ℕ) (file : List ℕ) → n < length (take (n + 1) file) → n < length file
longer_file n file h =
    let l = length-take (n + 1) file in
    omega arith

-- A text beyond the limit is that of a longer file.
pub read_front : (n : ℕ) → n ≡ longest_text → (file new : List ℕ) → new ≡ take (n + 1) file → n < length new → TooLong file
read_front n l file new e h = subst (λ m. m < length file) l (longer_file n file (subst (λ t. n < length t) e h))
