-- How the language's words are spelled: the letters and digits of names, and the tables of keywords and signs. A keyword
-- or sign is numbered by its place in its table, from 0.
use Rattle.std.specs.Prelude.{◌≡◌, ℕ, Bool, true, ◌||◌, ◌==◌, List, [], ◌∷◌, codes, Option, None, position}
use Rattle.std.specs.Int.{is_in_range}
use Rattle.std.specs.List.{list_all, position_or_len}
use Rattle.std.specs.Str.{bytes_eq}

-- A to Z, a to z, and _
unfoldable pub is_letter : ℕ → Bool
is_letter b = is_in_range 65 90 b || (is_in_range 97 122 b || (b == 95))

-- 0 to 9
unfoldable pub is_digit : ℕ → Bool
is_digit b = is_in_range 48 57 b

-- What may follow the first letter of a name or keyword.
unfoldable pub is_word_byte : ℕ → Bool
is_word_byte b = is_letter b || is_digit b

-- A word: a letter, then letters and digits.
abbrev pub IsWord : List ℕ → Type 0
IsWord [] = ⊥
IsWord (b ∷ bs) = (is_letter b ≡ true) × (list_all is_word_byte bs ≡ true)

-- the keywords, in the order of their numbers
abbrev pub keyword_table : List (List ℕ)
keyword_table =
    codes "interface" ∷ codes "class" ∷ codes "fun" ∷ codes "remote" ∷ codes "main"
    ∷ codes "val" ∷ codes "var" ∷ codes "if" ∷ codes "else" ∷ codes "for" ∷ codes "in"
    ∷ codes "while" ∷ codes "try" ∷ codes "catch" ∷ codes "throw" ∷ codes "return"
    ∷ codes "batch" ∷ codes "print" ∷ codes "len" ∷ codes "str" ∷ codes "new" ∷ codes "this"
    ∷ codes "true" ∷ codes "false" ∷ codes "List" ∷ codes "Rows" ∷ codes "Int" ∷ codes "Bool"
    ∷ codes "Text" ∷ codes "Unit" ∷ codes "object" ∷ codes "root" ∷ []

-- the signs, in the order of their numbers
abbrev pub sign_table : List (List ℕ)
sign_table =
    codes "==" ∷ codes "!=" ∷ codes "<=" ∷ codes ">=" ∷ codes "&&" ∷ codes "||"
    ∷ codes "<" ∷ codes ">" ∷ codes "=" ∷ codes "+" ∷ codes "-" ∷ codes "*" ∷ codes "/"
    ∷ codes "%" ∷ codes "!" ∷ codes "." ∷ codes "," ∷ codes ";" ∷ codes ":" ∷ codes "("
    ∷ codes ")" ∷ codes "{" ∷ codes "}" ∷ codes "[" ∷ codes "]" ∷ codes "#" ∷ []

unfoldable pub keywords : List (List ℕ)
keywords = keyword_table

unfoldable pub signs : List (List ℕ)
signs = sign_table

-- The number of a word of a table: how many words stand before it.
abbrev pub number_of : List (List ℕ) → List ℕ → ℕ
number_of table word = position_or_len (λ other. bytes_eq other word) table

-- The number of the word in the table, if it stands there.
unfoldable pub number_in : List (List ℕ) → List ℕ → Option ℕ
number_in table word = position (λ other. bytes_eq other word) table

-- A name: a word that is no keyword.
abbrev pub IsName : List ℕ → Type 0
IsName name = IsWord name × (number_in keywords name ≡ None)
