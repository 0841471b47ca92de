-- The forms of tokens: which slices are tokens of which kind.
use Rattle.std.specs.Prelude.{◌≡◌, ℕ, true, List, [], ◌∷◌, ◌++◌, Some}
use Rattle.std.specs.List.{list_all}
use Rattle.rb_trees.specs.declared.tokens.TokenKind.{TokenKind}
use Rattle.rb_trees.specs.declared.tokens.TokenKind.TheVariants as kinds
use Rattle.rb_trees.specs.Spelling.{is_digit, keywords, signs, number_in, IsName}
pub use Rattle.rb_trees.specs.Spelling.{IsWord}
use Rattle.rb_meaning_bytes.specs.tokens.Bytes.{is_plain, is_escaped, quote, backslash}

-- A number: one or more digits.
abbrev pub IsNumber : List ℕ → Type 0
IsNumber [] = ⊥
IsNumber (b ∷ bs) = (is_digit b ≡ true) × (list_all is_digit bs ≡ true)

-- What stands between the quotes of a text literal: plain bytes and escapes.
pub data Body : List ℕ → Type 0 where
  empty : Body []
  plain : {body : List ℕ} (b : ℕ) → is_plain b ≡ true → Body body → Body (b ∷ body)
  escape : {body : List ℕ} (b : ℕ) → is_escaped b ≡ true → Body body → Body (backslash ∷ b ∷ body)

-- A text literal: a quote, its body and a quote.
abbrev pub IsLiteral : List ℕ → Type 0
IsLiteral slice = (body : List ℕ) × (slice ≡ quote ∷ (body ++ quote ∷ [])) × Body body

-- The slice has the form of the kind.
abbrev pub Form : TokenKind → List ℕ → Type 0
Form kinds.Name slice = IsName slice
Form kinds.Number slice = IsNumber slice
Form kinds.TextLit slice = IsLiteral slice
Form (kinds.Keyword number) slice = number_in keywords slice ≡ Some number
Form (kinds.Sign number) slice = number_in signs slice ≡ Some number
