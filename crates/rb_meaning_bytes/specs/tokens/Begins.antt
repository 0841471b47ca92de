-- What a text begins with: a token, a separator or a comment.
use Rattle.std.specs.Prelude.{◌≡◌, ℕ, ◌+◌, ◌<◌, ◌≤◌, true, List, ◌∷◌, length, take}
use Rattle.std.specs.List.{prefix_len}
use Rattle.rb_trees.specs.declared.tokens.TokenKind.{TokenKind}
use Rattle.rb_meaning_bytes.specs.tokens.Bytes.{is_separator, is_in_line, slash}
use Rattle.rb_meaning_bytes.specs.tokens.Forms.{Form}

-- A comment begins here: two slashes.
abbrev pub IsComment : List ℕ → Type 0
IsComment text = (rest : List ℕ) × (text ≡ slash ∷ slash ∷ rest)

-- The text begins with a token of the kind that has so many bytes: they have the kind's form,
-- no longer slice from there has the form of any kind, and no comment begins there.
pub record Begins (text : List ℕ) (kind : TokenKind) (size : ℕ) : Type 0 where
  pub within : size ≤ length text
  pub formed : Form kind (take size text)
  pub longest : (more : ℕ) → size < more → more ≤ length text → (other : TokenKind) → ¬ Form other (take more text)
  pub no_comment : ¬ IsComment text

-- The text begins with a separator, or with a comment of so many bytes, which ends before the next
-- line feed or at the end.
pub data Skips : List ℕ → ℕ → Type 0 where
  separator : (b : ℕ) (text : List ℕ) → is_separator b ≡ true → Skips (b ∷ text) 1
  comment : (text : List ℕ) → Skips (slash ∷ slash ∷ text) (2 + prefix_len is_in_line text)
