-- The tokens of a text, or its first fault, once more: by what the text begins with, from rest to rest.
use Rattle.std.specs.Prelude.{ℕ, ◌+◌, Bool, List, [], ◌∷◌, ◌++◌, take, drop, Ok, Err}
use Rattle.rb_trees.specs.declared.tokens.Token.{Token}
use Rattle.rb_trees.specs.declared.tokens.TokenKind.{TokenKind}
use Rattle.rb_trees.specs.declared.reading.LexError.{LexError}
use Rattle.rb_meaning_bytes.specs.tokens.Begins.{Begins, Skips}
use Rattle.rb_meaning_bytes.specs.tokens.Faults.{Faults, WithinLimits}
use Rattle.rb_meaning_bytes.specs.tokens.Lists.{is_minus}
use Rattle.rb_meaning_bytes.specs.tokens.Texts.{Outcome}

-- The tokens stand before those of the outcome; a fault stays.
abbrev pub with_front : List Token → Outcome → Outcome
with_front front (Ok rest) = Ok (front ++ rest)
with_front front (Err fault) = Err fault

-- Lexes minus at text outcome: the text, which begins at the offset `at` of the whole, behind a minus or not, has this outcome.
pub data Lexes : Bool → ℕ → List ℕ → Outcome → Type 0 where
  done : {minus : Bool} {at : ℕ} → Lexes minus at [] (Ok [])
  skip : {minus : Bool} {at : ℕ} {text : List ℕ} {outcome : Outcome} (size : ℕ) → Skips text size
      → Lexes minus (at + size) (drop size text) outcome → Lexes minus at text outcome
  token : {minus : Bool} {at : ℕ} {text : List ℕ} {outcome : Outcome} (kind : TokenKind) (size : ℕ) → Begins text kind size
      → WithinLimits minus kind (take size text) → Lexes (is_minus kind) (at + size) (drop size text) outcome
      → Lexes minus at text (with_front (record { kind = kind; start = at; end = at + size } ∷ []) outcome)
  fault : {minus : Bool} {at : ℕ} {text : List ℕ} {error : LexError} → Faults minus at text error → Lexes minus at text (Err error)
