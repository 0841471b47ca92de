-- The tokens of a text, by their places in the whole of it.
use Rattle.std.specs.Prelude.{ℕ, ◌+◌, ◌-◌, ◌<◌, Bool, true, List, [], ◌∷◌, take, drop}
use Rattle.rb_trees.specs.declared.tokens.Token.{Token}
use Rattle.rb_trees.specs.declared.tokens.TokenKind.{TokenKind}
use Rattle.rb_trees.specs.declared.reading.LexError.{LexError}
use Rattle.rb_trees.specs.Kinds.{is_kind, sign_minus}
use Rattle.rb_meaning_bytes.specs.tokens.Begins.{Begins, Skips}
use Rattle.rb_meaning_bytes.specs.tokens.Faults.{Faults, WithinLimits}

-- The slice of a text from one offset to another.
abbrev pub slice : List ℕ → ℕ → ℕ → List ℕ
slice text start end = take (end - start) (drop start text)

-- From one offset to the other stand separators and comments.
pub data Gap (text : List ℕ) : ℕ → ℕ → Type 0 where
  none : {from : ℕ} → Gap text from from
  skip : {from to : ℕ} (size : ℕ) → Skips (drop from text) size → Gap text (from + size) to → Gap text from to

-- The token stands in the text: its slice has its kind's form, no longer slice from its start has the form
-- of any kind, and no comment begins there.
pub record Stands (text : List ℕ) (token : Token) : Type 0 where
  pub rises : token.start < token.end
  pub begins : Begins (drop token.start text) token.kind (token.end - token.start)

-- The token stands in the text, and its value is within the limits, be it behind a minus or not.
pub record IsToken (text : List ℕ) (token : Token) : Type 0 where
  pub stands : Stands text token
  pub limits : WithinLimits true token.kind (slice text token.start token.end)

-- From one offset to the other stand these tokens, one behind the other, and between them separators and comments.
abbrev pub TokensBetween : List ℕ → ℕ → List Token → ℕ → Type 0
TokensBetween text from [] to = Gap text from to
TokensBetween text from (token ∷ tokens) to = Gap text from token.start × Stands text token × TokensBetween text token.end tokens to

-- whether it is the kind of the sign `-`
abbrev pub is_minus : TokenKind → Bool
is_minus kind = is_kind kind sign_minus

-- Whether the last token is a minus; the flag says it where there is none.
abbrev pub ends_in_minus : Bool → List Token → Bool
ends_in_minus minus [] = minus
ends_in_minus minus (token ∷ tokens) = ends_in_minus (is_minus token.kind) tokens

-- Each token's value is within the limits.
abbrev pub AllWithinLimits : Bool → List ℕ → List Token → Type 0
AllWithinLimits minus text [] = Unit {0}
AllWithinLimits minus text (token ∷ tokens) =
    WithinLimits minus token.kind (slice text token.start token.end) × AllWithinLimits (is_minus token.kind) text tokens

-- From the offset on this fault stands first: before it stand tokens within the limits, separators and comments.
pub record FaultStands (minus : Bool) (text : List ℕ) (from : ℕ) (error : LexError) : Type 0 where
  pub tokens : List Token
  pub at : ℕ
  pub stand : TokensBetween text from tokens at
  pub limits : AllWithinLimits minus text tokens
  pub fault : Faults (ends_in_minus minus tokens) at (drop at text) error
