-- Whole texts: the list of tokens, and the order of all refusals.
use Rattle.std.specs.Prelude.{ℕ, ◌<◌, ◌≤◌, false, List, length, Result, Ok, Err}
use Rattle.std.specs.Str.{IsUtf8, IsValidUpTo}
use Rattle.rb_trees.specs.declared.tokens.Token.{Token}
use Rattle.rb_trees.specs.declared.reading.LexError.{LexError}
use Rattle.rb_trees.specs.declared.reading.LexError.TheVariants.{NotUtf8, TooLong}
use Rattle.rb_meaning_bytes.specs.tokens.Lists.{TokensBetween, AllWithinLimits, FaultStands}

-- The greatest number of bytes of a text.
abbrev pub longest_text : ℕ
longest_text = 1048576

-- The list is the text's tokens: the text isn't too long and is UTF-8, the tokens stand in it one behind the other,
-- between them stand separators and comments, and each token's value is within the limits.
pub record IsTokens (text : List ℕ) (tokens : List Token) : Type 0 where
  pub short : length text ≤ longest_text
  pub utf8 : IsUtf8 text
  pub stand : TokensBetween text 0 tokens (length text)
  pub limits : AllWithinLimits false text tokens

-- The text is refused for this. A text that is too long is refused first, at the greatest length, then one that isn't
-- UTF-8, at the end of its longest prefix that is, and then the fault that stands first.
pub data IsRefusal (text : List ℕ) : LexError → Type 0 where
  too_long : longest_text < length text → IsRefusal text (TooLong longest_text)
  not_utf8 : (at : ℕ) → length text ≤ longest_text → IsValidUpTo text at → IsRefusal text (NotUtf8 at)
  stands : {error : LexError} → length text ≤ longest_text → IsUtf8 text → FaultStands false text 0 error → IsRefusal text error

-- What a text is read as: its tokens, or its first fault.
abbrev pub Outcome : Type 0
Outcome = Result (List Token) LexError

-- The text has this outcome.
abbrev pub Lexed : List ℕ → Outcome → Type 0
Lexed text (Ok tokens) = IsTokens text tokens
Lexed text (Err error) = IsRefusal text error
