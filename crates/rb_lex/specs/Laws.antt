-- What holds of the outcomes of every text.
use Rattle.std.specs.Prelude.{◌≡◌, ℕ, ◌≤◌, ◌↔◌, false, List, length}
use Rattle.std.specs.Str.{IsUtf8}
use Rattle.rb_meaning_bytes.specs.tokens.Lexes.{Lexes}
use Rattle.rb_meaning_bytes.specs.tokens.Texts.{Outcome, Lexed, longest_text}

-- The text has an outcome: a list of tokens, or a first fault.
abbrev pub HasOutcome : List ℕ → Type 0
HasOutcome text = (outcome : Outcome) × Lexed text outcome

-- The text has at most one outcome.
abbrev pub HasOneOutcome : List ℕ → Type 0
HasOneOutcome text = (one other : Outcome) → Lexed text one → Lexed text other → one ≡ other

-- The outcome by places in the whole text and the outcome from rest to rest are the same.
abbrev pub HasOutcomeByRests : List ℕ → Type 0
HasOutcomeByRests text =
    length text ≤ longest_text → IsUtf8 text → (outcome : Outcome) → (Lexed text outcome ↔ Lexes false 0 text outcome)
