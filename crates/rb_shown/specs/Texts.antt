-- The texts of programs.
use Rattle.std.specs.Prelude.{ℕ, ◌≤◌, List, length}
use Rattle.rb_meaning_bytes.specs.tokens.Texts.{longest_text}

-- The text has at most as many bytes as a text may have.
abbrev pub WithinLength : List ℕ → Type 0
WithinLength text = length text ≤ longest_text
