-- The loop of `tokens`.
use Rattle.std.proofs.Common.{◌-◌, ◌≤◌, length, false}
use Rattle.rb_meaning_bytes.specs.tokens.Lexes.{Lexes, with_front}
use Rattle.rb_meaning_bytes.specs.tokens.Texts.{Outcome}
use Rattle.rb_lex.proofs.lexing.tokens.Given as goal

-- What the rest is read as, the text is, with the list in front.
abbrev pub invariant-loop-rest : goal.invariant-loop-rest
invariant-loop-rest l =
    ((outcome : Outcome) → Lexes l.minus (length l.text - length l.rest) l.rest outcome → Lexes false 0 l.text (with_front l.list outcome))
    × (length l.rest ≤ length l.text)

abbrev pub decreases-loop-rest : goal.decreases-loop-rest
decreases-loop-rest l = length l.rest
