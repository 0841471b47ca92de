-- The loop of `digits_len`.
use Rattle.std.proofs.Common.{◌≡◌, ◌+◌, ◌-◌, ◌≤◌, length, drop}
use Rattle.std.specs.List.{prefix_len}
use Rattle.rb_meaning_bytes.specs.tokens.Bytes.{is_digit}
use Rattle.rb_lex.proofs.bytes.digits_len.Given as goal

abbrev pub invariant-loop-n : goal.invariant-loop-n
invariant-loop-n l = (prefix_len is_digit l.text ≡ l.n + prefix_len is_digit (drop l.n l.text)) × (l.n ≤ length l.text)

abbrev pub decreases-loop-n : goal.decreases-loop-n
decreases-loop-n l = length l.text - l.n
