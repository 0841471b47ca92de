-- The loop of `line_len`.
use Rattle.std.proofs.Common.{◌≡◌, ◌+◌, ◌-◌, ◌≤◌, length, drop}
use Rattle.std.specs.List.{prefix_len}
use Rattle.rb_meaning_bytes.specs.tokens.Bytes.{is_in_line}
use Rattle.rb_lex.proofs.bytes.line_len.Given as goal

abbrev pub invariant-loop-n : goal.invariant-loop-n
invariant-loop-n l = (prefix_len is_in_line l.text ≡ l.n + prefix_len is_in_line (drop l.n l.text)) × (l.n ≤ length l.text)

abbrev pub decreases-loop-n : goal.decreases-loop-n
decreases-loop-n l = length l.text - l.n
