use Rattle.std.proofs.Common.{◌≡◌, ◌≤◌, length}
use Rattle.rb_meaning_bytes.specs.grammar.Limits.{broken_lists}
use Rattle.rb_parse.proofs.limits.broken_lists.Given as goal

abbrev pub invariant-loop-rest : goal.invariant-loop-rest
invariant-loop-rest l = record { value : broken_lists 0 l.tokens ≡ broken_lists l.lists l.rest; few : l.lists ≤ 64; shorter : length l.rest ≤ length l.tokens }

abbrev pub decreases-loop-rest : goal.decreases-loop-rest
decreases-loop-rest l = length l.rest
