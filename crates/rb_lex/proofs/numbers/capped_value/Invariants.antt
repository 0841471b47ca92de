-- The loop of `capped_value`.
use Rattle.std.proofs.Common.{◌≡◌, min, take}
use Rattle.rb_meaning_bytes.specs.tokens.Values.{number_value}
use Rattle.rb_lex.proofs.numbers.capped_value.Given as goal

abbrev pub invariant-loop-b : goal.invariant-loop-b
invariant-loop-b l = l.value ≡ min (number_value (take l.b-index l.digits)) 9223372036854775809
