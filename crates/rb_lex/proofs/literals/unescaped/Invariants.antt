-- The loop of `unescaped`.
use Rattle.std.proofs.Common.{◌≡◌, ◌++◌, length, false}
use Rattle.rb_meaning_bytes.specs.tokens.Values.{unescaped}
use Rattle.rb_lex.proofs.literals.unescaped.Given as goal

abbrev pub invariant-loop-rest : goal.invariant-loop-rest
invariant-loop-rest l = unescaped false l.text ≡ l.value ++ unescaped false l.rest

abbrev pub decreases-loop-rest : goal.decreases-loop-rest
decreases-loop-rest l = length l.rest
