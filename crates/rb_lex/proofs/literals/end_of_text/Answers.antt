-- The turns of the loop of `end_of_text`.
use Rattle.std.proofs.Common.{arith}
use Rattle.std.proofs.lemmas.Grind.{common_steps}
use Rattle.rb_lex.proofs.Endings.{end_steps}
use Rattle.rb_lex.proofs.literals.end_of_text.Goals.{then-b-eq92+then-makes_escape, then-b-eq92+else-makes_escape, else-b-eq92}
use Rattle.rb_lex.proofs.literals.end_of_text.Goals as goal

pub loop-n-preserved : goal.loop-n-preserved
loop-n-preserved c = elim c.if-b-eq92.branch [
  | then-b-eq92+then-makes_escape w ↦ grind (arith, common_steps, end_steps)
  | then-b-eq92+else-makes_escape w ↦ grind (arith, common_steps, end_steps)
  | else-b-eq92 w ↦ grind (arith, common_steps, end_steps)
]
