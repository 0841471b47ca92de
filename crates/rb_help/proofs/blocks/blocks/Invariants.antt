use Rattle.rb_help.proofs.Quoting.{QuotesSoFar}
use Rattle.rb_help.proofs.blocks.blocks.Given as goal

abbrev pub invariant-loop-number : goal.invariant-loop-number
invariant-loop-number l = QuotesSoFar l.sheet l.ats l.earlier l.number l.text
