use Rattle.rb_flow.specs.Walks.{Walked}
use Rattle.rb_flow.proofs.chain.walk.Given as goal

abbrev pub invariant-back : goal.invariant-back
invariant-back l = Walked l.writers l.search.levels.items l.fn.positions.items l.positions.items l.fn.from l.here

abbrev pub decreases-back : goal.decreases-back
decreases-back l = l.here.level
