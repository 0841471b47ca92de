-- All carried loops of a program.
use Rattle.rb_law_unsplit.proofs.CarriedLoops.{lawful_have_carried_loops}
use Rattle.rb_law_unsplit.proofs.carried_loops_stand_at_their_positions.Goals as goal

pub returns : goal.returns
returns c = lawful_have_carried_loops
