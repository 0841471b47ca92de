-- Each clause holds by induction on the run.
use Rattle.rb_meaning_code.specs.Leads.{leads}
use Rattle.rb_meaning_code.proofs.Led.{ends_as_handled, is_cut_as_handled, rest_ends_as_whole}
use Rattle.rb_meaning_code.proofs.laws.led_runs_are_handled.Goals as goal

pub returns-clause-ended : goal.returns-clause-ended
returns-clause-ended g c = ends_as_handled g.W.SeenAs.sees (leads g.W.Surroundings)

pub returns-clause-cut : goal.returns-clause-cut
returns-clause-cut g c = is_cut_as_handled g.W.SeenAs.sees (leads g.W.Surroundings)

pub returns-clause-rest : goal.returns-clause-rest
returns-clause-rest g c = rest_ends_as_whole
