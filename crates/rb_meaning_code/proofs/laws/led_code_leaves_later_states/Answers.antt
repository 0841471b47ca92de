-- What all code leaves where surroundings lead.
use Rattle.rb_meaning_code.specs.Leads.{leads}
use Rattle.rb_meaning_code.proofs.Led.{led_later}
use Rattle.rb_meaning_code.proofs.laws.led_code_leaves_later_states.Goals as goal

pub returns : goal.returns
returns g c = led_later (leads g.W.Surroundings)
