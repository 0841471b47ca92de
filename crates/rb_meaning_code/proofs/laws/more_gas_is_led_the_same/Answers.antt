-- All code within two gases, where surroundings lead.
use Rattle.rb_meaning_code.specs.Leads.{leads}
use Rattle.rb_meaning_code.proofs.Led.{led_the_same}
use Rattle.rb_meaning_code.proofs.laws.more_gas_is_led_the_same.Goals as goal

pub returns : goal.returns
returns g c = led_the_same (leads g.W.Surroundings)
