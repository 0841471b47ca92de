use Rattle.rb_law_reading.proofs.Whole.{places}
use Rattle.rb_law_reading.proofs.read_programs_have_places.Goals as goal

pub returns : goal.returns
returns c = places
