use Rattle.std.proofs.Common.{sym}
use Rattle.rb_hub.proofs.Places.{known}
use Rattle.rb_hub.proofs.seats.seat_of.Goals as goal

pub returns-in-Some-clause-refused : goal.returns-in-Some-clause-refused
returns-in-Some-clause-refused c = sym (known _ _ _ c.in-Some.ensures)
