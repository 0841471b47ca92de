use Rattle.rb_engine.proofs.names.named_value.Goals as goal

pub returns : goal.returns
returns g c = record { outcome = c.found_value.result; gives = c.found_value.ensures; lifts = c.lift.ensures }
