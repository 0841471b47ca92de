use Rattle.rb_store.proofs.Told.{some_outcome}
use Rattle.rb_store.proofs.laws.every_source_has_an_outcome_as_a_service.Goals as goal

pub returns : goal.returns
returns c = λ source. some_outcome source (c.every_service_source_has_an_outcome.ensures source)
