use Rattle.rb_store.proofs.Told.{one_outcome}
use Rattle.rb_store.proofs.laws.sources_have_one_outcome_as_services.Goals as goal

pub returns : goal.returns
returns c = λ source. one_outcome source (c.service_sources_have_one_outcome.ensures source)
