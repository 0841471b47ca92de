use Rattle.rb_meaning_bytes.specs.grammar.Symbols.{TheService}
use Rattle.rb_parse.proofs.Outcomes.{one_source}
use Rattle.rb_parse.proofs.grammar_laws.service_sources_have_one_outcome.Goals as goal

pub returns : goal.returns
returns c = one_source TheService
