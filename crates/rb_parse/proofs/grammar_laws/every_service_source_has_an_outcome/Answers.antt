use Rattle.rb_meaning_bytes.specs.grammar.Symbols.{TheService}
use Rattle.rb_parse.proofs.Outcomes.{some_source}
use Rattle.rb_parse.proofs.grammar_laws.every_service_source_has_an_outcome.Goals as goal

pub returns : goal.returns
returns c = some_source TheService
