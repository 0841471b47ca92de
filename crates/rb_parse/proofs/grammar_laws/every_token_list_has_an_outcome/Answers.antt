use Rattle.rb_meaning_bytes.specs.grammar.Symbols.{TheProgram}
use Rattle.rb_parse.proofs.Laws.{some_read}
use Rattle.rb_parse.proofs.grammar_laws.every_token_list_has_an_outcome.Goals as goal

pub returns : goal.returns
returns c = some_read TheProgram
