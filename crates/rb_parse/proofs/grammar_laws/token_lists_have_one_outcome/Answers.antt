use Rattle.rb_meaning_bytes.specs.grammar.Symbols.{TheProgram}
use Rattle.rb_parse.proofs.Outcomes.{one_read}
use Rattle.rb_parse.proofs.grammar_laws.token_lists_have_one_outcome.Goals as goal

pub returns : goal.returns
returns c = one_read TheProgram
