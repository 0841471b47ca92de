-- What `keyword_number` answers.
use Rattle.rb_meaning_bytes.specs.tokens.Tables.{keywords}
use Rattle.rb_lex.proofs.tables.keyword_number.Goals as goal

pub returns-clause-value : goal.returns-clause-value
unfolding keywords
returns-clause-value c = c.number_in.ensures.value
