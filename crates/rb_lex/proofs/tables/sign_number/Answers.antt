-- What `sign_number` answers.
use Rattle.rb_meaning_bytes.specs.tokens.Tables.{signs}
use Rattle.rb_lex.proofs.tables.sign_number.Goals as goal

pub returns-clause-value : goal.returns-clause-value
unfolding signs
returns-clause-value c = c.number_in.ensures.value
