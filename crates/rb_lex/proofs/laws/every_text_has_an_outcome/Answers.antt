-- The law that every text has an outcome.
use Rattle.rb_lex.proofs.Total.{some_outcome}
use Rattle.rb_lex.proofs.laws.every_text_has_an_outcome.Goals as goal

pub returns : goal.returns
returns c = λ text. some_outcome text
