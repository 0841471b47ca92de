-- The law that no text has two outcomes.
use Rattle.rb_lex.proofs.Places.{one_lexed}
use Rattle.rb_lex.proofs.laws.texts_have_one_outcome.Goals as goal

pub returns : goal.returns
returns c = λ text. one_lexed text
