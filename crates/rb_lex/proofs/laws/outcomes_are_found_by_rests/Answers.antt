-- The law that outcomes are found from rest to rest.
use Rattle.rb_lex.proofs.Places.{both_ways}
use Rattle.rb_lex.proofs.laws.outcomes_are_found_by_rests.Goals as goal

pub returns : goal.returns
returns c = λ text. both_ways text
