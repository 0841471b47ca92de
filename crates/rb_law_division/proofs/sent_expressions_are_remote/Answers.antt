-- By the sites of the parts of expressions.
use Rattle.rb_law_division.proofs.SentSites.{sent_is_remote}
use Rattle.rb_law_division.proofs.sent_expressions_are_remote.Goals as goal

pub returns : goal.returns
returns c = sent_is_remote
