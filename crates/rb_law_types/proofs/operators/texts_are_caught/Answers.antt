-- Texts of faults.
use Rattle.rb_law_types.proofs.Faults.{caught_is_text}
use Rattle.rb_law_types.proofs.operators.texts_are_caught.Goals as goal

pub returns : goal.returns
returns c = caught_is_text
