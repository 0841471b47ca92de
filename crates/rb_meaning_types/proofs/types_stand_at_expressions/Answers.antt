use Rattle.rb_meaning_types.proofs.Standing.{types_stand}
use Rattle.rb_meaning_types.proofs.types_stand_at_expressions.Goals as goal

pub returns : goal.returns
returns c = λ p at. types_stand p at
