-- Both hold of each of the three facts of later states.
use Rattle.rb_meaning_code.proofs.Orders.{later_same, later_on}
use Rattle.rb_meaning_code.proofs.laws.later_is_an_order.Goals as goal

pub returns-clause-reflexive : goal.returns-clause-reflexive
returns-clause-reflexive c = later_same

pub returns-clause-transitive : goal.returns-clause-transitive
returns-clause-transitive c = later_on
