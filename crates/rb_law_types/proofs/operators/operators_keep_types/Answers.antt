-- Each clause holds by what is proved of its operators.
use Rattle.rb_law_types.proofs.Results.{one_keeps, two_keep, left_keeps, index_keeps, lists_keep}
use Rattle.rb_law_types.proofs.operators.operators_keep_types.Goals as goal

pub returns-clause-one : goal.returns-clause-one
returns-clause-one c = one_keeps

pub returns-clause-two : goal.returns-clause-two
returns-clause-two c = two_keep

pub returns-clause-left : goal.returns-clause-left
returns-clause-left c = left_keeps

pub returns-clause-index : goal.returns-clause-index
returns-clause-index c = index_keeps

pub returns-clause-lists : goal.returns-clause-lists
returns-clause-lists c = lists_keep
