-- Each clause holds by induction on its trees.
use Rattle.rb_law_types.proofs.FormedCode.{expr_formed, stmts_formed, classes_formed}
use Rattle.rb_law_types.proofs.lawful.lawful_code_is_formed.Goals as goal

pub returns-clause-exprs : goal.returns-clause-exprs
returns-clause-exprs c = expr_formed

pub returns-clause-stmts : goal.returns-clause-stmts
returns-clause-stmts c = stmts_formed

pub returns-clause-classes : goal.returns-clause-classes
returns-clause-classes c = classes_formed
