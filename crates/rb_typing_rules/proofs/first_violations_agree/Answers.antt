-- Each clause holds by what its definition's own file proves.
use Rattle.rb_typing_rules.proofs.BrokenExprs.{expr_broken, so_broken}
use Rattle.rb_typing_rules.proofs.BrokenStmts.{stmts_broken, so_stmts}
use Rattle.rb_typing_rules.proofs.BrokenPrograms.{program_first, first_program, service_first, first_service}
use Rattle.rb_typing_rules.proofs.first_violations_agree.Goals as goal

pub returns-clause-exprs : goal.returns-clause-exprs
returns-clause-exprs c = λ x scope e v. (expr_broken x scope e v, so_broken x scope e v)

pub returns-clause-stmts : goal.returns-clause-stmts
returns-clause-stmts c = λ x scope ss v. (stmts_broken x scope ss v, so_stmts x scope ss v)

pub returns-clause-programs : goal.returns-clause-programs
returns-clause-programs c = λ p v. (program_first p v, first_program p v)

pub returns-clause-services : goal.returns-clause-services
returns-clause-services c = λ classes v. (service_first classes v, first_service classes v)
