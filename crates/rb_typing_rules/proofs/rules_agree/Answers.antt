-- Each clause holds by what its definition's own file proves.
use Rattle.rb_typing_rules.proofs.Exprs.{typed_has, has_typed}
use Rattle.rb_typing_rules.proofs.Stmts.{all_lead, lead_all}
use Rattle.rb_typing_rules.proofs.Wholes.{program_so, so_program, service_so, so_service}
use Rattle.rb_typing_rules.proofs.rules_agree.Goals as goal

pub returns-clause-exprs : goal.returns-clause-exprs
returns-clause-exprs c = λ x scope e kind. (typed_has x scope e kind, has_typed x scope e kind)

pub returns-clause-stmts : goal.returns-clause-stmts
returns-clause-stmts c = λ x scope ss after. (all_lead x scope ss after, lead_all x scope ss after)

pub returns-clause-programs : goal.returns-clause-programs
returns-clause-programs c = λ p. (program_so p, so_program p)

pub returns-clause-services : goal.returns-clause-services
returns-clause-services c = λ classes. (service_so classes, so_service classes)
