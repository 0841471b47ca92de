-- Both clauses hold since what is computed has one outcome.
use Rattle.rb_meaning_types.specs.Programs.{check_program, check_service}
use Rattle.rb_typing_rules.specs.Programs.{IsTyped, IsTypedService}
use Rattle.rb_typing_rules.specs.BrokenPrograms.{FirstViolation, FirstViolationOfService}
use Rattle.rb_typing_rules.proofs.Wholes.{program_so, so_program, service_so, so_service}
use Rattle.rb_typing_rules.proofs.BrokenPrograms.{program_first, first_program, service_first, first_service}
use Rattle.rb_typing_rules.proofs.Outcomes.{outcome}
use Rattle.rb_typing_rules.proofs.one_outcome.Goals as goal

pub returns-clause-programs : goal.returns-clause-programs
returns-clause-programs c = λ p. outcome (IsTyped p) (FirstViolation p) (check_program p) (program_so p) (so_program p) (program_first p) (first_program p)

pub returns-clause-services : goal.returns-clause-services
returns-clause-services c = λ classes.
    outcome (IsTypedService classes) (FirstViolationOfService classes) (check_service classes) (service_so classes) (so_service classes) (service_first classes) (first_service classes)
