-- What a stage is seen as: a program and a service.
use Rattle.std.specs.Coded.{Coded, code_by, coded×}
use mathlib.Core.Path.{refl}
use Rattle.rb_trees.specs.contracts.declarations.Program as program_code
use Rattle.rb_trees.specs.contracts.services.Service as service_code
use Rattle.rb_trees.specs.declared.declarations.Program as program
use Rattle.rb_trees.specs.declared.services.Service as service
use Rattle.rb_trees.specs.mirror.Declarations.{Program, mirror_program}
use Rattle.rb_trees.specs.mirror.Services.{Service, mirror_service}

pub record Staged : Type 0 where
  pub program : program.Program
  pub service : service.Service

abbrev pub staged_code : Coded Staged
staged_code =
    code_by (program.Program × service.Service) (coded× program_code.the_row.coded service_code.the_row.coded) (λ s. (s.program, s.service))
    (λ p. record { program = p.0; service = p.1 }) (λ _. refl)

-- the program and the service in the mirror
abbrev pub program_of : Staged → Program
program_of st = mirror_program st.program

abbrev pub service_of : Staged → Service
service_of st = mirror_service st.service
