-- The code of what a host is seen as.
use Rattle.std.specs.Prelude.{List}
use Rattle.std.specs.Coded.{Coded, code_by, coded×, coded_list}
use mathlib.Core.Path.{refl}
use Rattle.rb_trees.specs.contracts.services.Object as object_code
use Rattle.rb_trees.specs.contracts.services.Service as service_code
use Rattle.rb_trees.specs.declared.services.Object.{Object}
use Rattle.rb_trees.specs.declared.services.Service.{Service}
use Rattle.rb_exec.specs.Hosted.{Hosted}

abbrev pub host_code : Coded Hosted
host_code =
    code_by (Service × List Object) (coded× service_code.the_row.coded (coded_list object_code.the_row.coded)) (λ h. (h.service, h.table))
    (λ p. record { service = p.0; table = p.1 }) (λ _. refl)
