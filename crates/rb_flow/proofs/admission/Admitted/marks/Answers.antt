use Rattle.std.proofs.Common.{subst}
use Rattle.rb_trees.specs.mirror.Declarations.{mirror_program}
use Rattle.rb_flow.specs.Program.{IsAdmittedWith}
use Rattle.rb_flow.proofs.admission.Admitted.marks.Goals as goal

pub returns-clause-own : goal.returns-clause-own
returns-clause-own c = (subst (λ v. IsAdmittedWith (mirror_program v.0) v.1) c.self.view_is c.self.invariant.0).own
