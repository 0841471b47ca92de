use Rattle.std.proofs.Common.{sym, subst}
use Rattle.rb_trees.specs.mirror.Declarations.{mirror_program}
use Rattle.rb_flow.specs.Program.{HasNoRefusal}
use Rattle.rb_remote_tests.proofs.client.runs.run_typed.Goals as goal

pub run-requires-clause-none : goal.run-requires-clause-none
run-requires-clause-none g c = subst (λ q. HasNoRefusal (mirror_program q)) (sym c.in-Ok.ensures.typed) c.in-Ok.ensures.admission
