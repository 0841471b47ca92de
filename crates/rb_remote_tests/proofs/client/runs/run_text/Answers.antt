use Rattle.std.proofs.Common.{sym, subst}
use Rattle.rb_trees.specs.mirror.Declarations.{mirror_program}
use Rattle.rb_law_division.specs.Sendable.{HasPlaces}
use Rattle.rb_remote_tests.proofs.client.runs.run_text.Goals as goal

pub run_typed-requires : goal.run_typed-requires
run_typed-requires g c =
    let places = c.read_programs_have_places.ensures _ (mirror_program c.in-Ok.program) c.in-Ok.ensures.read in
    subst (λ q. HasPlaces (mirror_program q)) (sym c.in-Ok-check.ensures.same) places
