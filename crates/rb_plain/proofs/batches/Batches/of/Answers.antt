use Rattle.std.proofs.Common.{refl, ap, ◌∙◌}
use Rattle.rb_trees.specs.mirror.Declarations.{mirror_program}
use Rattle.rb_flow.specs.Begun.{program_begun}
use Rattle.rb_flow.specs.Views.{facts}
use Rattle.rb_plain.specs.Batches.{place_in}
use Rattle.rb_plain.proofs.Found.{are_batches}
use Rattle.rb_plain.proofs.batches.Batches.of.Goals as goal

pub returns : goal.returns
returns c =
    are_batches (mirror_program c.args.facts.now) (record { batches = c.in_ok-batches.batches; places = c.in_ok-places.places }) c.in_ok-batches.batches refl
    (c.in_ok-batches.ensures ∙ ap (λ q. program_begun (facts c.args.facts.now) (mirror_program q)) (c.program.ensures.same ∙ c.typed.ensures))
    (λ at. c.in_ok-places.ensures at ∙ ap (λ bs. place_in bs at 0) c.as_slice.ensures)
