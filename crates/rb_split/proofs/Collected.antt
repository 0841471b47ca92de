-- What is collected of a program's tree.
use Rattle.std.proofs.Common.{◌≡◌, ap, ◌∙◌, List, map}
use Rattle.std.specs.Prelude.{IfOk, Result, Ok, Err}
use Rattle.rb_trees.specs.declared.declarations.Program as program
use Rattle.rb_trees.specs.mirror.Declarations.{mirror_program}
use Rattle.rb_meaning_flow.specs.Outermost.{program_batches}
use Rattle.rb_flow.specs.declared.outermost.OpenBatch.{OpenBatch}
use Rattle.rb_flow.specs.Begun.{begun, begun_of, program_begun}
use Rattle.rb_flow.proofs.Among.{program_collected}
use Rattle.rb_split.specs.Views.{facts}

pub collected_so : {E : Type 0} (r : Result (List OpenBatch) E) (p q x : program.Program) → x ≡ p → q ≡ p → IfOk r (λ bs. map begun_of bs ≡ program_begun (facts x) (mirror_program q))
    → IfOk r (λ bs. map begun_of bs ≡ map begun (program_batches (facts p) (mirror_program p)))
collected_so (Ok bs) p q x ex eq h =
    h ∙ ap (λ y. program_begun (facts y) (mirror_program q)) ex ∙ ap (λ y. program_begun (facts p) (mirror_program y)) eq ∙ program_collected (facts p) (mirror_program p)
collected_so (Err e) p q x ex eq h = tt
