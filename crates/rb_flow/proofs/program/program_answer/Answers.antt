use Rattle.std.proofs.Common.{[], map, ap, subst, sym, ◌∙◌}
use Rattle.rb_trees.specs.mirror.Declarations.{mirror_program}
use Rattle.rb_flow.specs.Begun.{begun_of, program_begun}
use Rattle.rb_flow.specs.Carried.{batches_noted}
use Rattle.rb_flow.specs.Program.{AllDiffer, IsAnswerAmong}
use Rattle.rb_flow.specs.Views.{facts}
use Rattle.rb_flow.proofs.Among.{program_differs, program_result}
use Rattle.rb_flow.proofs.CarriedLoops.{program_loops}
use Rattle.rb_flow.proofs.program.program_answer.Goals as goal

pub answer_all-requires : goal.answer_all-requires
answer_all-requires c =
    subst (λ q. AllDiffer (facts q) (map begun_of c.into_vec.result.items)) (sym c.in_ok-x.ensures)
    (program_differs (mirror_program c.args.typed.now) c.program.ensures.lawful (map begun_of c.into_vec.result.items)
    (ap (map begun_of) c.into_vec.ensures ∙ c.in_ok-batches.ensures ∙ ap (λ y. program_begun (facts y) (mirror_program c.program.result.now)) c.in_ok-x.ensures
    ∙ ap (λ p. program_begun (facts c.args.typed.now) (mirror_program p)) c.program.ensures.same))

pub returns-clause-answer : goal.returns-clause-answer
returns-clause-answer c =
    program_result (mirror_program c.args.typed.now) (map begun_of c.into_vec.result.items) c.in_ok-answer.answer
    (ap (map begun_of) c.into_vec.ensures ∙ c.in_ok-batches.ensures ∙ ap (λ y. program_begun (facts y) (mirror_program c.program.result.now)) c.in_ok-x.ensures
    ∙ ap (λ p. program_begun (facts c.args.typed.now) (mirror_program p)) c.program.ensures.same)
    (subst (λ q. IsAnswerAmong (facts q) (map begun_of c.into_vec.result.items) c.in_ok-answer.answer) c.in_ok-x.ensures c.in_ok-answer.ensures)

pub returns-clause-loops : goal.returns-clause-loops
returns-clause-loops c =
    c.in_ok-loops.ensures ∙ ap (λ bs. batches_noted (facts c.in_ok-x.x) [] (map begun_of bs)) c.as_slice.ensures
    ∙ ap (batches_noted (facts c.in_ok-x.x) []) (c.in_ok-batches.ensures ∙ ap (λ p. program_begun (facts c.in_ok-x.x) (mirror_program p)) c.program.ensures.same)
    ∙ ap (λ y. batches_noted (facts y) [] (program_begun (facts y) (mirror_program c.args.typed.now))) c.in_ok-x.ensures
    ∙ program_loops (mirror_program c.args.typed.now)
