use Rattle.std.proofs.Common.{subst}
use Rattle.rb_trees.specs.Outcome.{Gives}
use Rattle.rb_wire_forest.specs.Walks.{seen, step_told}
use Rattle.rb_wire_forest.proofs.Walked.{turns_same, list_same}
use Rattle.rb_wire_forest.proofs.fitting.+parts.Goals as goal

pub read_part-returns-in-Some : goal.read_part-returns-in-Some
read_part-returns-in-Some n c =
    subst (λ m. Gives seen step_told c.read_turns.result m)
    (turns_same c.args.lengths.now c.args.part.now c.in-Turns.step c.in-Turns.kind c.in-Turns.name c.in-Turns.body c.as_slice-in-Some.result.now c.in-Some.turns.now c.in-Some.rest.now
    (seen c.args.walk.now) (seen c.go-from.result) c.in-Turns.is c.as_slice-in-Some.ensures c.in-Some.ensures c.go-from.ensures)
    c.read_turns.ensures

pub read_part-returns-in-Some-first_rows : goal.read_part-returns-in-Some-first_rows
read_part-returns-in-Some-first_rows n c =
    subst (λ m. Gives seen step_told c.read_list.result m)
    (list_same c.args.lengths.now c.args.part.now c.in-Over.step c.in-Over.at c.in-Over.name c.in-Over.list c.in-Over.input c.length_of-items.result c.in-Over.body c.as_slice-in-Some-first_rows.result.now
    c.in-Some-first_rows.turns.now c.in-Some-first_rows.rest.now (seen c.args.walk.now) (seen c.go-from-in-Some-first_rows.result) c.in-Over.is c.as_slice-in-Some-first_rows.ensures
    c.length_of-items.ensures c.in-Some-first_rows.ensures c.go-from-in-Some-first_rows.ensures)
    c.read_list.ensures
