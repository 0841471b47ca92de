use Rattle.std.proofs.Common.{◌≡◌, ◌≤◌, length, arith}
use Rattle.std.proofs.lemmas.Grind.{common_steps}
use Rattle.std.proofs.lemmas.List.{nil_from_length}
use Rattle.rb_flow.proofs.Served.{served_at_first}
use Rattle.rb_flow.proofs.Search.{search_starts_at, turn_taken, search_ends}
use Rattle.rb_flow.proofs.levels.levels_of.Goals as goal

pub levels-init : goal.levels-init
levels-init c = record { searched = search_starts_at _ _ _ c.in_ok-start.ensures.levels c.in_ok-start.ensures.frontier; positive = omega arith; serves = served_at_first _ c.args.writers.now _ c.in_ok-start.ensures.levels c.in_ok-readers.ensures }

pub levels-smaller : goal.levels-smaller
levels-smaller c =
    let some : 1 ≤ length c.levels.frontier.items = grind (arith, common_steps) in
    let taken = turn_taken c.args.writers.now c.levels.levels.items c.levels.frontier.items c.deref.result.now c.new-next.result.items c.levels.level (record { levels = c.reach_all.new.levels.items; next = c.reach_all.new.next.items })
    c.levels.invariant.positive some c.levels.invariant.searched c.deref.ensures.value c.new-next.ensures.items c.in_ok-reach_all.ensures.reached in
    omega (arith, taken.1)

pub levels-preserved : goal.levels-preserved
levels-preserved c =
    let some : 1 ≤ length c.levels.frontier.items = grind (arith, common_steps) in
    let taken = turn_taken c.args.writers.now c.levels.levels.items c.levels.frontier.items c.deref.result.now c.new-next.result.items c.levels.level (record { levels = c.reach_all.new.levels.items; next = c.reach_all.new.next.items })
    c.levels.invariant.positive some c.levels.invariant.searched c.deref.ensures.value c.new-next.ensures.items c.in_ok-reach_all.ensures.reached in
    record { searched = taken.0; positive = omega arith; serves = c.in_ok-reach_all.ensures.serves }

pub returns : goal.returns
returns c =
    let none : length c.levels.frontier.items ≡ 0 = grind (arith, common_steps) in
    search_ends c.args.writers.now c.levels.levels.items c.levels.frontier.items c.levels.level (nil_from_length _ none) c.levels.invariant.searched
