use Rattle.std.proofs.Common.{◌≡◌, drop}
use Rattle.rb_flow.specs.Levels.{expanded}
use Rattle.rb_flow.proofs.levels.reach.Given as goal

abbrev pub invariant-loop-place : goal.invariant-loop-place
invariant-loop-place l = expanded l.level (drop l.place-index l.places) (record { levels = l.levels.items; next = l.next.items })
    ≡ expanded l.level l.places (record { levels = l.fn.levels.items; next = l.fn.next.items })
