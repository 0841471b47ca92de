use Rattle.std.proofs.Common.{◌≡◌, ◌||◌, ℕ, vec_len}
use Rattle.std.specs.BTreeSet.{contains}
use Rattle.std.specs.Ordering.{nat_cmp}
use Rattle.rb_flow.proofs.Positions.{any_at}
use Rattle.rb_flow.proofs.loops.index_loops.Given as goal

abbrev pub invariant-loop-last : goal.invariant-loop-last
invariant-loop-last l = (q : ℕ) → (contains nat_cmp l.set q || any_at q l.rest.items) ≡ any_at q l.fn.loops.items

abbrev pub decreases-loop-last : goal.decreases-loop-last
decreases-loop-last l = vec_len l.rest
