use Rattle.std.proofs.Common.{◌≡◌, ℕ, None, vec_len}
use Rattle.std.specs.Ordering.{nat_cmp}
use Rattle.std.specs.BTreeMap.{get}
use Rattle.rb_marks.specs.Notes.{first_at}
use Rattle.rb_marks.proofs.index.index_marks.Given as goal

abbrev pub invariant-loop-last : goal.invariant-loop-last
invariant-loop-last l = (q : ℕ) → first_at l.rest.items q (get nat_cmp l.index q) ≡ first_at l.fn.notes.items q None

abbrev pub decreases-loop-last : goal.decreases-loop-last
decreases-loop-last l = vec_len l.rest
