use Rattle.std.proofs.Common.{◌≡◌, ℕ, ◌<◌, get_or, false}
use Rattle.rb_meaning.specs.Place.{is_line_feed}
use Rattle.rb_top.proofs.printing.first_line_length.Given as goal

-- no line feed stands so far
abbrev pub invariant-loop-count : goal.invariant-loop-count
invariant-loop-count l = (k : ℕ) → k < l.count → is_line_feed (get_or l.text k 0) ≡ false
