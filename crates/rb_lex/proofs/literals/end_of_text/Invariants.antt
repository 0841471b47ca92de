-- The loop of `end_of_text`.
use Rattle.std.proofs.Common.{◌≡◌, ◌-◌, ◌≤◌, ◌<◌, length, drop, false, MatchOption}
use Rattle.rb_lex.specs.Ends.{text_end, found_later}
use Rattle.rb_lex.proofs.literals.end_of_text.Given as goal

abbrev pub invariant-loop-n : goal.invariant-loop-n
invariant-loop-n l =
    (text_end false l.text ≡ found_later l.bad l.n l.size (text_end false (drop l.n l.text)))
    × (l.n ≤ length l.text) × (l.size ≤ l.n) × MatchOption l.bad (Unit {0}) (λ k. k < l.n)

abbrev pub decreases-loop-n : goal.decreases-loop-n
decreases-loop-n l = length l.text - l.n
