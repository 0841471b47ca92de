use Rattle.std.proofs.Common.{◌≡◌, ◌+◌, ◌≤◌, length, take, not}
use Rattle.std.specs.List.{suffix_len}
use Rattle.rb_meaning.specs.Place.{is_line_feed}
use Rattle.rb_help.proofs.lines.start_of_last.Given as goal

-- no line feed stands behind the start so far
abbrev pub invariant-loop-start : goal.invariant-loop-start
invariant-loop-start l = record {
  within : l.start ≤ length l.text;
  rest : l.start + suffix_len (λ b. not (is_line_feed b)) l.text ≡ length l.text + suffix_len (λ b. not (is_line_feed b)) (take l.start l.text);
}

abbrev pub decreases-loop-start : goal.decreases-loop-start
decreases-loop-start l = l.start
