-- Loops over runs of bytes, and the capped value of digits.
use Rattle.std.proofs.Common.{◌≡◌, ℕ, ◌+◌, ◌-◌, ◌*◌, ◌^◌, min, arith}
use Rattle.std.proofs.lemmas.List.Sums.{prefix_len-drop_yes, prefix_len-drop_no, prefix_len-drop_all}

pub ruleset run_steps = (prefix_len-drop_yes, prefix_len-drop_no, prefix_len-drop_all)

-- One more digit, at values above the limit as at the limit.
pub capped : (v d : ℕ) → min (10 * v + d) 9223372036854775809 ≡ min (min (min (min v 9223372036854775809 * 10) (2 ^ 64 - 1) + d) (2 ^ 64 - 1)) 9223372036854775809
capped v d = omega arith

pub ruleset value_steps = (capped)
