-- Which group ends a number.
use Rattle.std.specs.Prelude.{ℕ, Bool, ◌&&◌, ◌||◌, nat_eq, nat_lt}

-- A group below 128 ends a number where more groups may follow it or it is small enough, and it is the first one or isn't 0.
abbrev pub may_end : (last left unit group : ℕ) → Bool
may_end last left unit group = (nat_lt 0 left || nat_lt group last) && (nat_eq unit 1 || nat_lt 0 group)
