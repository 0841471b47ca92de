-- What a real Dial is seen as.
use Rattle.std.specs.Prelude.{ℕ}

-- how many dials failed, and how many of the links that came back were broken
pub record DialCounts : Type 0 where
  pub faults : ℕ
  pub broken : ℕ

-- nothing dialled yet
abbrev pub new_counts : DialCounts
new_counts = record { faults = 0; broken = 0 }
