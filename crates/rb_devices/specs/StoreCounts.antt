-- What files as disks are seen as.
use Rattle.std.specs.Prelude.{ℕ}

-- how many calls of `open` failed, and how many of the disks that came back were broken
pub record StoreCounts : Type 0 where
  pub faults : ℕ
  pub broken : ℕ

-- none yet
abbrev pub no_counts : StoreCounts
no_counts = record { faults = 0; broken = 0 }
