-- How deep scripts may nest.
use Rattle.std.specs.Prelude.{ℕ}

-- the greatest number of blocks within each other; the script's own is the first
abbrev pub most_blocks : ℕ
most_blocks = 64

-- the greatest number of expressions within each other
abbrev pub most_exprs : ℕ
most_exprs = 256
