-- Bytes over others.
use Rattle.std.specs.Prelude.{ℕ, ◌+◌, List, ◌++◌, take, drop, length}

-- the bytes with others in place of those from a place on
abbrev pub filled : ℕ → List ℕ → List ℕ → List ℕ
filled at bytes all = take at all ++ bytes ++ drop (at + length bytes) all
