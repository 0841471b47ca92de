-- Pieces of bytes.
use Rattle.std.specs.Prelude.{◌≡◌, ◌<◌, ℕ, List, [], ◌∷◌}
use Rattle.rb_dump.specs.declared.pieces.Piece.{Piece}

-- The pieces stand one behind the other, from one offset to another: each begins where the one before it ended, none is empty,
-- and the last one ends at the end.
abbrev pub Tiles : ℕ → List Piece → ℕ → Type 0
Tiles from [] to = from ≡ to
Tiles from (piece ∷ pieces) to = (piece.start ≡ from) × (piece.start < piece.end) × Tiles piece.end pieces to

-- Bytes that are being shown: the pieces so far, and where the next one begins.
pub record Shown : Type 0 where
  pub bytes : List ℕ
  pub at : ℕ
  pub pieces : List Piece
