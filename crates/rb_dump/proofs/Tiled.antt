-- Pieces that cover bytes.
use Rattle.std.proofs.Common.{◌≡◌, ◌<◌, ℕ, List, [], ◌∷◌, ◌++◌, refl, sym, ◌∙◌}
use Rattle.rb_dump.specs.declared.pieces.Piece.{Piece}
use Rattle.rb_dump.specs.Pieces.{Tiles}

-- a piece more
pub one_more : (from : ℕ) (pieces : List Piece) (at : ℕ) (piece : Piece) → Tiles from pieces at → piece.start ≡ at → piece.start < piece.end
    → Tiles from (pieces ++ piece ∷ []) piece.end
one_more from [] at piece tiled begins some = (begins ∙ sym tiled, some, refl)
one_more from (p ∷ pieces) at piece tiled begins some = (tiled.0, tiled.1, one_more p.end pieces at piece tiled.2 begins some)
