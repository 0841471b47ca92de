-- A printed text is a list of pieces: tokens as they are spelled, and the space between them.
use Rattle.std.specs.Prelude.{◌≡◌, ℕ, List, [], ◌∷◌, ◌++◌, Result, OnOk}
use Rattle.rb_trees.specs.declared.tokens.TokenKind.{TokenKind}

pub data Piece : Type 0 where
  Token : (kind : TokenKind) (bytes : List ℕ) → Piece
  Space : (bytes : List ℕ) → Piece

abbrev pub spelling : Piece → List ℕ
spelling (Token kind bytes) = bytes
spelling (Space bytes) = bytes

-- the text of pieces
abbrev pub spelled : List Piece → List ℕ
spelled [] = []
spelled (p ∷ ps) = spelling p ++ spelled ps

-- Where the call succeeds, it added the text of the pieces to the end.
abbrev pub Adds : {X E : Type 0} → List Piece → List ℕ → Result X E → List ℕ → Type 0
Adds pieces old result new = OnOk result (new ≡ old ++ spelled pieces)
