-- Where the tokens of pieces stand in the text of all of them.
use Rattle.std.specs.Prelude.{ℕ, ◌+◌, List, [], ◌∷◌, length}
use Rattle.rb_trees.specs.declared.tokens.Token.{Token as Lexeme}
use Rattle.rb_trees.specs.printing.Pieces.{Piece, Token, Space}

-- the tokens of pieces of which the first begins at an offset
abbrev pub tokens_at : ℕ → List Piece → List Lexeme
tokens_at at [] = []
tokens_at at (Token kind bytes ∷ ps) = record { kind = kind; start = at; end = at + length bytes } ∷ tokens_at (at + length bytes) ps
tokens_at at (Space bytes ∷ ps) = tokens_at (at + length bytes) ps
