-- How types are printed.
use Rattle.std.specs.Prelude.{List, [], ◌∷◌, ◌++◌}
use Rattle.rb_trees.specs.mirror.Types as type
use Rattle.rb_trees.specs.mirror.Types.{TypeTree}
use Rattle.rb_trees.specs.printing.Pieces.{Piece}
use Rattle.rb_trees.specs.printing.Words.{space, colon, less, greater, Int_word, Bool_word, Text_word, Unit_word, List_word, Rows_word, name_piece}

abbrev pub type_pieces : TypeTree → List Piece
type_pieces (type.Int at) = Int_word ∷ []
type_pieces (type.Bool at) = Bool_word ∷ []
type_pieces (type.Text at) = Text_word ∷ []
type_pieces (type.Unit at) = Unit_word ∷ []
type_pieces (type.Named at name) = name_piece name ∷ []
type_pieces (type.ListOf at item) = List_word ∷ less ∷ type_pieces item ++ greater ∷ []
type_pieces (type.RowsOf at row) = Rows_word ∷ less ∷ type_pieces row ++ greater ∷ []

-- a result type with its colon; Unit isn't printed
abbrev pub result_pieces : TypeTree → List Piece
result_pieces (type.Unit at) = []
result_pieces kind = colon ∷ space ∷ type_pieces kind

-- the type of a list, by the type of its items
abbrev pub list_pieces : TypeTree → List Piece
list_pieces item = List_word ∷ less ∷ type_pieces item ++ greater ∷ []
