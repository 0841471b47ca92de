-- The pieces of a service with its objects.
use Rattle.std.proofs.Common.{ℕ, ℤ, pos, negsuc, suc, List, [], ◌∷◌, ◌++◌, codes}
use Rattle.rb_trees.specs.mirror.Declarations.{Class}
use Rattle.rb_trees.specs.mirror.Services.{Literal, Literals, Int, Bool as Truth, Text, Object as Reference, Items, NoLiterals, MoreLiterals, ObjectText}
use Rattle.rb_trees.specs.printing.Pieces.{Piece, Space}
use Rattle.rb_trees.specs.printing.Programs.{classes_pieces}
use Rattle.rb_trees.specs.printing.Words as w
use Rattle.rb_trees.specs.printing.Words.{space, name_piece, number_piece, bool_piece, text_piece}

abbrev pub object_word : Piece
object_word = w.word (codes "object")

abbrev pub root_word : Piece
root_word = w.word (codes "root")

abbrev pub number_sign : Piece
number_sign = w.sign (codes "#")

-- a line's end
abbrev pub feed : Piece
feed = Space (10 ∷ [])

-- an Int with its sign
abbrev pub signed_pieces : ℤ → List Piece
signed_pieces (pos n) = number_piece n ∷ []
signed_pieces (negsuc n) = w.minus ∷ number_piece (suc n) ∷ []

abbrev mutual
  pub literal_pieces : Literal → List Piece
  literal_pieces (Int number) = signed_pieces number
  literal_pieces (Truth truth) = bool_piece truth ∷ []
  literal_pieces (Text text) = text_piece text ∷ []
  literal_pieces (Reference number) = number_sign ∷ number_piece number ∷ []
  literal_pieces (Items items) = w.open_bracket ∷ (items_pieces items ++ w.close_bracket ∷ [])

  pub items_pieces : Literals → List Piece
  items_pieces NoLiterals = []
  items_pieces (MoreLiterals l ls) = literal_pieces l ++ more_pieces ls

  pub more_pieces : Literals → List Piece
  more_pieces NoLiterals = []
  more_pieces (MoreLiterals l ls) = w.comma ∷ space ∷ (literal_pieces l ++ more_pieces ls)

-- `NAME = LITERAL; ` for each field
abbrev pub given_pieces : List (List ℕ × Literal) → List Piece
given_pieces [] = []
given_pieces (g ∷ gs) = name_piece g.0 ∷ space ∷ w.assign ∷ space ∷ (literal_pieces g.1 ++ w.semicolon ∷ space ∷ given_pieces gs)

-- what stands behind the fields of an object
abbrev pub object_end : List Piece
object_end = w.close_brace ∷ feed ∷ []

-- `object NUMBER: CLASS { FIELDS }`
abbrev pub object_pieces : ObjectText → List Piece
object_pieces o =
    object_word ∷ space ∷ number_piece o.number ∷ w.colon ∷ space ∷ name_piece o.class ∷ space ∷ w.open_brace ∷ space ∷ (given_pieces o.fields ++ object_end)

abbrev pub objects_pieces : List ObjectText → List Piece
objects_pieces [] = []
objects_pieces (o ∷ os) = object_pieces o ++ objects_pieces os

-- `root NUMBER;`
abbrev pub root_pieces : ℕ → List Piece
root_pieces root = root_word ∷ space ∷ number_piece root ∷ w.semicolon ∷ feed ∷ []

-- classes, objects and the root
abbrev pub service_pieces : List Class → List ObjectText → ℕ → List Piece
service_pieces classes objects root = classes_pieces classes ++ (objects_pieces objects ++ root_pieces root)
