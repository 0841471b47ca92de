-- The lines of readable classes are good before any lines: they are so in the text of a program that has just them.
use Rattle.std.proofs.Common.{◌≡◌, ℕ, Bool, false, List, [], ◌∷◌, ◌++◌, sym, subst, ◌∙◌, append_assoc, append-nil, None, arith}
use Rattle.std.specs.List.{All}
use Rattle.std.proofs.lemmas.List.Elements.{All-nil}
use Rattle.rb_trees.specs.declared.tokens.TokenKind.{TokenKind}
use Rattle.rb_trees.specs.declared.tokens.TokenKind.TheVariants as kinds
use Rattle.rb_trees.specs.mirror.Types as type
use Rattle.rb_trees.specs.mirror.Code.{NoStmts}
use Rattle.rb_trees.specs.mirror.Declarations.{Class, Program}
use Rattle.rb_trees.specs.printing.Pieces.{Piece, Token, Space, spelled}
use Rattle.rb_trees.specs.printing.Stmts.{line, opened, closed}
use Rattle.rb_trees.specs.printing.Programs.{inside, class_pieces, classes_pieces, fields_pieces, methods_pieces, main_head, program_pieces}
use Rattle.rb_trees.specs.printing.Words as w
use Rattle.rb_trees.specs.printing.Words.{space, name_piece}
use Rattle.rb_trees.proofs.printed.Pieces.{spelled_append}
use Rattle.rb_meaning_bytes.specs.tokens.Lists.{is_minus}
use Rattle.rb_parse.proofs.readable.Trees.{IsReadInterface, IsReadClass, IsReadable}
use Rattle.rb_parse.proofs.printing.lexed.Slices.{Starts, Ends, Parts}
use Rattle.rb_parse.proofs.printing.lexed.Good.{Good}
use Rattle.rb_parse.proofs.printing.lexed.Programs.{program_good}
use Rattle.rb_parse.proofs.printing.lexed.Stmts.{Lines}

-- the program that has the classes, and nothing else
abbrev pub alone : List Class → Program
alone cs = record { interfaces = []; classes = cs; result = type.Unit 0; body = record { statements = NoStmts; result = None }; at = 0 }

-- what stands behind the classes of such a program
abbrev pub main_pieces : List Piece
main_pieces = main_head (type.Unit 0) ++ closed []

pub alone_pieces : (cs : List Class) → program_pieces (alone cs) ≡ classes_pieces cs ++ main_pieces
alone_pieces cs = append_assoc (classes_pieces cs ++ main_head (type.Unit 0)) [] (closed []) ∙ append_assoc (classes_pieces cs) (main_head (type.Unit 0)) (closed [])

pub alone_readable : (cs : List Class) → All IsReadClass cs → IsReadable (alone cs)
alone_readable cs h = record { interfaces = All-nil IsReadInterface; classes = h; result = (tt, omega arith); body = (tt, tt) }

-- What may follow a token hangs on the first byte alone.

ends_same : (front : List ℕ) (b : ℕ) (one other : List ℕ) → Ends (front ++ b ∷ one) → Ends (front ++ b ∷ other)
ends_same [] b one other h = h
ends_same (a ∷ front) b one other h = h

starts_same : (front : List ℕ) (b : ℕ) (one other : List ℕ) → Starts (front ++ b ∷ one) → Starts (front ++ b ∷ other)
starts_same [] b one other h = h
starts_same (a ∷ front) b one other h = h

parts_same : (kind : TokenKind) (front : List ℕ) (b : ℕ) (one other : List ℕ) → Parts kind (front ++ b ∷ one) → Parts kind (front ++ b ∷ other)
parts_same kinds.Name front b one other h = ends_same front b one other h
parts_same kinds.Number front b one other h = ends_same front b one other h
parts_same kinds.TextLit front b one other h = tt
parts_same (kinds.Keyword n) front b one other h = ends_same front b one other h
parts_same (kinds.Sign n) front b one other h = starts_same front b one other h

-- the last line of a class, before others
module _ (one other : List Piece) where
  abbrev Front : List Piece
  Front = closed [] ++ one

  abbrev Back : List Piece
  Back = closed [] ++ other

  parts_too : (kind : TokenKind) (xs : List Piece) → Parts kind (spelled (xs ++ Front)) → Parts kind (spelled (xs ++ Back))
  parts_too kind xs h =
      subst (Parts kind) (sym (spelled_append xs Back))
      (parts_same kind (spelled xs) 125 (10 ∷ spelled one) (10 ∷ spelled other) (subst (Parts kind) (spelled_append xs Front) h))

  -- lines that end so may stand before other lines
  good_too : (minus : Bool) (xs : List Piece) → Good minus (xs ++ Front) → Good false other → Good minus (xs ++ Back)
  good_too minus [] g h =
      (g.0, g.1, (record { formed = g.2.0.formed; limits = g.2.0.limits; utf8 = g.2.0.utf8; parts = g.2.0.parts }, (g.2.1.0, g.2.1.1, h)))
  good_too minus (Token kind bytes ∷ xs) g h =
      (record { formed = g.0.formed; limits = g.0.limits; utf8 = g.0.utf8; parts = parts_too kind xs g.0.parts }, good_too (is_minus kind) xs g.1 h)
  good_too minus (Space bytes ∷ xs) g h = (g.0, g.1, good_too minus xs g.2 h)

  behind_good : (minus : Bool) (xs : List Piece) → Good minus (xs ++ Front) → Good false one
  behind_good minus [] g = g.2.1.2
  behind_good minus (Token kind bytes ∷ xs) g = behind_good (is_minus kind) xs g.1
  behind_good minus (Space bytes ∷ xs) g = behind_good minus xs g.2

-- the lines of a class but for the last one
abbrev body_lines : Class → List Piece
body_lines c = line [] (opened (w.class_word ∷ space ∷ name_piece c.name ∷ [])) ++ fields_pieces inside c.fields ++ methods_pieces inside c.methods

parted : (c : Class) (cs : List Class) (rest : List Piece) → classes_pieces (c ∷ cs) ++ rest ≡ body_lines c ++ (closed [] ++ (classes_pieces cs ++ rest))
parted c cs rest =
    append_assoc (class_pieces c) (classes_pieces cs) rest ∙ append_assoc (body_lines c) (closed []) (classes_pieces cs ++ rest)

classes_too : (cs : List Class) (one : List Piece) → Good false (classes_pieces cs ++ one) → Lines (classes_pieces cs)
classes_too [] one g rest r = r
classes_too (c ∷ cs) one g rest r =
    let front = subst (Good false) (parted c cs one) g in
    let behind = behind_good (classes_pieces cs ++ one) (classes_pieces cs ++ rest) false (body_lines c) front in
    subst (Good false) (sym (parted c cs rest)) (good_too (classes_pieces cs ++ one) (classes_pieces cs ++ rest) false (body_lines c) front (classes_too cs one behind rest r))

pub classes_good : (cs : List Class) → All IsReadClass cs → Lines (classes_pieces cs)
classes_good cs h =
    let whole : Good false (program_pieces (alone cs)) = subst (Good false) (append-nil (program_pieces (alone cs))) (program_good (alone cs) (alone_readable cs h) [] tt) in
    classes_too cs main_pieces (subst (Good false) (alone_pieces cs) whole)
