-- How declarations and programs are printed.
use Rattle.std.specs.Prelude.{ℕ, List, [], ◌∷◌, ◌++◌, Bool, true, false}
use Rattle.rb_trees.specs.mirror.Types.{TypeTree}
use Rattle.rb_trees.specs.mirror.Declarations.{Param, Signature, Interface, Method, Class, Program}
use Rattle.rb_trees.specs.printing.Pieces.{Piece, spelled}
use Rattle.rb_trees.specs.printing.Types.{type_pieces, result_pieces}
use Rattle.rb_trees.specs.printing.Exprs.{in_parentheses}
use Rattle.rb_trees.specs.printing.Stmts.{line, deeper, opened, closed, body_pieces}
use Rattle.rb_trees.specs.printing.Words as w
use Rattle.rb_trees.specs.printing.Words.{space, name_piece}

-- `NAME: TYPE`
abbrev pub param_pieces : Param → List Piece
param_pieces p = name_piece p.name ∷ w.colon ∷ space ∷ type_pieces p.kind

abbrev pub more_params_pieces : List Param → List Piece
more_params_pieces [] = []
more_params_pieces (p ∷ ps) = w.comma ∷ space ∷ param_pieces p ++ more_params_pieces ps

abbrev pub params_pieces : List Param → List Piece
params_pieces [] = []
params_pieces (p ∷ ps) = param_pieces p ++ more_params_pieces ps

-- `fun NAME(PARAMETERS): TYPE`
abbrev pub signature_pieces : Signature → List Piece
signature_pieces s = w.fun_word ∷ space ∷ name_piece s.name ∷ in_parentheses (params_pieces s.params) ++ result_pieces s.result

-- the line of a method of an interface
abbrev pub signature_line : List ℕ → Signature → List Piece
signature_line indent s = line indent (signature_pieces s ++ w.semicolon ∷ [])

-- the lines of the methods of an interface
abbrev pub signatures_pieces : List ℕ → List Signature → List Piece
signatures_pieces indent [] = []
signatures_pieces indent (s ∷ ss) = signature_line indent s ++ signatures_pieces indent ss

-- the line of a field
abbrev pub field_line : List ℕ → Param → List Piece
field_line indent p = line indent (param_pieces p ++ w.semicolon ∷ [])

-- the lines of fields
abbrev pub fields_pieces : List ℕ → List Param → List Piece
fields_pieces indent [] = []
fields_pieces indent (p ∷ ps) = field_line indent p ++ fields_pieces indent ps

abbrev pub remote_pieces : Bool → List Piece
remote_pieces true = w.remote_word ∷ space ∷ []
remote_pieces false = []

-- the line that opens a method
abbrev pub method_head : List ℕ → Method → List Piece
method_head indent m = line indent (opened (remote_pieces m.remote ++ signature_pieces m.signature))

abbrev pub method_pieces : List ℕ → Method → List Piece
method_pieces indent m = method_head indent m ++ body_pieces (deeper indent) m.body ++ closed indent

abbrev pub methods_pieces : List ℕ → List Method → List Piece
methods_pieces indent [] = []
methods_pieces indent (m ∷ ms) = method_pieces indent m ++ methods_pieces indent ms

-- the spaces of the lines in a declaration
abbrev pub inside : List ℕ
inside = deeper []

abbrev pub interface_pieces : Interface → List Piece
interface_pieces i =
    line [] (opened (w.interface_word ∷ space ∷ name_piece i.name ∷ [])) ++ signatures_pieces inside i.methods ++ closed []

abbrev pub interfaces_pieces : List Interface → List Piece
interfaces_pieces [] = []
interfaces_pieces (i ∷ is) = interface_pieces i ++ interfaces_pieces is

abbrev pub class_pieces : Class → List Piece
class_pieces c =
    line [] (opened (w.class_word ∷ space ∷ name_piece c.name ∷ [])) ++ fields_pieces inside c.fields ++ methods_pieces inside c.methods ++ closed []

abbrev pub classes_pieces : List Class → List Piece
classes_pieces [] = []
classes_pieces (c ∷ cs) = class_pieces c ++ classes_pieces cs

-- the line that opens `main`
abbrev pub main_head : TypeTree → List Piece
main_head result = line [] (opened (w.main_word ∷ result_pieces result))

-- a program: its interfaces, its classes, and `main`
abbrev pub program_pieces : Program → List Piece
program_pieces p =
    interfaces_pieces p.interfaces ++ classes_pieces p.classes
    ++ main_head p.result ++ body_pieces inside p.body ++ closed []

-- the text of a program
abbrev pub printed_program : Program → List ℕ
printed_program p = spelled (program_pieces p)
