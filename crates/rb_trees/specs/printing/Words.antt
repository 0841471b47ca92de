-- The tokens of printed programs.
use Rattle.std.specs.Prelude.{ℕ, ◌==◌, ℤ, pos, negsuc, suc, List, [], ◌∷◌, ◌++◌, Bool, true, false, cond, codes}
use Rattle.std.specs.Fmt.{decimal}
use Rattle.rb_trees.specs.declared.tokens.TokenKind.TheVariants as kind
use Rattle.rb_trees.specs.declared.values.Value.{Value}
use Rattle.rb_trees.specs.declared.values.Value.TheOpen.{Value-F}
use Rattle.rb_trees.specs.declared.values.Value.TheViews.{out-Value}
use Rattle.rb_trees.specs.Kinds as k
use Rattle.rb_trees.specs.printing.Pieces.{Piece, Token, Space}

-- one space
abbrev pub space : Piece
space = Space (codes " ")

-- a keyword, by its spelling
abbrev pub word : List ℕ → Piece
word spelling = Token (k.keyword spelling) spelling

abbrev pub interface_word : Piece
interface_word = word (codes "interface")

abbrev pub class_word : Piece
class_word = word (codes "class")

abbrev pub fun_word : Piece
fun_word = word (codes "fun")

abbrev pub remote_word : Piece
remote_word = word (codes "remote")

abbrev pub main_word : Piece
main_word = word (codes "main")

abbrev pub val_word : Piece
val_word = word (codes "val")

abbrev pub var_word : Piece
var_word = word (codes "var")

abbrev pub if_word : Piece
if_word = word (codes "if")

abbrev pub else_word : Piece
else_word = word (codes "else")

abbrev pub for_word : Piece
for_word = word (codes "for")

abbrev pub in_word : Piece
in_word = word (codes "in")

abbrev pub while_word : Piece
while_word = word (codes "while")

abbrev pub try_word : Piece
try_word = word (codes "try")

abbrev pub catch_word : Piece
catch_word = word (codes "catch")

abbrev pub throw_word : Piece
throw_word = word (codes "throw")

abbrev pub return_word : Piece
return_word = word (codes "return")

abbrev pub batch_word : Piece
batch_word = word (codes "batch")

abbrev pub print_word : Piece
print_word = word (codes "print")

abbrev pub len_word : Piece
len_word = word (codes "len")

abbrev pub str_word : Piece
str_word = word (codes "str")

abbrev pub new_word : Piece
new_word = word (codes "new")

abbrev pub this_word : Piece
this_word = word (codes "this")

abbrev pub true_word : Piece
true_word = word (codes "true")

abbrev pub false_word : Piece
false_word = word (codes "false")

abbrev pub List_word : Piece
List_word = word (codes "List")

abbrev pub Rows_word : Piece
Rows_word = word (codes "Rows")

abbrev pub Int_word : Piece
Int_word = word (codes "Int")

abbrev pub Bool_word : Piece
Bool_word = word (codes "Bool")

abbrev pub Text_word : Piece
Text_word = word (codes "Text")

abbrev pub Unit_word : Piece
Unit_word = word (codes "Unit")

-- a sign, by its spelling
abbrev pub sign : List ℕ → Piece
sign spelling = Token (k.sign spelling) spelling

abbrev pub equal : Piece
equal = sign (codes "==")

abbrev pub unequal : Piece
unequal = sign (codes "!=")

abbrev pub at_most : Piece
at_most = sign (codes "<=")

abbrev pub at_least : Piece
at_least = sign (codes ">=")

abbrev pub and : Piece
and = sign (codes "&&")

abbrev pub or : Piece
or = sign (codes "||")

abbrev pub less : Piece
less = sign (codes "<")

abbrev pub greater : Piece
greater = sign (codes ">")

abbrev pub assign : Piece
assign = sign (codes "=")

abbrev pub plus : Piece
plus = sign (codes "+")

abbrev pub minus : Piece
minus = sign (codes "-")

abbrev pub star : Piece
star = sign (codes "*")

abbrev pub slash : Piece
slash = sign (codes "/")

abbrev pub percent : Piece
percent = sign (codes "%")

abbrev pub not_sign : Piece
not_sign = sign (codes "!")

abbrev pub dot : Piece
dot = sign (codes ".")

abbrev pub comma : Piece
comma = sign (codes ",")

abbrev pub semicolon : Piece
semicolon = sign (codes ";")

abbrev pub colon : Piece
colon = sign (codes ":")

abbrev pub opens : Piece
opens = sign (codes "(")

abbrev pub closes : Piece
closes = sign (codes ")")

abbrev pub open_brace : Piece
open_brace = sign (codes "{")

abbrev pub close_brace : Piece
close_brace = sign (codes "}")

abbrev pub open_bracket : Piece
open_bracket = sign (codes "[")

abbrev pub close_bracket : Piece
close_bracket = sign (codes "]")

abbrev pub name_piece : List ℕ → Piece
name_piece name = Token kind.Name name

abbrev pub number_piece : ℕ → Piece
number_piece number = Token kind.Number (decimal number)

-- An Int is printed in decimal. The least Int is printed without a sign: its `-` is the operator before it.
abbrev pub int_pieces : ℤ → List Piece
int_pieces (pos n) = number_piece n ∷ []
int_pieces (negsuc n) = cond (n == 9223372036854775807) (number_piece (suc n) ∷ []) (minus ∷ number_piece (suc n) ∷ [])

abbrev pub bool_piece : Bool → Piece
bool_piece true = true_word
bool_piece false = false_word

-- the byte of a text literal as it is written: a line feed, a quote and a backslash are escaped
abbrev pub escaped : ℕ → List ℕ
escaped b = cond (b == 10) (codes "\\n") (cond (b == 34) (codes "\\\"") (cond (b == 92) (codes "\\\\") (b ∷ [])))

abbrev pub all_escaped : List ℕ → List ℕ
all_escaped [] = []
all_escaped (b ∷ bs) = escaped b ++ all_escaped bs

abbrev pub text_piece : List ℕ → Piece
text_piece text = Token kind.TextLit (codes "\"" ++ all_escaped text ++ codes "\"")

-- the pieces of a value, by its outermost form
abbrev pub form_pieces : Value-F Value → List Piece
form_pieces (Value-F.Int n) = int_pieces n
form_pieces (Value-F.Bool truth) = bool_piece truth ∷ []
form_pieces (Value-F.Text text) = text_piece text ∷ []
form_pieces _ = []

-- An Int, a Bool or a Text is printed as its literal. Other values have no literal in programs.
abbrev pub literal_pieces : Value → List Piece
literal_pieces value = form_pieces (out-Value value)
