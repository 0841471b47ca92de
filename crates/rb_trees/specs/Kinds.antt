-- The kinds of tokens by name.
use Rattle.std.specs.Prelude.{ℕ, Bool, true, false, cond, nat_eq, List, [], ◌∷◌, codes}
use Rattle.rb_trees.specs.declared.tokens.TokenKind.{TokenKind}
use Rattle.rb_trees.specs.declared.tokens.TokenKind.TheVariants.{Name, Number, TextLit, Keyword, Sign}
use Rattle.rb_trees.specs.Spelling.{keyword_table, sign_table, number_of}

-- whether two kinds are the same
abbrev pub is_kind : TokenKind → TokenKind → Bool
is_kind Name Name = true
is_kind Number Number = true
is_kind TextLit TextLit = true
is_kind (Keyword m) (Keyword n) = nat_eq m n
is_kind (Sign m) (Sign n) = nat_eq m n
is_kind _ _ = false

-- whether a kind is one of the list
abbrev pub is_one_of : TokenKind → List TokenKind → Bool
is_one_of k [] = false
is_one_of k (other ∷ others) = cond (is_kind k other) true (is_one_of k others)

-- the kind of the keyword that is spelled so
abbrev pub keyword : List ℕ → TokenKind
keyword spelling = Keyword (number_of keyword_table spelling)

-- the kind of the sign that is spelled so
abbrev pub sign : List ℕ → TokenKind
sign spelling = Sign (number_of sign_table spelling)

abbrev pub keyword_interface : TokenKind
keyword_interface = keyword (codes "interface")

abbrev pub keyword_class : TokenKind
keyword_class = keyword (codes "class")

abbrev pub keyword_fun : TokenKind
keyword_fun = keyword (codes "fun")

abbrev pub keyword_remote : TokenKind
keyword_remote = keyword (codes "remote")

abbrev pub keyword_main : TokenKind
keyword_main = keyword (codes "main")

abbrev pub keyword_val : TokenKind
keyword_val = keyword (codes "val")

abbrev pub keyword_var : TokenKind
keyword_var = keyword (codes "var")

abbrev pub keyword_if : TokenKind
keyword_if = keyword (codes "if")

abbrev pub keyword_else : TokenKind
keyword_else = keyword (codes "else")

abbrev pub keyword_for : TokenKind
keyword_for = keyword (codes "for")

abbrev pub keyword_in : TokenKind
keyword_in = keyword (codes "in")

abbrev pub keyword_while : TokenKind
keyword_while = keyword (codes "while")

abbrev pub keyword_try : TokenKind
keyword_try = keyword (codes "try")

abbrev pub keyword_catch : TokenKind
keyword_catch = keyword (codes "catch")

abbrev pub keyword_throw : TokenKind
keyword_throw = keyword (codes "throw")

abbrev pub keyword_return : TokenKind
keyword_return = keyword (codes "return")

abbrev pub keyword_batch : TokenKind
keyword_batch = keyword (codes "batch")

abbrev pub keyword_print : TokenKind
keyword_print = keyword (codes "print")

abbrev pub keyword_len : TokenKind
keyword_len = keyword (codes "len")

abbrev pub keyword_str : TokenKind
keyword_str = keyword (codes "str")

abbrev pub keyword_new : TokenKind
keyword_new = keyword (codes "new")

abbrev pub keyword_this : TokenKind
keyword_this = keyword (codes "this")

abbrev pub keyword_true : TokenKind
keyword_true = keyword (codes "true")

abbrev pub keyword_false : TokenKind
keyword_false = keyword (codes "false")

abbrev pub keyword_List : TokenKind
keyword_List = keyword (codes "List")

abbrev pub keyword_Rows : TokenKind
keyword_Rows = keyword (codes "Rows")

abbrev pub keyword_Int : TokenKind
keyword_Int = keyword (codes "Int")

abbrev pub keyword_Bool : TokenKind
keyword_Bool = keyword (codes "Bool")

abbrev pub keyword_Text : TokenKind
keyword_Text = keyword (codes "Text")

abbrev pub keyword_Unit : TokenKind
keyword_Unit = keyword (codes "Unit")

abbrev pub keyword_object : TokenKind
keyword_object = keyword (codes "object")

abbrev pub keyword_root : TokenKind
keyword_root = keyword (codes "root")

abbrev pub sign_equal : TokenKind
sign_equal = sign (codes "==")

abbrev pub sign_unequal : TokenKind
sign_unequal = sign (codes "!=")

abbrev pub sign_at_most : TokenKind
sign_at_most = sign (codes "<=")

abbrev pub sign_at_least : TokenKind
sign_at_least = sign (codes ">=")

abbrev pub sign_and : TokenKind
sign_and = sign (codes "&&")

abbrev pub sign_or : TokenKind
sign_or = sign (codes "||")

abbrev pub sign_less : TokenKind
sign_less = sign (codes "<")

abbrev pub sign_greater : TokenKind
sign_greater = sign (codes ">")

abbrev pub sign_assign : TokenKind
sign_assign = sign (codes "=")

abbrev pub sign_plus : TokenKind
sign_plus = sign (codes "+")

abbrev pub sign_minus : TokenKind
sign_minus = sign (codes "-")

abbrev pub sign_star : TokenKind
sign_star = sign (codes "*")

abbrev pub sign_slash : TokenKind
sign_slash = sign (codes "/")

abbrev pub sign_percent : TokenKind
sign_percent = sign (codes "%")

abbrev pub sign_not : TokenKind
sign_not = sign (codes "!")

abbrev pub sign_dot : TokenKind
sign_dot = sign (codes ".")

abbrev pub sign_comma : TokenKind
sign_comma = sign (codes ",")

abbrev pub sign_semicolon : TokenKind
sign_semicolon = sign (codes ";")

abbrev pub sign_colon : TokenKind
sign_colon = sign (codes ":")

abbrev pub sign_open : TokenKind
sign_open = sign (codes "(")

abbrev pub sign_close : TokenKind
sign_close = sign (codes ")")

abbrev pub sign_open_brace : TokenKind
sign_open_brace = sign (codes "{")

abbrev pub sign_close_brace : TokenKind
sign_close_brace = sign (codes "}")

abbrev pub sign_open_bracket : TokenKind
sign_open_bracket = sign (codes "[")

abbrev pub sign_close_bracket : TokenKind
sign_close_bracket = sign (codes "]")

abbrev pub sign_number_sign : TokenKind
sign_number_sign = sign (codes "#")
