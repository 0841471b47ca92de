-- Reading of what the code of services reads by a function of its own.
use Rattle.std.specs.Prelude.{ℕ, true, false, List, [], ◌∷◌, Option, Some, None, Ok}
use Rattle.rb_trees.specs.declared.tokens.Token.{Token}
use Rattle.rb_trees.specs.declared.tokens.TokenKind.TheVariants as kind
use Rattle.rb_trees.specs.declared.services.Literal as tree
use Rattle.rb_trees.specs.mirror.Services as literal
use Rattle.rb_trees.specs.mirror.Services.{Literal, Literals, mirror_literal}
use Rattle.rb_trees.specs.Kinds as k
use Rattle.rb_meaning_bytes.specs.grammar.Values.{name_of, number_of, minus_of, count_of, text_of}
use Rattle.rb_meaning_bytes.specs.grammar.Symbols as s
use Rattle.rb_parse.specs.Reading.{Read, ◌>>=◌, take_kind, taken, on_taken, read_of}
use Rattle.rb_parse.specs.Heads.{headed_of}

-- a literal of one token
unfoldable pub simple_literal_of : List ℕ → List Token → Option (Literal × List Token)
simple_literal_of source ts =
    on_taken (taken kind.Number ts) (λ w. Some (literal.Int (number_of source w.0), w.1))
    (on_taken (taken kind.TextLit ts) (λ w. Some (literal.Text (text_of source w.0), w.1))
    (on_taken (taken k.keyword_true ts) (λ w. Some (literal.Bool true, w.1))
    (on_taken (taken k.keyword_false ts) (λ w. Some (literal.Bool false, w.1))
    None)))

-- the number behind a minus
unfoldable pub negative_of : List ℕ → List Token → Read Literal
negative_of source ts = take_kind kind.Number ts >>= λ n. Ok (literal.Int (minus_of source n.0), n.1)

-- the number behind a `#`
unfoldable pub reference_of : List ℕ → List Token → Read Literal
reference_of source ts = take_kind kind.Number ts >>= λ n. Ok (literal.Object (count_of source n.0), n.1)

-- literals and the bracket that closes them
unfoldable pub literals_to_close : List ℕ → List Token → Read Literals
literals_to_close source ts = read_of source s.Literals ts >>= λ a. take_kind k.sign_close_bracket a.1 >>= λ c. Ok (a.0, c.1)

-- what follows the bracket that opens a list
unfoldable pub items_of : List ℕ → List Token → Read Literal
items_of source ts = literals_to_close source ts >>= λ a. Ok (literal.Items a.0, a.1)

-- literals of a list before the literals that follow
abbrev pub put_literals : List tree.Literal → Literals → Literals
put_literals [] l = l
put_literals (x ∷ xs) l = literal.MoreLiterals (mirror_literal x) (put_literals xs l)

-- the literals that follow the first one
unfoldable pub more_literals_on : List ℕ → Literal → List Token → Read Literals
more_literals_on source first ts = read_of source s.MoreLiterals ts >>= λ m. Ok (literal.MoreLiterals first m.0, m.1)

-- the literals so far with those that follow
unfoldable pub literals_on : List ℕ → List tree.Literal → List Token → Read Literals
literals_on source list ts = read_of source s.MoreLiterals ts >>= λ m. Ok (put_literals list m.0, m.1)

-- a field that an object gives, in the mirror
abbrev pub mirror_given : List ℕ × tree.Literal → List ℕ × Literal
mirror_given f = (f.0, mirror_literal f.1)

-- a field that an object gives, and the semicolon behind it
unfoldable pub given_to_end : List ℕ → List Token → Read (List ℕ × Literal)
given_to_end source ts = take_kind kind.Name ts >>= λ n. take_kind k.sign_assign n.1 >>= λ e. read_of source s.ALiteral e.1 >>= λ l. take_kind k.sign_semicolon l.1 >>= λ c. Ok ((name_of source n.0, l.0), c.1)

-- an object up to its brace: its number, and its class's name
unfoldable pub object_head_of : List Token → Read (Token × Token)
object_head_of ts = take_kind k.keyword_object ts >>= λ w. take_kind kind.Number w.1 >>= λ n. take_kind k.sign_colon n.1 >>= λ c. headed_of c.1 >>= λ h. Ok ((n.0, h.0), h.1)

-- the number of the root, and the semicolon behind it
unfoldable pub root_of : List ℕ → List Token → Read ℕ
root_of source ts = take_kind k.keyword_root ts >>= λ w. take_kind kind.Number w.1 >>= λ n. take_kind k.sign_semicolon n.1 >>= λ c. Ok (count_of source n.0, c.1)
