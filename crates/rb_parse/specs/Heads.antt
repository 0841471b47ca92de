-- Reading of what the code of declarations reads by a function of its own.
use Rattle.std.specs.Prelude.{ℕ, List, ◌∷◌, Ok}
use Rattle.rb_trees.specs.declared.tokens.Token.{Token}
use Rattle.rb_trees.specs.declared.tokens.TokenKind.TheVariants as kind
use Rattle.rb_trees.specs.mirror.Types.{TypeTree}
use Rattle.rb_trees.specs.mirror.Declarations as tree
use Rattle.rb_trees.specs.Kinds as k
use Rattle.rb_meaning_bytes.specs.grammar.Symbols as s
use Rattle.rb_parse.specs.Reading.{Read, ◌>>=◌, take_kind, read_of}

-- the result type of a declaration at a position
unfoldable pub result_of : List ℕ → ℕ → List Token → Read TypeTree
result_of source at ts = read_of source s.ResultType ts >>= λ m. Ok (m.0 at, m.1)

-- a signature and the semicolon behind it
unfoldable pub signature_to_end : List ℕ → List Token → Read tree.Signature
signature_to_end source ts = read_of source s.ASignature ts >>= λ a. take_kind k.sign_semicolon a.1 >>= λ c. Ok (a.0, c.1)

-- a field and the semicolon behind it
unfoldable pub field_to_end : List ℕ → List Token → Read tree.Param
field_to_end source ts = read_of source s.AParam ts >>= λ a. take_kind k.sign_semicolon a.1 >>= λ c. Ok (a.0, c.1)

-- a comma and a parameter
unfoldable pub next_param : List ℕ → List Token → Read tree.Param
next_param source ts = take_kind k.sign_comma ts >>= λ c. read_of source s.AParam c.1

-- parameters and the bracket that closes them
unfoldable pub params_to_close : List ℕ → List Token → Read (List tree.Param)
params_to_close source ts = read_of source s.Params ts >>= λ a. take_kind k.sign_close a.1 >>= λ c. Ok (a.0, c.1)

-- the name of a declaration and the brace behind it
unfoldable pub headed_of : List Token → Read Token
headed_of ts = take_kind kind.Name ts >>= λ n. take_kind k.sign_open_brace n.1 >>= λ o. Ok (n.0, o.1)

-- the parameters that follow the first one
unfoldable pub params_on : List ℕ → tree.Param → List Token → Read (List tree.Param)
params_on source first ts = read_of source s.MoreParams ts >>= λ m. Ok (first ∷ m.0, m.1)
