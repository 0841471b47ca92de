-- What reading a part from the left gives: its tree and the tokens behind it, or where it stops.
use Rattle.std.specs.Prelude.{ℕ, zero, suc, ◌+◌, ◌*◌, List, [], ◌∷◌, length, Bool, false, cond, Option, Some, None, Result, Ok, Err}
use Rattle.rb_trees.specs.declared.tokens.Token.{Token}
use Rattle.rb_trees.specs.declared.tokens.TokenKind.{TokenKind}
use Rattle.rb_trees.specs.Kinds.{is_kind, is_one_of}
use Rattle.rb_meaning_bytes.specs.grammar.Symbols as s
use Rattle.rb_meaning_bytes.specs.grammar.Symbols.{Symbol, Terminal, The, Nonterminal, Chain, TreeOf, Tree, Makes}
use Rattle.rb_parse.specs.Table.{Choice, predict}
pub use Rattle.rb_trees.specs.Outcome.{◌>>=◌}

-- a value and the tokens behind it, or how many tokens are left where reading stops
abbrev pub Read : Type 0 → Type 0
Read A = Result (A × List Token) ℕ

-- a token of the kind
abbrev pub take_kind : TokenKind → List Token → Read Token
take_kind kind [] = Err 0
take_kind kind (t ∷ ts) = cond (is_kind t.kind kind) (Ok (t, ts)) (Err (length (t ∷ ts)))

abbrev pub Reader : Type 0
Reader = (p : Nonterminal) → List Token → Read (TreeOf p)

abbrev pub read_symbol : Reader → (x : Symbol) → List Token → Read (Tree x)
read_symbol r (Terminal kind) ts = take_kind kind ts
read_symbol r (The p) ts = r p ts

-- the symbols, one after the other, and what is made of their trees
abbrev pub read_into : Reader → (l : List Symbol) (T : Type 0) → Makes l T → List Token → Read T
read_into r [] T f ts = Ok (f, ts)
read_into r (x ∷ l) T f ts = read_symbol r x ts >>= λ a. read_into r l T (f a.0) a.1

abbrev pub by_choice : {source : List ℕ} {p : Nonterminal} → Reader → Option (Choice source p) → List Token → Read (TreeOf p)
by_choice r None ts = Err (length ts)
by_choice {p = p} r (Some c) ts = read_into r c.parts (TreeOf p) c.makes ts

-- How many parts a part may begin with, one within the other.
unfoldable pub rank : Nonterminal → ℕ
rank s.TheProgram = 3
rank s.Interfaces = 1
rank s.Signatures = 1
rank s.Params = 1
rank s.Classes = 1
rank s.Fields = 1
rank s.Methods = 2
rank s.AMethod = 1
rank s.Statements = 10
rank s.Statement = 9
rank (Chain s.OrLevel) = 8
rank (Chain s.AndLevel) = 7
rank (Chain s.SameLevel) = 6
rank (Chain s.OrderLevel) = 5
rank (Chain s.SumLevel) = 4
rank (Chain s.ProductLevel) = 3
rank s.Prefix = 2
rank s.Postfix = 1
rank s.Arguments = 9
rank s.TheService = 2
rank s.Objects = 1
rank s.Literals = 1
rank _ = 0

-- reading within so many parts
unfoldable pub read : (source : List ℕ) → ℕ → Reader
read source zero p ts = Err 0
read source (suc n) p ts = by_choice (read source n) (predict source p ts) ts

-- reading a part
unfoldable pub read_of : (source : List ℕ) → Reader
read_of source p ts = read source (suc (16 * length ts + rank p)) p ts

-- a tree behind which no token is left
abbrev pub alone : {A : Type 0} → A → List Token → Result A ℕ
alone x [] = Ok x
alone x (t ∷ ts) = Err (length (t ∷ ts))

-- the tree of the start part that all tokens are
unfoldable pub whole_of : (start : Nonterminal) → List ℕ → List Token → Result (TreeOf start) ℕ
whole_of start source ts = read_of source start ts >>= λ x. alone x.0 x.1

-- the next token, if it is of the kind, and the tokens behind it
abbrev pub taken : TokenKind → List Token → Option (Token × List Token)
taken kind [] = None
taken kind (t ∷ ts) = cond (is_kind t.kind kind) (Some (t, ts)) None

-- whether the next token is of one of the kinds
abbrev pub next_in : List TokenKind → List Token → Bool
next_in kinds [] = false
next_in kinds (t ∷ ts) = is_one_of t.kind kinds

abbrev pub on_taken : {A : Type 0} → Option (Token × List Token) → (Token × List Token → A) → A → A
on_taken None f other = other
on_taken (Some x) f other = f x
