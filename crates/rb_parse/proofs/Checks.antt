-- What the table has to keep, as tests of it that compute.
use Rattle.std.proofs.Common.{◌≡◌, ℕ, Bool, true, false, List, [], ◌∷◌, ◌++◌, refl, Option, Some, None, ltb, ◌&&◌, not}
use Rattle.rb_trees.specs.declared.tokens.TokenKind.{TokenKind}
use Rattle.rb_meaning_bytes.specs.grammar.Symbols as s
use Rattle.rb_meaning_bytes.specs.grammar.Symbols.{Symbol, Terminal, The, Nonterminal, Chain, MoreChain}
use Rattle.rb_parse.specs.Table.{Choice, begins, may_be_empty, symbol_may_be_empty, all_begin, cases, otherwise}
use Rattle.rb_parse.specs.Reading.{rank}
use Rattle.rb_parse.proofs.KindLists.{within, apart}

-- the kinds that can't follow an operand of a level, since it would go on with them

abbrev pub product_bars : List TokenKind
product_bars = begins (MoreChain s.ProductLevel) ++ begins s.Members ++ begins s.CallPart

abbrev pub sum_bars : List TokenKind
sum_bars = begins (MoreChain s.SumLevel) ++ product_bars

abbrev pub order_bars : List TokenKind
order_bars = begins (MoreChain s.OrderLevel) ++ sum_bars

abbrev pub same_bars : List TokenKind
same_bars = begins (MoreChain s.SameLevel) ++ order_bars

abbrev pub and_bars : List TokenKind
and_bars = begins (MoreChain s.AndLevel) ++ same_bars

abbrev pub or_bars : List TokenKind
or_bars = begins (MoreChain s.OrLevel) ++ and_bars

-- the kinds that can't follow a part, since it would go on with them
unfoldable pub bars : Nonterminal → List TokenKind
bars s.Interfaces = begins s.Interfaces
bars s.Signatures = begins s.Signatures
bars s.ASignature = begins s.ResultType
bars s.Params = begins s.Params ++ begins s.MoreParams
bars s.MoreParams = begins s.MoreParams
bars s.ResultType = begins s.ResultType
bars s.Classes = begins s.Classes
bars s.Fields = begins s.Fields
bars s.Methods = begins s.Methods
bars s.Returns = begins s.Returns
bars s.Statements = begins s.Statements ++ begins s.Otherwise
bars s.Statement = begins s.Otherwise
bars s.Otherwise = begins s.Otherwise
bars (Chain s.OrLevel) = or_bars
bars (Chain s.AndLevel) = and_bars
bars (Chain s.SameLevel) = same_bars
bars (Chain s.OrderLevel) = order_bars
bars (Chain s.SumLevel) = sum_bars
bars (Chain s.ProductLevel) = product_bars
bars (MoreChain s.OrLevel) = or_bars
bars (MoreChain s.AndLevel) = and_bars
bars (MoreChain s.SameLevel) = same_bars
bars (MoreChain s.OrderLevel) = order_bars
bars (MoreChain s.SumLevel) = sum_bars
bars (MoreChain s.ProductLevel) = product_bars
bars s.Prefix = begins s.Members ++ begins s.CallPart
bars s.Postfix = begins s.Members ++ begins s.CallPart
bars s.Members = begins s.Members ++ begins s.CallPart
bars s.CallPart = begins s.CallPart
bars s.Arguments = begins s.Arguments ++ begins s.MoreArguments ++ or_bars
bars s.MoreArguments = begins s.MoreArguments ++ or_bars
bars s.Objects = begins s.Objects
bars s.GivenFields = begins s.GivenFields
bars s.Literals = begins s.Literals ++ begins s.MoreLiterals
bars s.MoreLiterals = begins s.MoreLiterals
bars _ = []

abbrev pub symbol_bars : Symbol → List TokenKind
symbol_bars (Terminal kind) = []
symbol_bars (The p) = bars p

-- one test holds where the other does
abbrev pub implies : Bool → Bool → Bool
implies true b = b
implies false b = true

pub implied : (a b : Bool) → implies a b ≡ true → a ≡ true → b ≡ true
implied true b h e = h
implied false b h e = cc

pub implies_true : (a b : Bool) → (a ≡ true → b ≡ true) → implies a b ≡ true
implies_true true b f = f refl
implies_true false b f = refl

abbrev pub all_empty : List Symbol → Bool
all_empty [] = true
all_empty (x ∷ l) = symbol_may_be_empty x && all_empty l

-- the parts that symbols begin with have ranks below r
abbrev pub ranked : ℕ → List Symbol → Bool
ranked r [] = true
ranked r (Terminal kind ∷ l) = true
ranked r (The p ∷ l) = ltb (rank p) r && implies (may_be_empty p) (ranked r l)

-- no symbol would go on with what the next ones begin with
abbrev pub fitting : List Symbol → Bool
fitting [] = true
fitting (x ∷ l) = apart (all_begin l) (symbol_bars x) && fitting l

-- what bars the symbols that may stand last is among the kinds
abbrev pub ending : List TokenKind → List Symbol → Bool
ending ks [] = true
ending ks (x ∷ l) = implies (all_empty l) (within (symbol_bars x) ks) && ending ks l

-- a production of the part is as the table says
pub record Sound (p : Nonterminal) (l : List Symbol) : Type 0 where
  pub ranks : ranked (rank p) l ≡ true
  pub empties : implies (all_empty l) (may_be_empty p) ≡ true
  pub firsts : within (all_begin l) (begins p) ≡ true
  pub fits : fitting l ≡ true
  pub ends : ending (bars p) l ≡ true

abbrev pub sound_at : Nonterminal → List Symbol → Bool
sound_at p l = ranked (rank p) l && (implies (all_empty l) (may_be_empty p) && (within (all_begin l) (begins p) && (fitting l && ending (bars p) l)))

-- each production is sound
abbrev pub all_sound : {source : List ℕ} (p : Nonterminal) → List (Choice source p) → Option (Choice source p) → Bool
all_sound p [] None = true
all_sound p [] (Some c) = sound_at p c.parts
all_sound p (c ∷ cs) d = sound_at p c.parts && all_sound p cs d

-- the kinds that some production begins with
abbrev pub any_begin : {source : List ℕ} {p : Nonterminal} → List (Choice source p) → Option (Choice source p) → List TokenKind
any_begin [] None = []
any_begin [] (Some c) = all_begin c.parts
any_begin (c ∷ cs) d = all_begin c.parts ++ any_begin cs d

-- no two productions begin with one kind, and none but the last may be empty
abbrev pub told_apart : {source : List ℕ} {p : Nonterminal} → List (Choice source p) → Option (Choice source p) → Bool
told_apart [] d = true
told_apart (c ∷ cs) d = apart (all_begin c.parts) (any_begin cs d) && (not (all_empty c.parts) && told_apart cs d)

abbrev pub checks : (source : List ℕ) → Nonterminal → Bool
checks source p = all_sound p (cases source p) (otherwise source p) && (told_apart (cases source p) (otherwise source p) && (implies (may_be_empty p) (within (begins p) (bars p)) && ltb (rank p) 16))

pub checked : (source : List ℕ) (p : Nonterminal) → checks source p ≡ true
unfolding cases otherwise begins may_be_empty rank bars
checked source (Chain s.OrLevel) = refl
checked source (Chain s.AndLevel) = refl
checked source (Chain s.SameLevel) = refl
checked source (Chain s.OrderLevel) = refl
checked source (Chain s.SumLevel) = refl
checked source (Chain s.ProductLevel) = refl
checked source (MoreChain s.OrLevel) = refl
checked source (MoreChain s.AndLevel) = refl
checked source (MoreChain s.SameLevel) = refl
checked source (MoreChain s.OrderLevel) = refl
checked source (MoreChain s.SumLevel) = refl
checked source (MoreChain s.ProductLevel) = refl
checked source _ = refl
