-- What reading tokens gives: the tree that they derive, or the first refusal.
use Rattle.std.specs.Prelude.{◌≡◌, ℕ, List, [], ◌∷◌, ◌++◌, length, Result, Ok, Err}
use Rattle.rb_trees.specs.declared.tokens.Token.{Token}
use Rattle.rb_trees.specs.declared.reading.ReadError.{ReadError}
use Rattle.rb_trees.specs.declared.reading.ReadError.TheVariants as errors
use Rattle.rb_trees.specs.mirror.Declarations.{Program}
use Rattle.rb_trees.specs.mirror.Services.{ServiceText}
use Rattle.rb_meaning_bytes.specs.grammar.Symbols.{Nonterminal, TheProgram, TheService, TreeOf}
use Rattle.rb_meaning_bytes.specs.grammar.Derives.{DerivesAs, IsTextPrefix, Stuck}
use Rattle.rb_meaning_bytes.specs.grammar.Limits.{Within}

-- where the next token begins; the source's length where no token is left
abbrev pub place_of : List ℕ → List Token → ℕ
place_of source [] = length source
place_of source (t ∷ ts) = t.start

-- At the place stands the first token with which the tokens so far are a prefix of no text, or the end where it is
-- not expected; no token before it breaks a limit.
pub record UnexpectedAt (start : Nonterminal) (source : List ℕ) (tokens : List Token) (at : ℕ) : Type 0 where
  pub front : List Token
  pub rest : List Token
  pub is : tokens ≡ front ++ rest
  pub within : Within front
  pub goes : IsTextPrefix start source front
  pub stuck : Stuck start source front rest
  pub place : at ≡ place_of source rest

-- At the place stands the first token that breaks a limit, and some text begins with the tokens up to it.
pub record TooNestedAt (start : Nonterminal) (source : List ℕ) (tokens : List Token) (at : ℕ) : Type 0 where
  pub front : List Token
  pub token : Token
  pub rest : List Token
  pub is : tokens ≡ front ++ token ∷ rest
  pub within : Within front
  pub breaks : ¬ Within (front ++ token ∷ [])
  pub goes : IsTextPrefix start source (front ++ token ∷ [])
  pub place : at ≡ token.start

-- The tokens have this tree or refusal. Want of memory is no refusal of theirs, and a fault is one of the source.
abbrev pub ReadAs : (start : Nonterminal) → List ℕ → List Token → Result (TreeOf start) ReadError → Type 0
ReadAs start source tokens (Ok tree) = DerivesAs start source tokens tree × Within tokens
ReadAs start source tokens (Err (errors.Lex fault)) = ⊥
ReadAs start source tokens (Err (errors.Unexpected at)) = UnexpectedAt start source tokens at
ReadAs start source tokens (Err (errors.TooNested at)) = TooNestedAt start source tokens at
ReadAs start source tokens (Err errors.Memory) = ⊥

-- The tokens have this program or refusal.
abbrev pub Read : List ℕ → List Token → Result Program ReadError → Type 0
Read = ReadAs TheProgram

-- The tokens have this text of a service or refusal.
abbrev pub ReadServiceTokens : List ℕ → List Token → Result ServiceText ReadError → Type 0
ReadServiceTokens = ReadAs TheService
