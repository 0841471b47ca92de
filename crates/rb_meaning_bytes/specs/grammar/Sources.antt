-- What a source is read as: its tokens first, then the tree that they derive.
use Rattle.std.specs.Prelude.{ℕ, List, Result, Ok, Err}
use Rattle.rb_trees.specs.declared.tokens.Token.{Token}
use Rattle.rb_trees.specs.declared.reading.ReadError.{ReadError}
use Rattle.rb_trees.specs.declared.reading.ReadError.TheVariants as errors
use Rattle.rb_trees.specs.mirror.Declarations.{Program}
use Rattle.rb_trees.specs.mirror.Services.{ServiceText}
use Rattle.rb_meaning_bytes.specs.tokens.Texts.{IsTokens, IsRefusal}
use Rattle.rb_meaning_bytes.specs.grammar.Symbols.{Nonterminal, TheProgram, TheService, TreeOf}
use Rattle.rb_meaning_bytes.specs.grammar.Refusals.{ReadAs}

-- The source has tokens, and they have this tree or refusal.
abbrev pub OfTokens : (start : Nonterminal) → List ℕ → Result (TreeOf start) ReadError → Type 0
OfTokens start source outcome = (tokens : List Token) × IsTokens source tokens × ReadAs start source tokens outcome

-- The source has this tree or refusal. A source without tokens is refused for that first. Want of memory is no
-- refusal of a source.
abbrev pub ReadSourceAs : (start : Nonterminal) → List ℕ → Result (TreeOf start) ReadError → Type 0
ReadSourceAs start source (Ok tree) = OfTokens start source (Ok tree)
ReadSourceAs start source (Err (errors.Lex fault)) = IsRefusal source fault
ReadSourceAs start source (Err (errors.Unexpected at)) = OfTokens start source (Err (errors.Unexpected at))
ReadSourceAs start source (Err (errors.TooNested at)) = OfTokens start source (Err (errors.TooNested at))
ReadSourceAs start source (Err errors.Memory) = ⊥

-- The source has this program or refusal.
abbrev pub ReadSource : List ℕ → Result Program ReadError → Type 0
ReadSource = ReadSourceAs TheProgram

-- The source has this text of a service or refusal.
abbrev pub ReadService : List ℕ → Result ServiceText ReadError → Type 0
ReadService = ReadSourceAs TheService
