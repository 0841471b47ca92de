-- What the tokens of a text derive, and which lists of tokens texts begin with. Both go by the productions alone.
use Rattle.std.specs.Prelude.{◌≡◌, ℕ, List, [], ◌∷◌, ◌++◌, length}
use Rattle.rb_trees.specs.declared.tokens.Token.{Token}
use Rattle.rb_trees.specs.mirror.Declarations.{Program}
use Rattle.rb_trees.specs.mirror.Services.{ServiceText}
use Rattle.rb_meaning_bytes.specs.grammar.Symbols.{Symbol, Terminal, The, Nonterminal, TheProgram, TheService, TreeOf, Trees, Makes, made}
use Rattle.rb_meaning_bytes.specs.grammar.Productions.{Production}

-- The tokens spell the symbols, one after the other, with these trees.
pub data Spells (source : List ℕ) : (l : List Symbol) → List Token → Trees l → Type 0 where
  nothing : Spells source [] [] tt
  token : {l : List Symbol} {ts : List Token} {xs : Trees l} (t : Token) → Spells source l ts xs
      → Spells source (Terminal t.kind ∷ l) (t ∷ ts) (t, xs)
  production : {p : Nonterminal} {m l : List Symbol} {f : Makes m (TreeOf p)} {ts us : List Token} {ys : Trees m} {xs : Trees l}
      → Production source p m f → Spells source m ts ys → Spells source l us xs
      → Spells source (The p ∷ l) (ts ++ us) (made m (TreeOf p) f ys, xs)

-- A list of tokens is a prefix of symbols: it is empty, or the spelling of none or some of the first symbols followed
-- by a prefix of the next one.
pub data IsPrefix (source : List ℕ) : List Symbol → List Token → Type 0 where
  none : {l : List Symbol} → IsPrefix source l []
  after_token : {l : List Symbol} {ts : List Token} (t : Token) → IsPrefix source l ts
      → IsPrefix source (Terminal t.kind ∷ l) (t ∷ ts)
  within : {p : Nonterminal} {m l : List Symbol} {f : Makes m (TreeOf p)} {ts : List Token}
      → Production source p m f → IsPrefix source m ts → IsPrefix source (The p ∷ l) ts
  past : {p : Nonterminal} {m l : List Symbol} {f : Makes m (TreeOf p)} {ts us : List Token} {ys : Trees m}
      → Production source p m f → Spells source m ts ys → IsPrefix source l us → IsPrefix source (The p ∷ l) (ts ++ us)

-- Texts are spellings of a start part: programs or services. What follows is said of any.

-- The tokens of the source derive the tree.
abbrev pub DerivesAs : (start : Nonterminal) → List ℕ → List Token → TreeOf start → Type 0
DerivesAs start source tokens tree = Spells source (The start ∷ []) tokens (tree, tt)

-- Some text begins with the tokens.
abbrev pub IsTextPrefix : Nonterminal → List ℕ → List Token → Type 0
IsTextPrefix start source tokens = IsPrefix source (The start ∷ []) tokens

-- No text goes on from the tokens so far and the next one; at the end, the tokens are no text.
abbrev pub Stuck : Nonterminal → List ℕ → List Token → List Token → Type 0
Stuck start source front [] = (tree : TreeOf start) → ¬ DerivesAs start source front tree
Stuck start source front (t ∷ ts) = ¬ IsTextPrefix start source (front ++ t ∷ [])

-- So many tokens from the end stands the first token with which the tokens so far are a prefix of no text,
-- or the end, where it is not expected.
pub record Breaks (start : Nonterminal) (source : List ℕ) (tokens : List Token) (left : ℕ) : Type 0 where
  pub front : List Token
  pub rest : List Token
  pub is : tokens ≡ front ++ rest
  pub left_is : length rest ≡ left
  pub goes : IsTextPrefix start source front
  pub stuck : Stuck start source front rest

-- The tokens of the source derive the program.
abbrev pub Derives : List ℕ → List Token → Program → Type 0
Derives = DerivesAs TheProgram

-- The tokens of the source derive the text of a service.
abbrev pub DerivesService : List ℕ → List Token → ServiceText → Type 0
DerivesService = DerivesAs TheService
