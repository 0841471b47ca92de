-- What the tokens of pieces derive, built piece by piece and part by part.
use Rattle.std.proofs.Common.{◌≡◌, ℕ, List, [], ◌∷◌, ◌++◌, sym, subst, append-nil}
use Rattle.rb_trees.specs.declared.tokens.Token.{Token as Lexeme}
use Rattle.rb_trees.specs.declared.tokens.TokenKind.{TokenKind}
use Rattle.rb_trees.specs.printing.Pieces.{Piece, Token, Space}
use Rattle.rb_meaning_bytes.specs.grammar.Symbols.{Symbol, Terminal, The, Nonterminal, TreeOf, Trees, Makes, made}
use Rattle.rb_meaning_bytes.specs.grammar.Productions.{Production}
use Rattle.rb_meaning_bytes.specs.grammar.Derives as g
use Rattle.rb_meaning_bytes.specs.grammar.Derives.{Spells}
use Rattle.rb_meaning_bytes.specs.grammar.Values.{slice}
use Rattle.rb_parse.proofs.printing.derived.Stands.{Stands, part}

-- trees that tokens spell, of which something holds
pub record Spelled (source : List ℕ) (l : List Symbol) (ts : List Lexeme) (Q : Trees l → Type 0) : Type 0 where
  pub trees : Trees l
  pub spells : Spells source l ts trees
  pub holds : Q trees

-- a tree of a part that a production makes, of which something holds
pub record Derived (source : List ℕ) (p : Nonterminal) (ts : List Lexeme) (P : TreeOf p → Type 0) : Type 0 where
  pub symbols : List Symbol
  pub makes : Makes symbols (TreeOf p)
  pub trees : Trees symbols
  pub rule : Production source p symbols makes
  pub spells : Spells source symbols ts trees
  pub holds : P (made symbols (TreeOf p) makes trees)

-- The tokens of the pieces spell the symbols.
pub record Made (source : List ℕ) (l : List Symbol) (ps : List Piece) (Q : Trees l → Type 0) : Type 0 where
  pub spell : (ts : List Lexeme) → Stands source ps ts → Spelled source l ts Q

-- The tokens of the pieces are derived by the part.
pub record MadePart (source : List ℕ) (p : Nonterminal) (ps : List Piece) (P : TreeOf p → Type 0) : Type 0 where
  pub derive : (ts : List Lexeme) → Stands source ps ts → Derived source p ts P

module _ {source : List ℕ} where
  -- nothing is left
  pub end : {Q : Unit {0} → Type 0} → Q tt → Made source [] [] Q
  end {Q = Q} q = record { spell = λ ts h. subst (λ l. Spelled source [] l Q) (sym h) (record { trees = tt; spells = g.nothing; holds = q }) }

  pub skip : {l : List Symbol} {bytes : List ℕ} {ps : List Piece} {Q : Trees l → Type 0} → Made source l ps Q → Made source l (Space bytes ∷ ps) Q
  skip m = record { spell = λ ts h. m.spell ts h }

  token_spelled : {l : List Symbol} {ts : List Lexeme} {kind : TokenKind} (R : Lexeme × Trees l → Type 0) (t : Lexeme) → t.kind ≡ kind → Spelled source l ts (λ xs. R (t, xs)) → Spelled source (Terminal kind ∷ l) (t ∷ ts) R
  token_spelled {l} {ts} R t e s = record { trees = (t, s.trees); spells = subst (λ k. Spells source (Terminal k ∷ l) (t ∷ ts) (t, s.trees)) e (g.token t s.spells); holds = s.holds }

  token_step : {l : List Symbol} {ps : List Piece} {kind : TokenKind} {bytes : List ℕ} (Q : Lexeme × Trees l → Type 0)
      → ((t : Lexeme) → slice source t ≡ bytes → Made source l ps (λ xs. Q (t, xs)))
      → (ts : List Lexeme) → Stands source (Token kind bytes ∷ ps) ts → Spelled source (Terminal kind ∷ l) ts Q
  token_step Q f [] h = absurd h
  token_step Q f (t ∷ ts) h = token_spelled Q t h.0 ((f t h.1).spell ts h.2)

  -- a token, by its slice
  pub token : {l : List Symbol} {ps : List Piece} {kind : TokenKind} {bytes : List ℕ} {Q : Lexeme × Trees l → Type 0}
      → ((t : Lexeme) → slice source t ≡ bytes → Made source l ps (λ xs. Q (t, xs))) → Made source (Terminal kind ∷ l) (Token kind bytes ∷ ps) Q
  token {Q = Q} f = record { spell = λ ts h. token_step Q f ts h }

  -- a part
  pub the : {p : Nonterminal} {l : List Symbol} {ps qs : List Piece} {P : TreeOf p → Type 0} {Q : TreeOf p × Trees l → Type 0}
      → MadePart source p ps P → ((x : TreeOf p) → P x → Made source l qs (λ xs. Q (x, xs))) → Made source (The p ∷ l) (ps ++ qs) Q
  the {p} {l} {ps} {qs} {P} {Q} m f = record {
    spell = λ ts h.
        let s = part source ps qs ts h in
        let d = m.derive s.front s.front_stands in
        let r = (f (made d.symbols (TreeOf p) d.makes d.trees) d.holds).spell s.back s.back_stands in
        subst (λ l'. Spelled source (The p ∷ l) l' Q) (sym s.is)
        (record { trees = (made d.symbols (TreeOf p) d.makes d.trees, r.trees); spells = g.production d.rule d.spells r.spells; holds = r.holds });
  }

  -- a part with nothing behind it
  pub last : {p : Nonterminal} {ps : List Piece} {P : TreeOf p → Type 0} {Q : TreeOf p × Unit {0} → Type 0}
      → MadePart source p ps P → ((x : TreeOf p) → P x → Q (x, tt)) → Made source (The p ∷ []) ps Q
  last {p} {ps} {P} {Q} m f = subst (λ qs. Made source (The p ∷ []) qs Q) (append-nil ps) (the m (λ x h. end (f x h)))

  -- the same pieces, put together in another way
  pub turned : {l : List Symbol} {ps qs : List Piece} {Q : Trees l → Type 0} → ps ≡ qs → Made source l qs Q → Made source l ps Q
  turned {l} {Q = Q} e m = subst (λ k. Made source l k Q) (sym e) m

  -- by a production
  pub by : {p : Nonterminal} {m : List Symbol} {f : Makes m (TreeOf p)} {ps : List Piece} {P : TreeOf p → Type 0}
      → Production source p m f → Made source m ps (λ xs. P (made m (TreeOf p) f xs)) → MadePart source p ps P
  by {m = m} {f = f} rule d = record { derive = λ ts h. let s = d.spell ts h in record { symbols = m; makes = f; trees = s.trees; rule = rule; spells = s.spells; holds = s.holds } }
