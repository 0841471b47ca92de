-- Going over pieces as the limits count.
use Rattle.std.proofs.Common.{◌≡◌, ℕ, ◌+◌, false, List, [], ◌∷◌, ◌++◌, refl, None, length}
use Rattle.rb_trees.specs.declared.tokens.TokenKind.{TokenKind}
use Rattle.rb_trees.specs.printing.Pieces.{Piece, Token, Space}
use Rattle.rb_trees.specs.Kinds as k
use Rattle.rb_trees.specs.Kinds.{is_kind}
use Rattle.rb_meaning_bytes.specs.grammar.Limits.{Nesting, after, too_deep, broken}
use Rattle.rb_parse.proofs.printing.Spots.{tokens_at}
use Rattle.rb_parse.proofs.printing.within.States.{Open, not_deep}

-- From this state no token of the pieces breaks a limit, and this holds of the state behind them.
pub data Fits (P : Nesting → Type 0) : Nesting → List Piece → Type 0 where
  nothing : {n : Nesting} → P n → Fits P n []
  spaced : {n : Nesting} {ps : List Piece} (bytes : List ℕ) → Fits P n ps → Fits P n (Space bytes ∷ ps)
  on : {n : Nesting} {ps : List Piece} (kind : TokenKind) (bytes : List ℕ) → is_kind kind k.keyword_object ≡ false → too_deep (after n kind) ≡ false → Fits P (after n kind) ps → Fits P n (Token kind bytes ∷ ps)

-- one after the other
pub joined : {P Q : Nesting → Type 0} {n : Nesting} {ps qs : List Piece} → Fits P n ps → ((m : Nesting) → P m → Fits Q m qs) → Fits Q n (ps ++ qs)
joined (nothing {n} h) f = f n h
joined (spaced bytes x) f = spaced bytes (joined x f)
joined (on kind bytes o d x) f = on kind bytes o d (joined x f)

-- what follows from what holds behind pieces
pub weaker : {P Q : Nesting → Type 0} {n : Nesting} {ps : List Piece} → Fits P n ps → ((m : Nesting) → P m → Q m) → Fits Q n ps
weaker (nothing {n} h) f = nothing (f n h)
weaker (spaced bytes x) f = spaced bytes (weaker x f)
weaker (on kind bytes o d x) f = on kind bytes o d (weaker x f)

-- a token, given what is open behind it
pub next : {b t m : ℕ} {P : Nesting → Type 0} {n : Nesting} {kind : TokenKind} {bytes : List ℕ} {ps : List Piece} → Open b t m (after n kind) → Fits P (after n kind) ps → Fits P n (Token kind bytes ∷ ps)
next {kind = kind} {bytes = bytes} h x = on kind bytes h.no_object (not_deep h) x

-- pieces that fit break no limit
pub unbroken : {P : Nesting → Type 0} {n : Nesting} {ps : List Piece} (at : ℕ) → Fits P n ps → broken n (tokens_at at ps) ≡ None
unbroken at (nothing h) = refl
unbroken at (spaced bytes x) = unbroken (at + length bytes) x
unbroken at (on {n} {ps} kind bytes o d x) = rw (o, d) (unbroken (at + length bytes) x)
