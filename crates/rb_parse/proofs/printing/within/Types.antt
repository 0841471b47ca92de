-- The types of a program break no limit.
use Rattle.std.proofs.Common.{◌≡◌, ℕ, suc, ◌+◌, ◌≤◌, false, List, [], ◌∷◌, refl, arith}
use Rattle.rb_trees.specs.declared.tokens.TokenKind.{TokenKind}
use Rattle.rb_trees.specs.declared.tokens.TokenKind.TheVariants as kind
use Rattle.rb_trees.specs.mirror.Types as type
use Rattle.rb_trees.specs.mirror.Types.{TypeTree}
use Rattle.rb_trees.specs.printing.Pieces.{Token}
use Rattle.rb_trees.specs.printing.Types.{type_pieces, result_pieces}
use Rattle.rb_trees.specs.printing.Words.{space, colon}
use Rattle.rb_trees.specs.Kinds as k
use Rattle.rb_trees.specs.Kinds.{is_one_of}
use Rattle.rb_meaning_bytes.specs.grammar.Limits.{Nesting}
use Rattle.rb_parse.proofs.readable.Trees.{type_depth}
use Rattle.rb_parse.proofs.printing.within.States.{Open, Plain, counting, after_calm, after_opened, after_closed}
use Rattle.rb_parse.proofs.printing.within.Fits.{Fits, nothing, spaced, joined, next}

-- So much is open, and the last token is no head.
pub record Behind (b t m : ℕ) (n : Nesting) : Type 0 where
  pub open_is : Open b t m n
  pub last : Plain n.last

-- nor is the token before it
pub record Past (b t m : ℕ) (n : Nesting) : Type 0 where
  pub open_is : Open b t m n
  pub last : Plain n.last
  pub before : Plain n.before

-- a type of one token
one_token : {b t m : ℕ} {n : Nesting} (kind : TokenKind) (bytes : List ℕ) → is_one_of kind counting ≡ false → Plain kind → Open b t m n → Plain n.last → Fits (Past b t m) n (Token kind bytes ∷ [])
one_token kind bytes c p h l = let a = after_calm kind c h in next a (nothing (record { open_is = a; last = p; before = l }))

pub type_fits : (tree : TypeTree) (b t m : ℕ) (n : Nesting) → t + type_depth tree ≤ 64 → Open b t m n → Plain n.last → Fits (Past b t m) n (type_pieces tree)
type_fits (type.Int at) b t m n d h l = one_token k.keyword_Int _ refl refl h l
type_fits (type.Bool at) b t m n d h l = one_token k.keyword_Bool _ refl refl h l
type_fits (type.Text at) b t m n d h l = one_token k.keyword_Text _ refl refl h l
type_fits (type.Unit at) b t m n d h l = one_token k.keyword_Unit _ refl refl h l
type_fits (type.Named at name) b t m n d h l = one_token kind.Name name refl refl h l
type_fits (type.ListOf at item) b t m n d h l =
    let a = after_calm k.keyword_List refl h in
    let c = after_opened refl (omega (arith, d)) a in
    next a (next c (joined (type_fits item b (suc t) m _ (omega (arith, d)) c refl) (λ o e. next (after_closed e.open_is) (nothing (record { open_is = after_closed e.open_is; last = refl; before = e.last })))))
type_fits (type.RowsOf at row) b t m n d h l =
    let a = after_calm k.keyword_Rows refl h in
    let c = after_opened refl (omega (arith, d)) a in
    next a (next c (joined (type_fits row b (suc t) m _ (omega (arith, d)) c refl) (λ o e. next (after_closed e.open_is) (nothing (record { open_is = after_closed e.open_is; last = refl; before = e.last })))))

-- a colon and a type
coloned : (tree : TypeTree) (b m : ℕ) (n : Nesting) → type_depth tree ≤ 64 → Open b 0 m n → Fits (Past b 0 m) n (colon ∷ space ∷ type_pieces tree)
coloned tree b m n d h = let a = after_calm k.sign_colon refl h in next a (spaced _ (type_fits tree b 0 m _ (omega (arith, d)) a refl))

pub result_fits : (tree : TypeTree) (b m : ℕ) (n : Nesting) → type_depth tree ≤ 64 → Past b 0 m n → Fits (Past b 0 m) n (result_pieces tree)
result_fits (type.Unit at) b m n d h = nothing h
result_fits (type.Int at) b m n d h = coloned (type.Int at) b m n d h.open_is
result_fits (type.Bool at) b m n d h = coloned (type.Bool at) b m n d h.open_is
result_fits (type.Text at) b m n d h = coloned (type.Text at) b m n d h.open_is
result_fits (type.Named at name) b m n d h = coloned (type.Named at name) b m n d h.open_is
result_fits (type.ListOf at item) b m n d h = coloned (type.ListOf at item) b m n d h.open_is
result_fits (type.RowsOf at row) b m n d h = coloned (type.RowsOf at row) b m n d h.open_is
