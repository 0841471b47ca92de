-- What one more token does to what is open.
use Rattle.std.proofs.Common.{◌≡◌, ℕ, suc, ◌+◌, ◌-◌, ◌≤◌, Bool, true, false, cond, nat_lt, List, [], ◌∷◌, refl, ◌∙◌, arith, le-ltb}
use Rattle.std.proofs.Math.Dec.{eqb-suc-zero}
use Rattle.rb_trees.specs.declared.tokens.TokenKind.{TokenKind}
use Rattle.rb_trees.specs.Kinds as k
use Rattle.rb_trees.specs.Kinds.{is_kind, is_one_of}
use Rattle.rb_meaning_bytes.specs.grammar.Limits.{Nesting, opens_block, opens_type, opens_mark, is_mark, ends_expression, blocks_after, types_after, marks_after, after, too_deep}
use Rattle.rb_parse.proofs.KindLists.{not_kind, none_within}

-- So many blocks and types are open, and so many marks at most; no limit is broken. The last token is no word behind
-- which only lists count.
pub record Open (b t m : ℕ) (n : Nesting) : Type 0 where
  pub no_object : is_kind n.last k.keyword_object ≡ false
  pub blocks : n.blocks ≡ b
  pub types : n.types ≡ t
  pub marks : n.marks ≤ m
  pub few_blocks : b ≤ 64
  pub few_types : t ≤ 64
  pub few_marks : m ≤ 200

pub not_deep : {b t m : ℕ} {n : Nesting} → Open b t m n → too_deep n ≡ false
not_deep {b} {t} {m} {n} h = go (nat_lt 64 n.blocks) (nat_lt 64 n.types) (nat_lt 200 n.marks) (le-ltb 64 n.blocks (omega (arith, h.blocks, h.few_blocks))) (le-ltb 64 n.types (omega (arith, h.types, h.few_types))) (le-ltb 200 n.marks (omega (arith, h.marks, h.few_marks)))
  where
    go : (x y z : Bool) → x ≡ false → y ≡ false → z ≡ false → cond x true (cond y true z) ≡ false
    go false false z e f g = g
    go false true z e f g = f
    go true y z e f g = e

-- more marks may be open
pub more_marks : {b t m : ℕ} {n : Nesting} (l : ℕ) → m ≤ l → l ≤ 200 → Open b t m n → Open b t l n
more_marks l e f h = record { no_object = h.no_object; blocks = h.blocks; types = h.types; marks = omega (arith, h.marks, e); few_blocks = h.few_blocks; few_types = h.few_types; few_marks = f }

-- the kinds behind which a `<` opens a type, and those by which a brace opens no block
abbrev pub heads : List TokenKind
heads = k.keyword_List ∷ k.keyword_Rows ∷ k.keyword_interface ∷ k.keyword_class ∷ []

-- any other kind
abbrev pub Plain : TokenKind → Type 0
Plain kind = is_one_of kind heads ≡ false

-- the kinds that open and close blocks and types, and the word behind which only lists count
abbrev pub brackets : List TokenKind
brackets = k.keyword_object ∷ k.sign_open_brace ∷ k.sign_close_brace ∷ k.sign_less ∷ k.sign_greater ∷ []

abbrev pub marks : List TokenKind
marks = k.sign_not ∷ k.sign_minus ∷ k.sign_or ∷ k.sign_and ∷ k.sign_equal ∷ k.sign_unequal ∷ k.sign_at_most ∷ k.sign_at_least ∷ k.sign_plus ∷ k.sign_star ∷ k.sign_slash ∷ k.sign_percent ∷ k.sign_dot ∷ k.sign_open_bracket ∷ []

-- the kinds that count for something
abbrev pub counting : List TokenKind
counting = k.keyword_object ∷ k.sign_open_brace ∷ k.sign_close_brace ∷ k.sign_less ∷ k.sign_greater ∷ k.sign_open ∷ k.sign_semicolon ∷ k.sign_assign ∷ k.keyword_in ∷ k.sign_not ∷ k.sign_minus ∷ k.sign_or ∷ k.sign_and ∷ k.sign_equal ∷ k.sign_unequal ∷ k.sign_at_most ∷ k.sign_at_least ∷ k.sign_plus ∷ k.sign_star ∷ k.sign_slash ∷ k.sign_percent ∷ k.sign_dot ∷ k.sign_open_bracket ∷ []

-- A token that is no bracket of blocks and types leaves those as they are.
same_blocks : (n : Nesting) (kind : TokenKind) → is_one_of kind brackets ≡ false → blocks_after n kind ≡ n.blocks
unfolding blocks_after opens_block
same_blocks n kind h = rw (not_kind kind k.sign_open_brace brackets refl h, not_kind kind k.sign_close_brace brackets refl h)

same_types : (n : Nesting) (kind : TokenKind) → is_one_of kind brackets ≡ false → types_after n kind ≡ n.types
unfolding types_after opens_type
same_types n kind h = rw (not_kind kind k.sign_less brackets refl h, not_kind kind k.sign_greater brackets refl h)

same_marks : (n : Nesting) (kind : TokenKind) → is_one_of kind counting ≡ false → marks_after n kind ≡ n.marks
unfolding marks_after is_mark ends_expression
same_marks n kind h =
    rw (none_within kind (k.sign_semicolon ∷ k.sign_assign ∷ k.keyword_in ∷ k.sign_open_brace ∷ k.sign_close_brace ∷ []) counting refl h, not_kind kind k.sign_open counting refl h, not_kind kind k.sign_less counting refl h, not_kind kind k.sign_greater counting refl h, none_within kind marks counting refl h)

-- one more mark at most
marks_rise : (n : Nesting) (kind : TokenKind) → marks_after n kind ≤ n.marks + 1
unfolding marks_after
marks_rise n kind = go (ends_expression kind) (is_mark n kind)
  where
    go : (x y : Bool) → cond x 0 (cond y (n.marks + 1) n.marks) ≤ n.marks + 1
    go true y = omega arith
    go false true = omega arith
    go false false = omega arith

-- no mark behind what ends an expression
marks_end : (n : Nesting) (kind : TokenKind) → ends_expression kind ≡ true → marks_after n kind ≡ 0
unfolding marks_after
marks_end n kind h = rw h

-- A token that counts for nothing leaves all open as it is.
pub after_calm : {b t m : ℕ} {n : Nesting} (kind : TokenKind) → is_one_of kind counting ≡ false → Open b t m n → Open b t m (after n kind)
after_calm {b} {t} {m} {n} kind c h =
    let s = none_within kind brackets counting refl c in
    record { no_object = not_kind kind k.keyword_object counting refl c; blocks = same_blocks n kind s ∙ h.blocks; types = same_types n kind s ∙ h.types; marks = omega (arith, same_marks n kind c, h.marks); few_blocks = h.few_blocks; few_types = h.few_types; few_marks = h.few_marks }

-- Another token that is no bracket of blocks and types is a mark at most.
pub after_mark : {b t m : ℕ} {n : Nesting} (kind : TokenKind) → is_one_of kind brackets ≡ false → suc m ≤ 200 → Open b t m n → Open b t (suc m) (after n kind)
after_mark {b} {t} {m} {n} kind s l h = record { no_object = not_kind kind k.keyword_object brackets refl s; blocks = same_blocks n kind s ∙ h.blocks; types = same_types n kind s ∙ h.types; marks = omega (arith, marks_rise n kind, h.marks); few_blocks = h.few_blocks; few_types = h.few_types; few_marks = l }

-- a token that ends an expression and is no brace
pub after_end : {b t m : ℕ} {n : Nesting} (kind : TokenKind) → is_one_of kind brackets ≡ false → ends_expression kind ≡ true → Open b t m n → Open b t 0 (after n kind)
after_end {b} {t} {m} {n} kind s e h = record { no_object = not_kind kind k.keyword_object brackets refl s; blocks = same_blocks n kind s ∙ h.blocks; types = same_types n kind s ∙ h.types; marks = omega (arith, marks_end n kind e); few_blocks = h.few_blocks; few_types = h.few_types; few_marks = omega arith }

-- the words behind which a bracket is no mark
abbrev pub words : List TokenKind
words = k.keyword_if ∷ k.keyword_while ∷ k.keyword_for ∷ k.keyword_print ∷ k.keyword_catch ∷ k.keyword_batch ∷ []

-- the bracket behind such a word
pub after_word : {b t m : ℕ} {n : Nesting} → is_one_of n.last words ≡ true → Open b t m n → Open b t m (after n k.sign_open)
unfolding marks_after is_mark opens_mark ends_expression
after_word {b} {t} {m} {n} w h = record { no_object = refl; blocks = same_blocks n k.sign_open refl ∙ h.blocks; types = same_types n k.sign_open refl ∙ h.types; marks = rw w h.marks; few_blocks = h.few_blocks; few_types = h.few_types; few_marks = h.few_marks }

-- `<` behind `List` or `Rows`
pub after_opened : {b t m : ℕ} {n : Nesting} → is_one_of n.last (k.keyword_List ∷ k.keyword_Rows ∷ []) ≡ true → suc t ≤ 64 → Open b t m n → Open b (suc t) m (after n k.sign_less)
unfolding blocks_after opens_block types_after opens_type marks_after is_mark ends_expression
after_opened {b} {t} {m} {n} w l h = record { no_object = refl; blocks = h.blocks; types = rw w (omega (arith, h.types)); marks = rw w h.marks; few_blocks = h.few_blocks; few_types = l; few_marks = h.few_marks }

-- `>` where a type is open
pub after_closed : {b t m : ℕ} {n : Nesting} → Open b (suc t) m n → Open b t m (after n k.sign_greater)
unfolding blocks_after opens_block types_after opens_type marks_after is_mark ends_expression
after_closed {b} {t} {m} {n} h = record { no_object = refl; blocks = h.blocks; types = omega (arith, h.types); marks = rw (h.types, eqb-suc-zero t) h.marks; few_blocks = h.few_blocks; few_types = omega (arith, h.few_types); few_marks = h.few_marks }

-- the operator `<`
pub after_less : {b t m : ℕ} {n : Nesting} → Plain n.last → suc m ≤ 200 → Open b t m n → Open b t (suc m) (after n k.sign_less)
unfolding blocks_after opens_block types_after opens_type
after_less {b} {t} {m} {n} p l h = record { no_object = refl; blocks = h.blocks; types = rw (none_within n.last (k.keyword_List ∷ k.keyword_Rows ∷ []) heads refl p) h.types; marks = omega (arith, marks_rise n k.sign_less, h.marks); few_blocks = h.few_blocks; few_types = h.few_types; few_marks = l }

-- the operator `>`
pub after_greater : {b m : ℕ} {n : Nesting} → suc m ≤ 200 → Open b 0 m n → Open b 0 (suc m) (after n k.sign_greater)
unfolding blocks_after opens_block types_after opens_type
after_greater {b} {m} {n} l h = record { no_object = refl; blocks = h.blocks; types = omega (arith, h.types); marks = omega (arith, marks_rise n k.sign_greater, h.marks); few_blocks = h.few_blocks; few_types = h.few_types; few_marks = l }

-- `{` of a block
pub after_brace : {b t m : ℕ} {n : Nesting} → Plain n.before → suc b ≤ 64 → Open b t m n → Open (suc b) t 0 (after n k.sign_open_brace)
unfolding blocks_after opens_block types_after opens_type marks_after ends_expression
after_brace {b} {t} {m} {n} p l h = record { no_object = refl; blocks = rw (none_within n.before (k.keyword_interface ∷ k.keyword_class ∷ []) heads refl p) (omega (arith, h.blocks)); types = h.types; marks = omega arith; few_blocks = l; few_types = h.few_types; few_marks = omega arith }

-- `{` of an interface or class
pub after_head : {b t m : ℕ} {n : Nesting} → is_one_of n.before (k.keyword_interface ∷ k.keyword_class ∷ []) ≡ true → Open b t m n → Open b t 0 (after n k.sign_open_brace)
unfolding blocks_after opens_block types_after opens_type marks_after ends_expression
after_head {b} {t} {m} {n} w h = record { no_object = refl; blocks = rw w h.blocks; types = h.types; marks = omega arith; few_blocks = h.few_blocks; few_types = h.few_types; few_marks = omega arith }

-- `}`
pub after_close : {b t m : ℕ} {n : Nesting} (c : ℕ) → b - 1 ≡ c → Open b t m n → Open c t 0 (after n k.sign_close_brace)
unfolding blocks_after opens_block types_after opens_type marks_after ends_expression
after_close {b} {t} {m} {n} c e h = record { no_object = refl; blocks = omega (arith, h.blocks, e); types = h.types; marks = omega arith; few_blocks = omega (arith, h.few_blocks, e); few_types = h.few_types; few_marks = omega arith }
