-- The expressions of a program break no limit.
use Rattle.std.proofs.Common.{◌≡◌, ℕ, suc, ◌+◌, ◌≤◌, Bool, true, false, cond, ℤ, pos, negsuc, List, [], ◌∷◌, ◌++◌, refl, arith, eq-eqb}
use Rattle.rb_trees.specs.declared.tokens.TokenKind.{TokenKind}
use Rattle.rb_trees.specs.declared.tokens.TokenKind.TheVariants as kind
use Rattle.rb_trees.specs.declared.code.UnOp.{UnOp}
use Rattle.rb_trees.specs.declared.code.UnOp.TheVariants as unary
use Rattle.rb_trees.specs.declared.code.BinOp.{BinOp}
use Rattle.rb_trees.specs.declared.code.BinOp.TheVariants as binary
use Rattle.rb_trees.specs.declared.values.Value.{Value}
use Rattle.rb_trees.specs.declared.values.Value.TheOpen.{Value-F}
use Rattle.rb_trees.specs.declared.values.Value.TheViews.{out-Value}
use Rattle.rb_trees.specs.mirror.Types.{TypeTree}
use Rattle.rb_trees.specs.mirror.Code.{Expr, Exprs, Lit, Name, This, Unary, Binary, Field, Call, Index, New, Items, Taken, NoExprs, MoreExprs}
use Rattle.rb_trees.specs.printing.Pieces.{Piece, Token, Space}
use Rattle.rb_trees.specs.printing.Types.{type_pieces}
use Rattle.rb_trees.specs.printing.Words as w
use Rattle.rb_trees.specs.printing.Words.{form_pieces, int_pieces, bool_piece}
use Rattle.rb_trees.specs.printing.Exprs.{binary_sign, unary_pieces, in_parentheses, expr_pieces, args_pieces, more_args_pieces}
use Rattle.rb_trees.specs.Kinds as k
use Rattle.rb_trees.specs.Kinds.{is_one_of}
use Rattle.rb_meaning_bytes.specs.grammar.Limits.{Nesting, after}
use Rattle.rb_parse.proofs.readable.Trees.{IsReadInt, IsReadForm, IsReadExpr, AreReadExprs, type_depth, marks_of, marks_of_all}
use Rattle.rb_parse.proofs.printing.within.States.{Open, Plain, brackets, counting, more_marks, after_calm, after_mark, after_opened, after_closed, after_less, after_greater}
use Rattle.rb_parse.proofs.printing.within.Fits.{Fits, nothing, spaced, joined, weaker, next}
use Rattle.rb_parse.proofs.printing.within.Types.{Behind, type_fits}

-- From wherever an expression may begin, pieces with so many marks at most break no limit as long as those are few.
pub record Fitting (ps : List Piece) (marks : ℕ) : Type 0 where
  pub fits : (b m : ℕ) (n : Nesting) → m + marks ≤ 200 → Behind b 0 m n → Fits (Behind b 0 (m + marks)) n ps

pub counted : {b m : ℕ} {n : Nesting} (l : ℕ) → m ≤ l → l ≤ 200 → Behind b 0 m n → Behind b 0 l n
counted l e f h = record { open_is = more_marks l e f h.open_is; last = h.last }

at_most : {ps : List Piece} {i : ℕ} (j : ℕ) → i ≤ j → Fitting ps i → Fitting ps j
at_most {ps} {i} j e x = record { fits = λ b m n f h. weaker (x.fits b m n (omega (arith, e, f)) h) (λ o g. counted (m + j) (omega (arith, e)) f g) }

none : Fitting [] 0
none = record { fits = λ b m n f h. nothing (counted (m + 0) (omega arith) f h) }

both : {ps qs : List Piece} {i j : ℕ} → Fitting ps i → Fitting qs j → Fitting (ps ++ qs) (i + j)
both {ps} {qs} {i} {j} x y = record { fits = λ b m n f h. joined (x.fits b m n (omega (arith, f)) h) (λ o g. weaker (y.fits b (m + i) o (omega (arith, f)) g) (λ u v. counted (m + (i + j)) (omega arith) f v)) }

apart : {ps : List Piece} {i : ℕ} (bytes : List ℕ) → Fitting ps i → Fitting (Space bytes ∷ ps) i
apart bytes x = record { fits = λ b m n f h. spaced bytes (x.fits b m n f h) }

-- a token that is no mark
calm : {ps : List Piece} {i : ℕ} (kind : TokenKind) (bytes : List ℕ) → is_one_of kind counting ≡ false → Plain kind → Fitting ps i → Fitting (Token kind bytes ∷ ps) i
calm kind bytes c p x = record { fits = λ b m n f h. let a = after_calm kind c h.open_is in next a (x.fits b m _ f (record { open_is = a; last = p })) }

-- a token that may be a mark, given what is open behind it
one_more : {ps : List Piece} {i : ℕ} (kind : TokenKind) (bytes : List ℕ) → Plain kind → ((b m : ℕ) (n : Nesting) → suc m ≤ 200 → Behind b 0 m n → Open b 0 (suc m) (after n kind)) → Fitting ps i → Fitting (Token kind bytes ∷ ps) (suc i)
one_more {ps} {i} kind bytes p to x = record {
  fits = λ b m n f h.
      let a = to b m n (omega (arith, f)) h in
      next a (weaker (x.fits b (suc m) _ (omega (arith, f)) (record { open_is = a; last = p })) (λ u v. counted (m + suc i) (omega arith) f v));
}

mark : {ps : List Piece} {i : ℕ} (kind : TokenKind) (bytes : List ℕ) → is_one_of kind brackets ≡ false → Plain kind → Fitting ps i → Fitting (Token kind bytes ∷ ps) (suc i)
mark kind bytes c p x = one_more kind bytes p (λ b m n l h. after_mark kind c l h.open_is) x

sign_fits : {ps : List Piece} {i : ℕ} (op : BinOp) → Fitting ps i → Fitting (binary_sign op ∷ ps) (suc i)
sign_fits binary.Or x = mark k.sign_or _ refl refl x
sign_fits binary.And x = mark k.sign_and _ refl refl x
sign_fits binary.Eq x = mark k.sign_equal _ refl refl x
sign_fits binary.Ne x = mark k.sign_unequal _ refl refl x
sign_fits binary.Lt x = one_more k.sign_less _ refl (λ b m n l h. after_less h.last l h.open_is) x
sign_fits binary.Le x = mark k.sign_at_most _ refl refl x
sign_fits binary.Gt x = one_more k.sign_greater _ refl (λ b m n l h. after_greater l h.open_is) x
sign_fits binary.Ge x = mark k.sign_at_least _ refl refl x
sign_fits binary.Add x = mark k.sign_plus _ refl refl x
sign_fits binary.Sub x = mark k.sign_minus _ refl refl x
sign_fits binary.Mul x = mark k.sign_star _ refl refl x
sign_fits binary.Div x = mark k.sign_slash _ refl refl x
sign_fits binary.Rem x = mark k.sign_percent _ refl refl x

closing : Fitting (w.closes ∷ []) 0
closing = calm k.sign_close _ refl refl none

parenthesised : {ps : List Piece} {i : ℕ} → Fitting ps i → Fitting (in_parentheses ps) (suc i)
parenthesised {ps} {i} x = at_most (suc i) (omega arith) (mark k.sign_open _ refl refl (both x closing))

placed : {ps : List Piece} {i : ℕ} (outside : Bool) → Fitting ps i → Fitting (cond outside (in_parentheses ps) ps) (cond outside (suc i) i)
placed true x = parenthesised x
placed false x = x

unary_fits : {ps : List Piece} {i : ℕ} (op : UnOp) → Fitting ps i → Fitting (unary_pieces op ps) (suc i)
unary_fits unary.Not x = mark k.sign_not _ refl refl x
unary_fits unary.Neg x = mark k.sign_minus _ refl refl x
unary_fits unary.Len x = calm k.keyword_len _ refl refl (parenthesised x)
unary_fits unary.Str x = calm k.keyword_str _ refl refl (parenthesised x)

number : (bytes : List ℕ) → Fitting (Token kind.Number bytes ∷ []) 0
number bytes = calm kind.Number bytes refl refl none

int_fits : (minus : Bool) (i : ℤ) → IsReadInt minus i → Fitting (int_pieces i) 0
int_fits minus (pos n) h = number _
int_fits true (negsuc n) h = rw (eq-eqb n 9223372036854775807 h) (number _)
int_fits false (negsuc n) h = elim h [ ]

bool_fits : (truth : Bool) → Fitting (bool_piece truth ∷ []) 0
bool_fits true = calm k.keyword_true _ refl refl none
bool_fits false = calm k.keyword_false _ refl refl none

form_fits : (minus : Bool) (form : Value-F Value) → IsReadForm minus form → Fitting (form_pieces form) 0
form_fits minus (Value-F.Int n) h = int_fits minus n h
form_fits minus (Value-F.Bool truth) h = bool_fits truth
form_fits minus (Value-F.Text text) h = calm kind.TextLit _ refl refl none
form_fits minus _ h = none

-- `List<ITEM>`, behind which no type is open
list_fits : {ps : List Piece} {i : ℕ} (item : TypeTree) → suc (type_depth item) ≤ 64 → Fitting ps i → Fitting (w.List_word ∷ w.less ∷ type_pieces item ++ w.greater ∷ ps) i
list_fits {ps} {i} item d x = record {
  fits = λ b m n f h.
      let a = after_calm k.keyword_List refl h.open_is in
      let c = after_opened refl (omega (arith, d)) a in
      next a (next c (joined (type_fits item b 1 m _ (omega (arith, d)) c refl) (λ o g. next (after_closed g.open_is) (x.fits b m _ f (record { open_is = after_closed g.open_is; last = refl })))));
}

named : {ps : List Piece} {i : ℕ} (name : List ℕ) → Fitting ps i → Fitting (Token kind.Name name ∷ ps) i
named name x = calm kind.Name name refl refl x

mutual
  -- An expression has the marks that are counted on its tree.
  pub expr_fits : (minus : Bool) (e : Expr) → IsReadExpr minus e → Fitting (expr_pieces e) (marks_of e)
  expr_fits minus (Lit at value) h = form_fits minus (out-Value value) h
  expr_fits minus (Name at name) h = named name none
  expr_fits minus (This at) h = calm k.keyword_this _ refl refl none
  expr_fits minus (Unary at op a) h = unary_fits op (placed _ (expr_fits _ a h))
  expr_fits minus (Binary at op a b) h = at_most _ (omega arith) (both (placed _ (expr_fits _ a h.0)) (apart _ (sign_fits op (apart _ (placed _ (expr_fits _ b h.1))))))
  expr_fits minus (Field at a name) h = at_most _ (omega arith) (both (placed _ (expr_fits _ a h.0)) (mark k.sign_dot _ refl refl (named name none)))
  expr_fits minus (Call at a method args) h = at_most _ (omega arith) (both (placed _ (expr_fits _ a h.0)) (mark k.sign_dot _ refl refl (named method (parenthesised (args_fit args h.2)))))
  expr_fits minus (Index at a b) h = at_most _ (omega arith) (both (both (placed _ (expr_fits _ a h.0)) (mark k.sign_open_bracket _ refl refl (expr_fits false b h.1))) (calm k.sign_close_bracket _ refl refl none))
  expr_fits minus (New at class args) h = calm k.keyword_new _ refl refl (apart _ (named class (parenthesised (args_fit args h.1))))
  expr_fits minus (Items at item items) h = list_fits item h.0.1 (parenthesised (args_fit items h.1))
  expr_fits minus (Taken at step) h = elim h [ ]

  args_fit : (es : Exprs) → AreReadExprs es → Fitting (args_pieces es) (marks_of_all es)
  args_fit NoExprs h = none
  args_fit (MoreExprs e es) h = both (expr_fits false e h.0) (more_args_fit es h.1)

  more_args_fit : (es : Exprs) → AreReadExprs es → Fitting (more_args_pieces es) (marks_of_all es)
  more_args_fit NoExprs h = none
  more_args_fit (MoreExprs e es) h = calm k.sign_comma _ refl refl (apart _ (both (expr_fits false e h.0) (more_args_fit es h.1)))
