-- The expressions that are printed, and their derivations.
use Rattle.std.proofs.Common.{◌≡◌, ℕ, Bool, false, Option, List, [], ◌∷◌, ◌++◌, refl, ap, sym, ◌∙◌, subst, append_assoc}
use Rattle.rb_trees.specs.declared.code.UnOp.{UnOp}
use Rattle.rb_trees.specs.declared.code.UnOp.TheVariants as unary
use Rattle.rb_trees.specs.declared.code.BinOp.{BinOp}
use Rattle.rb_trees.specs.declared.code.BinOp.TheVariants as binary
use Rattle.rb_trees.specs.mirror.Code.{Expr, Exprs, Lit, Name, This, Unary, Binary, Field, Call, Index, New, Items, Taken, NoExprs, MoreExprs}
use Rattle.rb_trees.specs.printing.Pieces.{Piece}
use Rattle.rb_trees.specs.printing.Exprs.{binary_level, left_level, right_level, binary_sign, unary_level, operand_level, level_of, in_parentheses, placed_at, unary_pieces, expr_pieces, args_pieces, more_args_pieces}
use Rattle.rb_trees.specs.printing.Words as w
use Rattle.rb_trees.specs.printing.Words.{space, dot, name_piece}
use Rattle.rb_trees.specs.printing.Unplaced.{unplaced_type, unplaced_expr, unplaced_exprs}
use Rattle.rb_meaning_bytes.specs.grammar.Values.{slice}
use Rattle.rb_meaning_bytes.specs.grammar.Symbols as s
use Rattle.rb_meaning_bytes.specs.grammar.Symbols.{Chain}
use Rattle.rb_meaning_bytes.specs.grammar.Productions as r
use Rattle.rb_meaning_bytes.specs.grammar.Productions.{member}
use Rattle.rb_parse.proofs.readable.Trees.{behind, before_operand, before_right, IsReadExpr, AreReadExprs}
use Rattle.rb_parse.proofs.printing.derived.Made.{MadePart, end, skip, token, the, last, by, turned}
use Rattle.rb_parse.proofs.printing.derived.Types.{type_made}
use Rattle.rb_parse.proofs.printing.derived.Literals.{literal_made}
use Rattle.rb_parse.proofs.printing.derived.Places.{Is, OpenPostfix, At, closed, placed, outermost, opened, opened_postfix}

-- what is made of two operands, by what the right one is
operands : (f g : Expr → Expr) (at : ℕ) (op : BinOp) (left x b : Expr) → ((e : Expr) → unplaced_expr (f e) ≡ g (unplaced_expr e)) → unplaced_expr x ≡ unplaced_expr b → unplaced_expr (f (Binary at op left x)) ≡ g (Binary 0 op (unplaced_expr left) (unplaced_expr b))
operands f g at op left x b l k = l (Binary at op left x) ∙ ap (λ z. g (Binary 0 op (unplaced_expr left) z)) k

-- what is made of the two sides of a comparison, by what they are
compared : (op : BinOp) (y a b : Expr) (f : Expr → Expr) → unplaced_expr y ≡ unplaced_expr a → ((left : Expr) → unplaced_expr (f left) ≡ Binary 0 op (unplaced_expr left) (unplaced_expr b)) → unplaced_expr (f y) ≡ Binary 0 op (unplaced_expr a) (unplaced_expr b)
compared op y a b f i l = l y ∙ ap (λ z. Binary 0 op z (unplaced_expr b)) i

module _ (source : List ℕ) where
  binary_made : (op : BinOp) (at : ℕ) (a b : Expr) (ps qs : List Piece) → At source (left_level op) a ps → At source (right_level op) b qs → At source (binary_level op) (Binary at op a b) (ps ++ space ∷ binary_sign op ∷ space ∷ qs)
  binary_made binary.Or at a b ps qs h k =
      opened source s.OrLevel a (Binary at binary.Or a b) ps (space ∷ w.or ∷ space ∷ qs) (λ left. Binary 0 binary.Or left (unplaced_expr b)) h refl λ more g m.
      by r.or (skip (token λ t i. skip (the (closed source s.AndLevel b qs k) λ x j. last m λ f l left. operands f g t.start binary.Or left x b l j)))
  binary_made binary.And at a b ps qs h k =
      opened source s.AndLevel a (Binary at binary.And a b) ps (space ∷ w.and ∷ space ∷ qs) (λ left. Binary 0 binary.And left (unplaced_expr b)) h refl λ more g m.
      by r.and (skip (token λ t i. skip (the k λ x j. last m λ f l left. operands f g t.start binary.And left x b l j)))
  binary_made binary.Eq at a b ps qs h k =
      by r.comparison (the h λ y i. last (by r.equal (skip (token λ t o. skip (last k λ x j left. ap (Binary 0 binary.Eq (unplaced_expr left)) j)))) λ f l. compared binary.Eq y a b f i l)
  binary_made binary.Ne at a b ps qs h k =
      by r.comparison (the h λ y i. last (by r.unequal (skip (token λ t o. skip (last k λ x j left. ap (Binary 0 binary.Ne (unplaced_expr left)) j)))) λ f l. compared binary.Ne y a b f i l)
  binary_made binary.Lt at a b ps qs h k =
      by r.ordering (the (closed source s.SumLevel a ps h) λ y i. last (by r.less (skip (token λ t o. skip (last (closed source s.SumLevel b qs k) λ x j left. ap (Binary 0 binary.Lt (unplaced_expr left)) j)))) λ f l. compared binary.Lt y a b f i l)
  binary_made binary.Le at a b ps qs h k =
      by r.ordering (the (closed source s.SumLevel a ps h) λ y i. last (by r.at_most (skip (token λ t o. skip (last (closed source s.SumLevel b qs k) λ x j left. ap (Binary 0 binary.Le (unplaced_expr left)) j)))) λ f l. compared binary.Le y a b f i l)
  binary_made binary.Gt at a b ps qs h k =
      by r.ordering (the (closed source s.SumLevel a ps h) λ y i. last (by r.greater (skip (token λ t o. skip (last (closed source s.SumLevel b qs k) λ x j left. ap (Binary 0 binary.Gt (unplaced_expr left)) j)))) λ f l. compared binary.Gt y a b f i l)
  binary_made binary.Ge at a b ps qs h k =
      by r.ordering (the (closed source s.SumLevel a ps h) λ y i. last (by r.at_least (skip (token λ t o. skip (last (closed source s.SumLevel b qs k) λ x j left. ap (Binary 0 binary.Ge (unplaced_expr left)) j)))) λ f l. compared binary.Ge y a b f i l)
  binary_made binary.Add at a b ps qs h k =
      opened source s.SumLevel a (Binary at binary.Add a b) ps (space ∷ w.plus ∷ space ∷ qs) (λ left. Binary 0 binary.Add left (unplaced_expr b)) h refl λ more g m.
      by r.plus (skip (token λ t i. skip (the (closed source s.ProductLevel b qs k) λ x j. last m λ f l left. operands f g t.start binary.Add left x b l j)))
  binary_made binary.Sub at a b ps qs h k =
      opened source s.SumLevel a (Binary at binary.Sub a b) ps (space ∷ w.minus ∷ space ∷ qs) (λ left. Binary 0 binary.Sub left (unplaced_expr b)) h refl λ more g m.
      by r.minus (skip (token λ t i. skip (the (closed source s.ProductLevel b qs k) λ x j. last m λ f l left. operands f g t.start binary.Sub left x b l j)))
  binary_made binary.Mul at a b ps qs h k =
      opened source s.ProductLevel a (Binary at binary.Mul a b) ps (space ∷ w.star ∷ space ∷ qs) (λ left. Binary 0 binary.Mul left (unplaced_expr b)) h refl λ more g m.
      by r.times (skip (token λ t i. skip (the k λ x j. last m λ f l left. operands f g t.start binary.Mul left x b l j)))
  binary_made binary.Div at a b ps qs h k =
      opened source s.ProductLevel a (Binary at binary.Div a b) ps (space ∷ w.slash ∷ space ∷ qs) (λ left. Binary 0 binary.Div left (unplaced_expr b)) h refl λ more g m.
      by r.divided (skip (token λ t i. skip (the k λ x j. last m λ f l left. operands f g t.start binary.Div left x b l j)))
  binary_made binary.Rem at a b ps qs h k =
      opened source s.ProductLevel a (Binary at binary.Rem a b) ps (space ∷ w.percent ∷ space ∷ qs) (λ left. Binary 0 binary.Rem left (unplaced_expr b)) h refl λ more g m.
      by r.remainder (skip (token λ t i. skip (the k λ x j. last m λ f l left. operands f g t.start binary.Rem left x b l j)))

  unary_made : (op : UnOp) (at : ℕ) (a : Expr) (ps : List Piece) → At source (operand_level op) a ps → At source (unary_level op) (Unary at op a) (unary_pieces op ps)
  unary_made unary.Not at a ps h = by r.not (token λ t i. last h λ x k. ap (Unary 0 unary.Not) k)
  unary_made unary.Neg at a ps h = by r.negative (token λ t i. last h λ x k. ap (Unary 0 unary.Neg) k)
  unary_made unary.Len at a ps h = by r.len (token λ t i. token λ u j. the (closed source s.OrLevel a ps h) λ x k. token λ v l. end (ap (Unary 0 unary.Len) k))
  unary_made unary.Str at a ps h = by r.str (token λ t i. token λ u j. the (closed source s.OrLevel a ps h) λ x k. token λ v l. end (ap (Unary 0 unary.Str) k))

  -- a call's arguments, or none, make this of a receiver and a name
  abbrev MakesMember : (Expr → List ℕ → Expr) → Option Exprs → Type 0
  MakesMember w args = (at : ℕ) (name : List ℕ) (left : Expr) → unplaced_expr (member at name args left) ≡ w (unplaced_expr left) name

  member_made : (a e : Expr) (name : List ℕ) (ps qs : List Piece) (w : Expr → List ℕ → Expr) → OpenPostfix source a ps → unplaced_expr e ≡ w (unplaced_expr a) name
      → MadePart source s.CallPart qs (λ args. MakesMember w args) → OpenPostfix source e (ps ++ dot ∷ name_piece name ∷ qs)
  member_made a e name ps qs w h q c =
      opened_postfix source a e ps (dot ∷ name_piece name ∷ qs) (λ left. w left name) h q λ more g m.
      by r.member_of (token λ t i. token λ u j. the c λ args k. last m λ f l left. l (member u.start (slice source u) args left) ∙ ap g (k u.start (slice source u) left ∙ ap (w (unplaced_expr left)) j))

  field_made : (at : ℕ) (a : Expr) (name : List ℕ) (ps : List Piece) → OpenPostfix source a ps → OpenPostfix source (Field at a name) (ps ++ dot ∷ name_piece name ∷ [])
  field_made at a name ps h = member_made a (Field at a name) name ps [] (λ left n. Field 0 left n) h refl (by r.no_call (end λ n x left. refl))

  call_made : (at : ℕ) (a : Expr) (name : List ℕ) (args : Exprs) (ps qs : List Piece) → OpenPostfix source a ps → MadePart source s.Arguments qs (λ x. unplaced_exprs x ≡ unplaced_exprs args)
      → OpenPostfix source (Call at a name args) (ps ++ dot ∷ name_piece name ∷ in_parentheses qs)
  call_made at a name args ps qs h c =
      member_made a (Call at a name args) name ps (in_parentheses qs) (λ left n. Call 0 left n (unplaced_exprs args)) h refl
      (by r.call (token λ t i. the c λ x k. token λ u j. end λ n x left. ap (Call 0 (unplaced_expr left) x) k))

  index_made : (at : ℕ) (a b : Expr) (ps qs : List Piece) → OpenPostfix source a ps → MadePart source (Chain s.OrLevel) qs (λ x. Is b x)
      → OpenPostfix source (Index at a b) (ps ++ w.open_bracket ∷ qs ++ w.close_bracket ∷ [])
  index_made at a b ps qs h c =
      let rest : List Piece = w.open_bracket ∷ (qs ++ w.close_bracket ∷ []) in
      subst (λ l. OpenPostfix source (Index at a b) l) (sym (append_assoc ps (w.open_bracket ∷ qs) (w.close_bracket ∷ [])))
      (opened_postfix source a (Index at a b) ps rest (λ left. Index 0 left (unplaced_expr b)) h refl λ more g m.
      by r.index (token λ t i. turned (append_assoc qs (w.close_bracket ∷ []) more) (the c λ x k. token λ u j. last m λ f l left. l (Index t.start left x) ∙ ap (λ z. g (Index 0 (unplaced_expr left) z)) k)))

  mutual
    -- what is printed of an expression is derived at the place of its level
    own : (e : Expr) (minus : Bool) → IsReadExpr minus e → At source (level_of e) e (expr_pieces e)
    own (Lit at v) minus h = literal_made source v minus h
    own (Name at name) minus h = by r.name (token λ t i. end (ap (Name 0) i))
    own (This at) minus h = by r.this (token λ t i. end refl)
    own (Unary at op a) minus h = unary_made op at a (placed_at (operand_level op) a (expr_pieces a)) (placed source (operand_level op) a (expr_pieces a) (own a (behind (before_operand op) (operand_level op) a) h))
    own (Binary at op a b) minus h =
        binary_made op at a b (placed_at (left_level op) a (expr_pieces a)) (placed_at (right_level op) b (expr_pieces b))
        (placed source (left_level op) a (expr_pieces a) (own a (behind minus (left_level op) a) h.0))
        (placed source (right_level op) b (expr_pieces b) (own b (behind (before_right op) (right_level op) b) h.1))
    own (Field at a name) minus h = field_made at a name (placed_at 7 a (expr_pieces a)) (placed source 7 a (expr_pieces a) (own a (behind minus 7 a) h.0))
    own (Call at a name args) minus h = call_made at a name args (placed_at 7 a (expr_pieces a)) (args_pieces args) (placed source 7 a (expr_pieces a) (own a (behind minus 7 a) h.0)) (args_made args h.2)
    own (Index at a b) minus h = index_made at a b (placed_at 7 a (expr_pieces a)) (expr_pieces b) (placed source 7 a (expr_pieces a) (own a (behind minus 7 a) h.0)) (outermost source b (expr_pieces b) (own b false h.1))
    own (New at class args) minus h = by r.new (token λ t i. skip (token λ u j. token λ v k. the (args_made args h.1) λ x l. token λ y n. end (ap (λ c. New 0 c (unplaced_exprs x)) j ∙ ap (New 0 class) l)))
    own (Items at item items) minus h =
        by r.list (token λ t i. token λ u j. the (type_made source item) λ x k. token λ v l. token λ y n. the (args_made items h.1) λ xs o. token λ z q.
        end (ap (λ c. Items 0 c (unplaced_exprs xs)) k ∙ ap (Items 0 (unplaced_type item)) o))
    own (Taken at step) minus h = absurd h

    args_made : (es : Exprs) → AreReadExprs es → MadePart source s.Arguments (args_pieces es) (λ x. unplaced_exprs x ≡ unplaced_exprs es)
    args_made NoExprs h = by r.no_arguments (end refl)
    args_made (MoreExprs e es) h =
        by r.arguments (the (outermost source e (expr_pieces e) (own e false h.0)) λ x k. last (more_args_made es h.1) λ xs l. ap (λ y. MoreExprs y (unplaced_exprs xs)) k ∙ ap (MoreExprs (unplaced_expr e)) l)

    more_args_made : (es : Exprs) → AreReadExprs es → MadePart source s.MoreArguments (more_args_pieces es) (λ x. unplaced_exprs x ≡ unplaced_exprs es)
    more_args_made NoExprs h = by r.last_argument (end refl)
    more_args_made (MoreExprs e es) h =
        by r.more_arguments (token λ t i. skip (the (outermost source e (expr_pieces e) (own e false h.0)) λ x k. last (more_args_made es h.1) λ xs l. ap (λ y. MoreExprs y (unplaced_exprs xs)) k ∙ ap (MoreExprs (unplaced_expr e)) l))

  -- an expression where any may stand
  pub expr_made : (e : Expr) → IsReadExpr false e → MadePart source (Chain s.OrLevel) (expr_pieces e) (λ x. Is e x)
  expr_made e h = outermost source e (expr_pieces e) (own e false h)
