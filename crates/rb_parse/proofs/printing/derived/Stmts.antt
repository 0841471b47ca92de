-- The statements and bodies that are printed, and their derivations.
use Rattle.std.proofs.Common.{◌≡◌, ℕ, suc, Option, None, Some, List, [], ◌∷◌, ◌++◌, refl, ap, sym, ◌∙◌, append_assoc}
use Rattle.std.specs.Option.{option_map}
use Rattle.rb_trees.specs.mirror.Code.{Expr, Stmt, Stmts, Val, Var, Assign, Run, Print, Throw, If, While, For, Try, Batch, NoStmts, MoreStmts}
use Rattle.rb_trees.specs.mirror.Declarations.{Body}
use Rattle.rb_trees.specs.printing.Pieces.{Piece, Space}
use Rattle.rb_trees.specs.printing.Exprs.{expr_pieces, in_parentheses}
use Rattle.rb_trees.specs.printing.Stmts.{deeper, closed, closed_by, line, stmt_pieces, stmts_pieces, return_pieces, body_pieces}
use Rattle.rb_trees.specs.printing.Words as w
use Rattle.rb_trees.specs.printing.Words.{space, name_piece}
use Rattle.rb_trees.specs.printing.Unplaced.{unplaced_expr, unplaced_stmt, unplaced_stmts, unplaced_body}
use Rattle.rb_meaning_bytes.specs.grammar.Symbols as s
use Rattle.rb_meaning_bytes.specs.grammar.Symbols.{Symbol, The, Trees}
use Rattle.rb_meaning_bytes.specs.grammar.Productions as r
use Rattle.rb_parse.proofs.readable.Trees.{IsReadStmt, AreReadStmts, IsReadReturn, IsReadBody}
use Rattle.rb_parse.proofs.printing.derived.Made.{Made, MadePart, end, skip, token, the, last, by, turned}
use Rattle.rb_parse.proofs.printing.derived.Shapes.{four, six}
use Rattle.rb_parse.proofs.printing.derived.Exprs.{expr_made}

-- a line's end
abbrev pub feed : List Piece
feed = Space (10 ∷ []) ∷ []

-- the end of a line that opens a block
abbrev pub brace : List Piece
brace = space ∷ w.open_brace ∷ []

-- the end of a statement
abbrev semicolon : List Piece
semicolon = w.semicolon ∷ []

-- the end of a head
abbrev bracket : List Piece
bracket = w.closes ∷ []

-- what follows an expression makes this statement of it, but for positions
abbrev Ends : (Expr → Stmt) → (Expr → Stmt) → Type 0
Ends g f = (left : Expr) → unplaced_stmt (f left) ≡ g (unplaced_expr left)

module _ (source : List ℕ) where
  abbrev pub Statements : Stmts → List Piece → Type 0
  Statements ss ps = MadePart source s.Statements ps (λ x. unplaced_stmts x ≡ unplaced_stmts ss)

  -- a block's lines between its braces, and what is behind them
  block : {l : List Symbol} {ps rest : List Piece} {before : List ℕ} {Q : Stmts × Trees l → Type 0} (after : List ℕ) (ss : Stmts) → Statements ss ps
      → ((x : Stmts) → unplaced_stmts x ≡ unplaced_stmts ss → Made source l rest (λ xs. Q (x, xs)))
      → Made source (The s.Block ∷ l) (w.open_brace ∷ Space before ∷ (ps ++ Space after ∷ w.close_brace ∷ rest)) Q
  block {ps = ps} {rest} {before} after ss m f =
      turned (ap (λ qs. w.open_brace ∷ Space before ∷ qs) (sym (append_assoc ps (Space after ∷ w.close_brace ∷ []) rest)))
      (the (by r.block (token λ t i. skip (the m λ x k. skip (token λ u j. end k)))) f)

  no_else : MadePart source s.Otherwise [] (λ x. unplaced_stmts x ≡ NoStmts)
  no_else = by r.no_else (end refl)

  else_made : {ps : List Piece} {before : List ℕ} (indent : List ℕ) (ss : Stmts) → Statements ss ps
      → MadePart source s.Otherwise (space ∷ w.else_word ∷ space ∷ w.open_brace ∷ Space before ∷ (ps ++ closed indent)) (λ x. unplaced_stmts x ≡ unplaced_stmts ss)
  else_made indent ss m = by r.«else» (skip (token λ t i. skip (block indent ss m λ x k. skip (end k))))

  mutual
    stmt_made : (x : Stmt) (indent : List ℕ) (blocks : ℕ) → IsReadStmt blocks x → MadePart source s.Statement (stmt_pieces indent x) (λ y. unplaced_stmt y ≡ unplaced_stmt x)
    stmt_made (Val at name e) indent blocks h =
        by r.val (skip (token λ t i. skip (token λ u j. skip (token λ v k. skip (turned (append_assoc (expr_pieces e) semicolon feed)
        (the (expr_made source e h.1.0) λ x l. token λ y m. skip (end (ap (λ n. Val 0 n (unplaced_expr x)) j ∙ ap (Val 0 name) l))))))))
    stmt_made (Var at name e) indent blocks h =
        by r.var (skip (token λ t i. skip (token λ u j. skip (token λ v k. skip (turned (append_assoc (expr_pieces e) semicolon feed)
        (the (expr_made source e h.1.0) λ x l. token λ y m. skip (end (ap (λ n. Var 0 n (unplaced_expr x)) j ∙ ap (Var 0 name) l))))))))
    stmt_made (Assign at a b) indent blocks h =
        by r.expression_first (skip (turned (four (expr_pieces a) (space ∷ w.assign ∷ space ∷ expr_pieces b) semicolon feed)
        (the (expr_made source a h.0.0) λ x k. last {P = λ f. Ends (λ left. Assign 0 left (unplaced_expr b)) f}
        (by r.assigned (skip (token λ t i. skip (the (expr_made source b h.1.0) λ y l. token λ u j. skip (end λ left. ap (Assign 0 (unplaced_expr left)) l)))))
        λ f l. l x ∙ ap (λ z. Assign 0 z (unplaced_expr b)) k)))
    stmt_made (Run at e) indent blocks h =
        by r.expression_first (skip (turned (append_assoc (expr_pieces e) semicolon feed)
        (the (expr_made source e h.0) λ x k. last {P = λ f. Ends (λ left. Run 0 left) f} (by r.alone (token λ t i. skip (end λ left. refl))) λ f l. l x ∙ ap (Run 0) k)))
    stmt_made (Print at e) indent blocks h =
        by r.print (skip (token λ t i. token λ u j. turned (four (expr_pieces e) bracket semicolon feed)
        (the (expr_made source e h.0) λ x k. token λ v l. token λ y m. skip (end (ap (Print 0) k)))))
    stmt_made (Throw at e) indent blocks h =
        by r.throw (skip (token λ t i. skip (turned (append_assoc (expr_pieces e) semicolon feed)
        (the (expr_made source e h.0) λ x k. token λ v l. skip (end (ap (Throw 0) k))))))
    stmt_made (If at e a NoStmts) indent blocks h =
        by r.«if» (skip (token λ t i. skip (token λ u j. turned (six (expr_pieces e) bracket brace feed (stmts_pieces (deeper indent) a) (closed indent))
        (the (expr_made source e h.0.0) λ x k. token λ v l. skip (block indent a (stmts_made a (deeper indent) (suc blocks) h.2) λ y m. the no_else λ z n. skip (end cc))))))
    stmt_made (If at e a (MoreStmts b bs)) indent blocks h =
        let lines : List Piece = stmts_pieces (deeper indent) (MoreStmts b bs) in
        by r.«if» (skip (token λ t i. skip (token λ u j. turned (six (expr_pieces e) bracket brace feed (stmts_pieces (deeper indent) a) (line indent (closed_by (w.else_word ∷ [])) ++ lines ++ closed indent))
        (the (expr_made source e h.0.0) λ x k. token λ v l. skip (block indent a (stmts_made a (deeper indent) (suc blocks) h.2) λ y m.
        last (else_made indent (MoreStmts b bs) (stmts_made (MoreStmts b bs) (deeper indent) (suc blocks) h.3)) λ z n. cc)))))
    stmt_made (While at e a) indent blocks h =
        by r.while (skip (token λ t i. skip (token λ u j. turned (six (expr_pieces e) bracket brace feed (stmts_pieces (deeper indent) a) (closed indent))
        (the (expr_made source e h.0.0) λ x k. token λ v l. skip (block indent a (stmts_made a (deeper indent) (suc blocks) h.2) λ y m. skip (end cc))))))
    stmt_made (For at name e a) indent blocks h =
        by r.for (skip (token λ t i. skip (token λ u j. token λ n o. skip (token λ v p. skip (turned (six (expr_pieces e) bracket brace feed (stmts_pieces (deeper indent) a) (closed indent))
        (the (expr_made source e h.1.0) λ x k. token λ y l. skip (block indent a (stmts_made a (deeper indent) (suc blocks) h.3) λ z m. skip (end cc))))))))
    stmt_made (Try at a name b) indent blocks h =
        by r.try (skip (token λ t i. skip (turned (ap (λ l. w.open_brace ∷ Space (10 ∷ []) ∷ l) (four (stmts_pieces (deeper indent) a) (line indent (closed_by (w.catch_word ∷ space ∷ in_parentheses (name_piece name ∷ [])))) (stmts_pieces (deeper indent) b) (closed indent)))
        (block indent a (stmts_made a (deeper indent) (suc blocks) h.2) λ x k. skip (token λ u j. skip (token λ v l. token λ n m. token λ y o.
        skip (block indent b (stmts_made b (deeper indent) (suc blocks) h.3) λ z p. skip (end cc))))))))
    stmt_made (Batch at interface root a) indent blocks h =
        by r.batch (skip (token λ t i. skip (token λ u j. token λ n k. skip (token λ v l. token λ x m.
        skip (block indent a (stmts_made a (deeper indent) (suc blocks) h.3) λ y o. skip (end cc))))))

    stmts_made : (x : Stmts) (indent : List ℕ) (blocks : ℕ) → AreReadStmts blocks x → Statements x (stmts_pieces indent x)
    stmts_made NoStmts indent blocks h = by r.no_statements (end refl)
    stmts_made (MoreStmts x xs) indent blocks h =
        by r.more_statements (the (stmt_made x indent blocks h.0) λ y k. last (stmts_made xs indent blocks h.1) λ ys l. ap (λ z. MoreStmts z (unplaced_stmts ys)) k ∙ ap (MoreStmts (unplaced_stmt x)) l)

  return_made : (indent : List ℕ) (x : Option Expr) → IsReadReturn x → MadePart source s.Returns (return_pieces indent x) (λ y. option_map unplaced_expr y ≡ option_map unplaced_expr x)
  return_made indent None h = by r.no_return (end refl)
  return_made indent (Some e) h =
      by r.«return» (skip (token λ t i. skip (turned (append_assoc (expr_pieces e) semicolon feed)
      (the (expr_made source e h.0) λ x k. token λ u j. skip (end (ap (λ z. Some z) k))))))

  -- a body from its brace on
  pub body_made : (indent before : List ℕ) (b : Body) → IsReadBody b → MadePart source s.ABody (w.open_brace ∷ Space before ∷ (body_pieces (deeper indent) b ++ closed indent)) (λ x. unplaced_body x ≡ unplaced_body b)
  body_made indent before b h =
      by r.body (token λ t i. skip (turned (append_assoc (stmts_pieces (deeper indent) b.statements) (return_pieces (deeper indent) b.result) (closed indent))
      (the (stmts_made b.statements (deeper indent) 1 h.0) λ x k. the (return_made (deeper indent) b.result h.1) λ y l. skip (token λ u j. skip (end cc)))))
