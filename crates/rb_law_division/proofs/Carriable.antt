-- Code that scripts can carry: its literals, the names of its methods and its positions are such, and it isn't too deep.
use Rattle.std.proofs.Common.{ℕ, ◌≤◌, List, [], ◌∷◌, ◌++◌, arith}
use Rattle.std.specs.List.{AllByRecursion, flat_map}
use Rattle.rb_trees.specs.Spelling.{IsName}
use Rattle.rb_trees.specs.mirror.Code.{Expr, Exprs, Lit, Name, This, Unary, Binary, Field, Call, Index, New, Items, Taken, NoExprs, MoreExprs, expr_at, Stmt, Stmts, Val, Var, Assign, Run, Print, Throw, If, While, For, Try, Batch, NoStmts, MoreStmts}
use Rattle.rb_meaning_types.specs.Lawful.{IsLiteral, IsLawfulExpr, AreLawfulExprs, expr_depth, exprs_depth, IsLawfulStmt, AreLawfulStmts, IsShallowStmt, AreShallowStmts, expr_positions, exprs_positions, stmt_positions, stmts_positions}
use Rattle.rb_meaning_flow.specs.Facts.{Facts}
use Rattle.rb_meaning_flow.specs.Scopes.{Scope}
use Rattle.rb_meaning_flow.specs.Marks.{is_portable_call}
use Rattle.rb_meaning.specs.RemoteExprs.{whole_or, remote_in, all_remote_in, remote_of}
use Rattle.rb_law_types.specs.Scripts.{IsPlace}
use Rattle.rb_law_unsplit.proofs.Standing.{block_lawful}
use Rattle.rb_law_division.proofs.Lists.{all_both, all_left, all_right, cond_is}

abbrev mutual
  pub Carriable : Expr → Type 0
  Carriable (Lit at value) = IsPlace at × IsLiteral value
  Carriable (Name at name) = IsPlace at
  Carriable (This at) = IsPlace at
  Carriable (Unary at op a) = IsPlace at × Carriable a
  Carriable (Binary at op a b) = IsPlace at × Carriable a × Carriable b
  Carriable (Field at a name) = IsPlace at × Carriable a
  Carriable (Call at a method args) = IsPlace at × IsName method × Carriable a × AllCarriable args
  Carriable (Index at a b) = IsPlace at × Carriable a × Carriable b
  Carriable (New at class args) = IsPlace at × AllCarriable args
  Carriable (Items at item items) = IsPlace at × AllCarriable items
  Carriable (Taken at step) = IsPlace at

  pub AllCarriable : Exprs → Type 0
  AllCarriable NoExprs = Unit {0}
  AllCarriable (MoreExprs e es) = Carriable e × AllCarriable es

-- an expression with at most 201 within each other
abbrev pub Whole : Expr → Type 0
Whole e = Carriable e × (expr_depth e ≤ 201)

abbrev pub Wholes : Exprs → Type 0
Wholes es = AllCarriable es × (exprs_depth es ≤ 201)

abbrev mutual
  pub StmtCarriable : Stmt → Type 0
  StmtCarriable (Val at name e) = IsPlace at × Whole e
  StmtCarriable (Var at name e) = IsPlace at × Whole e
  StmtCarriable (Assign at a b) = IsPlace at × Whole a × Whole b
  StmtCarriable (Run at e) = IsPlace at × Whole e
  StmtCarriable (Print at e) = IsPlace at × Whole e
  StmtCarriable (Throw at e) = IsPlace at × Whole e
  StmtCarriable (If at c a b) = IsPlace at × Whole c × StmtsCarriable a × StmtsCarriable b
  StmtCarriable (While at c a) = IsPlace at × Whole c × StmtsCarriable a
  StmtCarriable (For at name e a) = IsPlace at × Whole e × StmtsCarriable a
  StmtCarriable (Try at a name b) = IsPlace at × StmtsCarriable a × StmtsCarriable b
  StmtCarriable (Batch at interface root a) = IsPlace at × StmtsCarriable a

  pub StmtsCarriable : Stmts → Type 0
  StmtsCarriable NoStmts = Unit {0}
  StmtsCarriable (MoreStmts s ss) = StmtCarriable s × StmtsCarriable ss

-- ---- lawful code is

abbrev pub Places : List ℕ → Type 0
Places ats = AllByRecursion IsPlace ats

left : (xs ys : List ℕ) → Places (xs ++ ys) → Places xs
left xs ys h = all_left IsPlace xs ys h

right : (xs ys : List ℕ) → Places (xs ++ ys) → Places ys
right xs ys h = all_right IsPlace xs ys h

mutual
  pub lawful_expr : (e : Expr) → IsLawfulExpr e → Places (expr_positions e) → Carriable e
  lawful_expr (Lit at value) l p = (p.0, l)
  lawful_expr (Name at name) l p = p.0
  lawful_expr (This at) l p = p.0
  lawful_expr (Unary at op a) l p = (p.0, lawful_expr a l p.1)
  lawful_expr (Binary at op a b) l p = (p.0, lawful_expr a l.0 (left (expr_positions a) (expr_positions b) p.1), lawful_expr b l.1 (right (expr_positions a) (expr_positions b) p.1))
  lawful_expr (Field at a name) l p = (p.0, lawful_expr a l.0 p.1)
  lawful_expr (Call at a method args) l p = (p.0, l.1, lawful_expr a l.0 (left (expr_positions a) (exprs_positions args) p.1), lawful_exprs args l.2 (right (expr_positions a) (exprs_positions args) p.1))
  lawful_expr (Index at a b) l p = (p.0, lawful_expr a l.0 (left (expr_positions a) (expr_positions b) p.1), lawful_expr b l.1 (right (expr_positions a) (expr_positions b) p.1))
  lawful_expr (New at class args) l p = (p.0, lawful_exprs args l.1 p.1)
  lawful_expr (Items at item items) l p = (p.0, lawful_exprs items l.1 p.1)
  lawful_expr (Taken at step) l p = p.0

  pub lawful_exprs : (es : Exprs) → AreLawfulExprs es → Places (exprs_positions es) → AllCarriable es
  lawful_exprs NoExprs l p = tt
  lawful_exprs (MoreExprs e es) l p = (lawful_expr e l.0 (left (expr_positions e) (exprs_positions es) p), lawful_exprs es l.1 (right (expr_positions e) (exprs_positions es) p))

mutual
  pub lawful_stmt : (s : Stmt) → IsLawfulStmt s → IsShallowStmt s → Places (stmt_positions s) → StmtCarriable s
  lawful_stmt (Val at name e) l d p = (p.0, (lawful_expr e l.1 p.1, d))
  lawful_stmt (Var at name e) l d p = (p.0, (lawful_expr e l.1 p.1, d))
  lawful_stmt (Assign at a b) l d p =
      (p.0, (lawful_expr a l.0 (left (expr_positions a) (expr_positions b) p.1), d.0), (lawful_expr b l.1 (right (expr_positions a) (expr_positions b) p.1), d.1))
  lawful_stmt (Run at e) l d p = (p.0, (lawful_expr e l p.1, d))
  lawful_stmt (Print at e) l d p = (p.0, (lawful_expr e l p.1, d))
  lawful_stmt (Throw at e) l d p = (p.0, (lawful_expr e l p.1, d))
  lawful_stmt (If at c a b) l d p =
      let front = left (expr_positions c ++ stmts_positions a) (stmts_positions b) p.1 in (
        p.0,
        (lawful_expr c l.0 (left (expr_positions c) (stmts_positions a) front), d.0),
        lawful_stmts a (block_lawful a l.1) d.1 (right (expr_positions c) (stmts_positions a) front),
        lawful_stmts b (block_lawful b l.2) d.2 (right (expr_positions c ++ stmts_positions a) (stmts_positions b) p.1),
      )
  lawful_stmt (While at c a) l d p =
      (p.0, (lawful_expr c l.0 (left (expr_positions c) (stmts_positions a) p.1), d.0), lawful_stmts a (block_lawful a l.1) d.1 (right (expr_positions c) (stmts_positions a) p.1))
  lawful_stmt (For at name e a) l d p =
      (p.0, (lawful_expr e l.1 (left (expr_positions e) (stmts_positions a) p.1), d.0), lawful_stmts a (block_lawful a l.2) d.1 (right (expr_positions e) (stmts_positions a) p.1))
  lawful_stmt (Try at a name b) l d p =
      (p.0, lawful_stmts a (block_lawful a l.0) d.0 (left (stmts_positions a) (stmts_positions b) p.1), lawful_stmts b (block_lawful b l.2) d.1 (right (stmts_positions a) (stmts_positions b) p.1))
  lawful_stmt (Batch at interface root a) l d p = (p.0, lawful_stmts a (block_lawful a l.2) d p.1)

  pub lawful_stmts : (ss : Stmts) → AreLawfulStmts ss → AreShallowStmts ss → Places (stmts_positions ss) → StmtsCarriable ss
  lawful_stmts NoStmts l d p = tt
  lawful_stmts (MoreStmts s ss) l d p = (lawful_stmt s l.0 d.0 (left (stmt_positions s) (stmts_positions ss) p), lawful_stmts ss l.1 d.1 (right (stmt_positions s) (stmts_positions ss) p))

-- ---- what is taken from it

pub place_of : (e : Expr) → Carriable e → IsPlace (expr_at e)
place_of (Lit at value) h = h.0
place_of (Name at name) h = h
place_of (This at) h = h
place_of (Unary at op a) h = h.0
place_of (Binary at op a b) h = h.0
place_of (Field at a name) h = h.0
place_of (Call at a method args) h = h.0
place_of (Index at a b) h = h.0
place_of (New at class args) h = h.0
place_of (Items at item items) h = h.0
place_of (Taken at step) h = h

abbrev pub EachWhole : List Expr → Type 0
EachWhole es = AllByRecursion Whole es

module _ (x : Facts) (scope : Scope) where
  whole_one : (e : Expr) (parts : List Expr) → Whole e → EachWhole parts → EachWhole (whole_or x scope e parts)
  whole_one e parts h g = cond_is EachWhole (is_portable_call x scope e) (e ∷ []) parts (h, tt) g

  mutual
    pub remote_whole : (e : Expr) → Whole e → EachWhole (remote_in x scope e)
    remote_whole (Lit at value) h = tt
    remote_whole (Name at name) h = tt
    remote_whole (This at) h = tt
    remote_whole (Unary at op a) h = whole_one (Unary at op a) (remote_in x scope a) h (remote_whole a (h.0.1, omega (arith, h.1)))
    remote_whole (Binary at op a b) h = whole_one (Binary at op a b) (remote_in x scope a ++ remote_in x scope b) h
        (all_both Whole (remote_in x scope a) (remote_in x scope b) (remote_whole a (h.0.1, omega (arith, h.1))) (remote_whole b (h.0.2, omega (arith, h.1))))
    remote_whole (Field at a name) h = remote_whole a (h.0.1, omega (arith, h.1))
    remote_whole (Call at a method args) h = whole_one (Call at a method args) (remote_in x scope a ++ all_remote_in x scope args) h
        (all_both Whole (remote_in x scope a) (all_remote_in x scope args) (remote_whole a (h.0.2, omega (arith, h.1))) (all_remote_whole args (h.0.3, omega (arith, h.1))))
    remote_whole (Index at a b) h =
        all_both Whole (remote_in x scope a) (remote_in x scope b) (remote_whole a (h.0.1, omega (arith, h.1))) (remote_whole b (h.0.2, omega (arith, h.1)))
    remote_whole (New at class args) h = all_remote_whole args (h.0.1, omega (arith, h.1))
    remote_whole (Items at item items) h = all_remote_whole items (h.0.1, omega (arith, h.1))
    remote_whole (Taken at step) h = tt

    pub all_remote_whole : (es : Exprs) → Wholes es → EachWhole (all_remote_in x scope es)
    all_remote_whole NoExprs h = tt
    all_remote_whole (MoreExprs e es) h =
        all_both Whole (remote_in x scope e) (all_remote_in x scope es) (remote_whole e (h.0.0, omega (arith, h.1))) (all_remote_whole es (h.0.1, omega (arith, h.1)))

  one_whole : (e : Expr) → Whole e → EachWhole (flat_map (remote_in x scope) (e ∷ []))
  one_whole e h = all_both Whole (remote_in x scope e) [] (remote_whole e h) tt

  -- the remote expressions of a statement
  pub remotes_whole : (s : Stmt) → StmtCarriable s → EachWhole (remote_of x scope s)
  remotes_whole (Val at name e) h = one_whole e h.1
  remotes_whole (Var at name e) h = one_whole e h.1
  remotes_whole (Assign at a b) h = all_both Whole (remote_in x scope a) (flat_map (remote_in x scope) (b ∷ [])) (remote_whole a h.1) (one_whole b h.2)
  remotes_whole (Run at e) h = one_whole e h.1
  remotes_whole (Print at e) h = one_whole e h.1
  remotes_whole (Throw at e) h = one_whole e h.1
  remotes_whole (If at c a b) h = one_whole c h.1
  remotes_whole (While at c a) h = one_whole c h.1
  remotes_whole (For at name e a) h = one_whole e h.1
  remotes_whole (Try at a name b) h = tt
  remotes_whole (Batch at interface root a) h = tt
