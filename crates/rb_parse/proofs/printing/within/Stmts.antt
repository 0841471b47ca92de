-- The statements of a program break no limit.
use Rattle.std.proofs.Common.{◌≡◌, ℕ, suc, ◌≤◌, false, true, List, [], ◌∷◌, ◌++◌, refl, arith, Option, None, Some}
use Rattle.rb_trees.specs.mirror.Code.{Expr, Stmt, Stmts, Val, Var, Assign, Run, Print, Throw, If, While, For, Try, Batch, NoStmts, MoreStmts}
use Rattle.rb_trees.specs.mirror.Declarations.{Body}
use Rattle.rb_trees.specs.declared.tokens.TokenKind.{TokenKind}
use Rattle.rb_trees.specs.printing.Pieces.{Piece, Token}
use Rattle.rb_trees.specs.printing.Exprs.{expr_pieces}
use Rattle.rb_trees.specs.printing.Stmts.{deeper, headed, bound, otherwise, stmt_pieces, stmts_pieces, return_pieces, body_pieces}
use Rattle.rb_trees.specs.printing.Words as w
use Rattle.rb_trees.specs.Kinds as k
use Rattle.rb_trees.specs.Kinds.{is_one_of}
use Rattle.rb_parse.proofs.readable.Trees.{IsReadOutermost, IsReadStmt, AreReadStmts, IsReadReturn, IsReadBody, marks_of}
use Rattle.rb_parse.proofs.printing.within.States.{Plain, words, counting}
use Rattle.rb_parse.proofs.printing.within.Types.{Behind}
use Rattle.rb_parse.proofs.printing.within.Exprs.{expr_fits}
use Rattle.rb_parse.proofs.printing.within.Lines.{Goes, stay, then, gap, step, last_step, name_step, from_past, whole, semicolon_step, assign_step, in_step, word_step, head_goes, line_goes, opened_goes, closed_goes, closed_by_goes, block_goes}

outermost : {b : ℕ} (e : Expr) → IsReadOutermost e → Goes (Behind b 0 0) (Behind b 0 (marks_of e)) (expr_pieces e)
outermost e h = whole (expr_fits false e h.0) h.1

-- an expression and its semicolon
statement : {b : ℕ} (e : Expr) → IsReadOutermost e → Goes (Behind b 0 0) (Behind b 0 0) (expr_pieces e ++ w.semicolon ∷ [])
statement e h = then (outermost e h) semicolon_step

bound_goes : {b : ℕ} (kind : TokenKind) (bytes : List ℕ) (name : List ℕ) (e : Expr) → is_one_of kind counting ≡ false → Plain kind → IsReadOutermost e → Goes (Behind b 0 0) (Behind b 0 0) (bound (Token kind bytes) name e)
bound_goes kind bytes name e c p h = step kind bytes c p (gap _ (name_step name (gap _ (assign_step (gap _ (statement e h))))))

headed_goes : {b m : ℕ} {ps : List Piece} (kind : TokenKind) (bytes : List ℕ) → is_one_of kind counting ≡ false → is_one_of kind words ≡ true → suc b ≤ 64 → Goes (Behind b 0 0) (Behind b 0 m) ps → Goes (Behind b 0 0) (Behind (suc b) 0 0) (headed (Token kind bytes) ps)
headed_goes kind bytes c v l x = opened_goes l (word_step kind bytes c v (gap _ (head_goes x)))

otherwise_goes : {b : ℕ} (indent : List ℕ) (ss : Stmts) {lines : List Piece} → suc b ≤ 64 → Goes (Behind (suc b) 0 0) (Behind (suc b) 0 0) lines → Goes (Behind (suc b) 0 0) (Behind b 0 0) (otherwise indent ss lines)
otherwise_goes {b} indent NoStmts l x = closed_goes indent b (omega arith)
otherwise_goes {b} indent (MoreStmts s ss) l x = block_goes indent (closed_by_goes l (last_step k.keyword_else _ refl refl)) x

mutual
  pub stmt_goes : (b : ℕ) (indent : List ℕ) (s : Stmt) → IsReadStmt b s → Goes (Behind b 0 0) (Behind b 0 0) (stmt_pieces indent s)
  stmt_goes b indent (Val at name e) h = line_goes indent (bound_goes k.keyword_val _ name e refl refl h.1)
  stmt_goes b indent (Var at name e) h = line_goes indent (bound_goes k.keyword_var _ name e refl refl h.1)
  stmt_goes b indent (Assign at one other) h = line_goes indent (then (then (outermost one h.0) (gap _ (assign_step (gap _ (outermost other h.1))))) semicolon_step)
  stmt_goes b indent (Run at e) h = line_goes indent (statement e h)
  stmt_goes b indent (Print at e) h = line_goes indent (then (word_step k.keyword_print _ refl refl (head_goes (outermost e h))) (from_past semicolon_step))
  stmt_goes b indent (Throw at e) h = line_goes indent (step k.keyword_throw _ refl refl (gap _ (statement e h)))
  stmt_goes b indent (If at e one other) h =
      then (then (line_goes indent (headed_goes k.keyword_if _ refl refl h.1 (outermost e h.0))) (stmts_go (suc b) (deeper indent) one h.2)) (otherwise_goes indent other h.1 (stmts_go (suc b) (deeper indent) other h.3))
  stmt_goes b indent (While at e ss) h = block_goes indent (headed_goes k.keyword_while _ refl refl h.1 (outermost e h.0)) (stmts_go (suc b) (deeper indent) ss h.2)
  stmt_goes b indent (For at name e ss) h =
      let head = name_step name (gap _ (in_step (gap _ (outermost e h.1)))) in
      block_goes indent (headed_goes k.keyword_for _ refl refl h.2 head) (stmts_go (suc b) (deeper indent) ss h.3)
  stmt_goes b indent (Try at one name other) h =
      let tried = then (line_goes indent (opened_goes h.1 (last_step k.keyword_try _ refl refl))) (stmts_go (suc b) (deeper indent) one h.2) in
      let catch = word_step k.keyword_catch _ refl refl (gap _ (head_goes (name_step name stay))) in
      then (then (then tried (line_goes indent (closed_by_goes h.1 catch))) (stmts_go (suc b) (deeper indent) other h.3)) (closed_goes indent b (omega arith))
  stmt_goes b indent (Batch at interface root ss) h = block_goes indent (headed_goes k.keyword_batch _ refl refl h.2 (name_step interface (gap _ (name_step root stay)))) (stmts_go (suc b) (deeper indent) ss h.3)

  pub stmts_go : (b : ℕ) (indent : List ℕ) (ss : Stmts) → AreReadStmts b ss → Goes (Behind b 0 0) (Behind b 0 0) (stmts_pieces indent ss)
  stmts_go b indent NoStmts h = stay
  stmts_go b indent (MoreStmts s ss) h = then (stmt_goes b indent s h.0) (stmts_go b indent ss h.1)

return_goes : {b : ℕ} (indent : List ℕ) (result : Option Expr) → IsReadReturn result → Goes (Behind b 0 0) (Behind b 0 0) (return_pieces indent result)
return_goes indent None h = stay
return_goes indent (Some e) h = line_goes indent (step k.keyword_return _ refl refl (gap _ (statement e h)))

pub body_goes : (indent : List ℕ) (body : Body) → IsReadBody body → Goes (Behind 1 0 0) (Behind 1 0 0) (body_pieces indent body)
body_goes indent body h = then (stmts_go 1 indent body.statements h.0) (return_goes indent body.result h.1)
