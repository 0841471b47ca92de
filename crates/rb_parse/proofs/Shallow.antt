-- What is readable is shallow: an expression has a mark for each that it stands in but the outermost, and the blocks
-- that are open are counted.
use Rattle.std.proofs.Common.{ℕ, suc, ◌+◌, ◌≤◌, nat_lt, Bool, true, false, cond, List, Option, Some, None, arith}
use Rattle.std.specs.List.{All}
use Rattle.std.proofs.lemmas.List.Elements.{All-weaker}
use Rattle.rb_trees.specs.mirror.Code.{Expr, Exprs, Lit, Name, This, Unary, Binary, Field, Call, Index, New, Items, Taken, NoExprs, MoreExprs, Stmt, Stmts, Val, Var, Assign, Run, Print, Throw, If, While, For, Try, Batch, NoStmts, MoreStmts}
use Rattle.rb_trees.specs.mirror.Declarations.{Body, Method, Class}
use Rattle.rb_trees.specs.printing.Exprs.{level_of, left_level, right_level, operand_level}
use Rattle.rb_meaning_types.specs.Lawful.{expr_depth, exprs_depth, stmt_depth, stmts_depth, IsShallowExpr, IsShallowStmt, AreShallowStmts, IsShallowReturn, IsShallowBody, IsShallowClass}
use Rattle.rb_parse.proofs.readable.Trees.{placed_marks, marks_of, marks_of_all, IsReadOutermost, IsReadStmt, AreReadStmts, IsReadReturn, IsReadBody, IsReadMethod, IsReadClass}

-- parentheses are no fewer marks
placed : (level : ℕ) (e : Expr) (d own : ℕ) → d ≤ suc own → d ≤ suc (placed_marks level e own)
placed level e d own h = go (nat_lt (level_of e) level)
  where
    go : (b : Bool) → d ≤ suc (cond b (suc own) own)
    go true = omega (arith, h)
    go false = h

mutual
  marked : (e : Expr) → expr_depth e ≤ suc (marks_of e)
  marked (Lit at value) = omega arith
  marked (Name at name) = omega arith
  marked (This at) = omega arith
  marked (Unary at op a) = omega (arith, placed (operand_level op) a (expr_depth a) (marks_of a) (marked a))
  marked (Binary at op a b) = omega (arith, placed (left_level op) a (expr_depth a) (marks_of a) (marked a), placed (right_level op) b (expr_depth b) (marks_of b) (marked b))
  marked (Field at a name) = omega (arith, placed 7 a (expr_depth a) (marks_of a) (marked a))
  marked (Call at a method args) = omega (arith, placed 7 a (expr_depth a) (marks_of a) (marked a), all_marked args)
  marked (Index at a b) = omega (arith, placed 7 a (expr_depth a) (marks_of a) (marked a), marked b)
  marked (New at class args) = omega (arith, all_marked args)
  marked (Items at item items) = omega (arith, all_marked items)
  marked (Taken at step) = omega arith

  all_marked : (es : Exprs) → exprs_depth es ≤ suc (marks_of_all es)
  all_marked NoExprs = omega arith
  all_marked (MoreExprs e es) = omega (arith, marked e, all_marked es)

outermost : (e : Expr) → IsReadOutermost e → IsShallowExpr e
outermost e h = omega (arith, marked e, h.1)

mutual
  stmt_shallow : (blocks : ℕ) (s : Stmt) → IsReadStmt blocks s → IsShallowStmt s
  stmt_shallow blocks (Val at name e) h = outermost e h.1
  stmt_shallow blocks (Var at name e) h = outermost e h.1
  stmt_shallow blocks (Assign at a b) h = (outermost a h.0, outermost b h.1)
  stmt_shallow blocks (Run at e) h = outermost e h
  stmt_shallow blocks (Print at e) h = outermost e h
  stmt_shallow blocks (Throw at e) h = outermost e h
  stmt_shallow blocks (If at e a b) h = (outermost e h.0, stmts_shallow (suc blocks) a h.2, stmts_shallow (suc blocks) b h.3)
  stmt_shallow blocks (While at e a) h = (outermost e h.0, stmts_shallow (suc blocks) a h.2)
  stmt_shallow blocks (For at name e a) h = (outermost e h.1, stmts_shallow (suc blocks) a h.3)
  stmt_shallow blocks (Try at a name b) h = (stmts_shallow (suc blocks) a h.2, stmts_shallow (suc blocks) b h.3)
  stmt_shallow blocks (Batch at interface root a) h = stmts_shallow (suc blocks) a h.3

  stmts_shallow : (blocks : ℕ) (ss : Stmts) → AreReadStmts blocks ss → AreShallowStmts ss
  stmts_shallow blocks NoStmts h = tt
  stmts_shallow blocks (MoreStmts s ss) h = (stmt_shallow blocks s h.0, stmts_shallow blocks ss h.1)

mutual
  stmt_room : (blocks : ℕ) (s : Stmt) → blocks ≤ 64 → IsReadStmt blocks s → blocks + stmt_depth s ≤ 64
  stmt_room blocks (Val at name e) n h = omega (arith, n)
  stmt_room blocks (Var at name e) n h = omega (arith, n)
  stmt_room blocks (Assign at a b) n h = omega (arith, n)
  stmt_room blocks (Run at e) n h = omega (arith, n)
  stmt_room blocks (Print at e) n h = omega (arith, n)
  stmt_room blocks (Throw at e) n h = omega (arith, n)
  stmt_room blocks (If at e a b) n h = omega (arith, stmts_room (suc blocks) a h.1 h.2, stmts_room (suc blocks) b h.1 h.3)
  stmt_room blocks (While at e a) n h = omega (arith, stmts_room (suc blocks) a h.1 h.2)
  stmt_room blocks (For at name e a) n h = omega (arith, stmts_room (suc blocks) a h.2 h.3)
  stmt_room blocks (Try at a name b) n h = omega (arith, stmts_room (suc blocks) a h.1 h.2, stmts_room (suc blocks) b h.1 h.3)
  stmt_room blocks (Batch at interface root a) n h = omega (arith, stmts_room (suc blocks) a h.2 h.3)

  stmts_room : (blocks : ℕ) (ss : Stmts) → blocks ≤ 64 → AreReadStmts blocks ss → blocks + stmts_depth ss ≤ 64
  stmts_room blocks NoStmts n h = omega (arith, n)
  stmts_room blocks (MoreStmts s ss) n h = omega (arith, stmt_room blocks s n h.0, stmts_room blocks ss n h.1)

return_shallow : (result : Option Expr) → IsReadReturn result → IsShallowReturn result
return_shallow None h = tt
return_shallow (Some e) h = outermost e h

pub body_shallow : (b : Body) → IsReadBody b → IsShallowBody b
body_shallow b h = (stmts_shallow 1 b.statements h.0, return_shallow b.result h.1, omega (arith, stmts_room 1 b.statements (omega arith) h.0))

class_shallow : (c : Class) → IsReadClass c → IsShallowClass c
class_shallow c h = All-weaker (λ (m : Method). IsReadMethod m) (λ m. IsShallowBody m.body) (λ m k. body_shallow m.body k.1) c.methods h.2

pub classes_shallow : (cs : List Class) → All IsReadClass cs → All IsShallowClass cs
classes_shallow cs h = All-weaker IsReadClass IsShallowClass class_shallow cs h
