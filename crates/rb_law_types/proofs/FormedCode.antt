-- Lawful code is formed.
use Rattle.std.proofs.Common.{◌≡◌, sym, subst, refl, List, [], ◌∷◌, Bool as Truth, true, false, All, Option, Some, None}
use Rattle.std.specs.Str.{bytes_eq}
use Rattle.std.proofs.lemmas.Slice.Eq.{bytes_eq-Decides}
use Rattle.std.proofs.lemmas.List.Elements.{All-nil, All-cons, All-head, All-tail}
use Rattle.rb_trees.specs.Spelling.{IsName, number_in, keywords}
use Rattle.rb_trees.specs.declared.values.Value.{Value}
use Rattle.rb_trees.specs.declared.values.Value.TheOpen.{Value-F}
use Rattle.rb_trees.specs.mirror.Code.{Expr, Exprs, Lit, Name, This, Unary, Binary, Field, Call, Index, New, Items, Taken, NoExprs, MoreExprs, Stmt, Stmts, Val, Var, Assign, Run, Print, Throw, If, While, For, Try, Batch, NoStmts, MoreStmts}
use Rattle.rb_trees.specs.mirror.Declarations.{Method}
use Rattle.rb_meaning_types.specs.Fits.{this_name}
use Rattle.rb_meaning_types.specs.Lawful.{IsLiteralForm, IsLawfulExpr, AreLawfulExprs, IsLawfulStmt, AreLawfulStmts, IsLawfulBlock, IsLawfulReturn, IsLawfulMethod, IsLawfulClass}
use Rattle.rb_law_types.specs.Kept.{IsPrimitiveForm}
use Rattle.rb_law_types.specs.Formed.{IsFormedExpr, AreFormedExprs, IsFormedStmt, AreFormedStmts, IsFormedReturn, IsFormedMethod, IsFormedClass, LawfulClassesAreFormed}

literal_formed : (w : Value-F Value) → IsLiteralForm w → IsPrimitiveForm w
literal_formed (Value-F.Int n) h = h
literal_formed (Value-F.Bool b) h = tt
literal_formed (Value-F.Text t) h = h
literal_formed Value-F.Unit h = absurd h
literal_formed _ h = absurd h

-- `this` is a keyword, and no name
this_is_no_name : number_in keywords this_name ≡ None → ⊥
unfolding number_in keywords
this_is_no_name e = absurd (cc (e))

name_formed : (name : List _) → IsName name → bytes_eq this_name name ≡ false
name_formed name h = by (bytes_eq this_name name) refl
  where
    by : (t : Truth) → bytes_eq this_name name ≡ t → t ≡ false
    by false e = refl
    by true e = absurd (this_is_no_name (subst (λ n. number_in keywords n ≡ None) (sym ((bytes_eq-Decides this_name name).0 e)) h.1))

mutual
  pub expr_formed : (e : Expr) → IsLawfulExpr e → IsFormedExpr e
  expr_formed (Lit at value) h = literal_formed _ h
  expr_formed (Name at name) h = name_formed name h
  expr_formed (This at) h = tt
  expr_formed (Unary at op a) h = expr_formed a h
  expr_formed (Binary at op a b) h = (expr_formed a h.0, expr_formed b h.1)
  expr_formed (Field at a name) h = expr_formed a h.0
  expr_formed (Call at a method args) h = (expr_formed a h.0, exprs_formed args h.2)
  expr_formed (Index at a b) h = (expr_formed a h.0, expr_formed b h.1)
  expr_formed (New at class args) h = exprs_formed args h.1
  expr_formed (Items at item items) h = exprs_formed items h.1
  expr_formed (Taken at step) h = tt

  exprs_formed : (es : Exprs) → AreLawfulExprs es → AreFormedExprs es
  exprs_formed NoExprs h = tt
  exprs_formed (MoreExprs e es) h = (expr_formed e h.0, exprs_formed es h.1)

block_lawful : (ss : Stmts) → IsLawfulBlock ss → AreLawfulStmts ss
block_lawful NoStmts h = tt
block_lawful (MoreStmts s ss) h = (h.0, h.1)

mutual
  stmt_formed : (s : Stmt) → IsLawfulStmt s → IsFormedStmt s
  stmt_formed (Val at name e) h = expr_formed e h.1
  stmt_formed (Var at name e) h = expr_formed e h.1
  stmt_formed (Assign at a b) h = (expr_formed a h.0, expr_formed b h.1)
  stmt_formed (Run at e) h = expr_formed e h
  stmt_formed (Print at e) h = expr_formed e h
  stmt_formed (Throw at e) h = expr_formed e h
  stmt_formed (If at c a b) h = (expr_formed c h.0, stmts_formed a (block_lawful a h.1), stmts_formed b (block_lawful b h.2))
  stmt_formed (While at c a) h = (expr_formed c h.0, stmts_formed a (block_lawful a h.1))
  stmt_formed (For at name e a) h = (expr_formed e h.1, stmts_formed a (block_lawful a h.2))
  stmt_formed (Try at a name b) h = (stmts_formed a (block_lawful a h.0), stmts_formed b (block_lawful b h.2))
  stmt_formed (Batch at interface root a) h = tt

  pub stmts_formed : (ss : Stmts) → AreLawfulStmts ss → AreFormedStmts ss
  stmts_formed NoStmts h = tt
  stmts_formed (MoreStmts s ss) h = (stmt_formed s h.0, stmts_formed ss h.1)

return_formed : (result : Option Expr) → IsLawfulReturn result → IsFormedReturn result
return_formed None h = tt
return_formed (Some e) h = expr_formed e h

methods_formed : (ms : List Method) → All IsLawfulMethod ms → All IsFormedMethod ms
methods_formed [] h = All-nil IsFormedMethod
methods_formed (m ∷ ms) h =
    let lawful = All-head IsLawfulMethod m ms h in
    All-cons IsFormedMethod m ms (stmts_formed m.body.statements (block_lawful m.body.statements lawful.1.0), return_formed m.body.result lawful.1.1)
    (methods_formed ms (All-tail IsLawfulMethod m ms h))

pub classes_formed : LawfulClassesAreFormed
classes_formed [] h = All-nil IsFormedClass
classes_formed (c ∷ cs) h =
    All-cons IsFormedClass c cs (methods_formed c.methods (All-head IsLawfulClass c cs h).3)
    (classes_formed cs (All-tail IsLawfulClass c cs h))
