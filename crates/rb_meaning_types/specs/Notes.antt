-- What the judgement gives to each expression of code, in order of evaluation, and the type of the
-- expression at a position.
use Rattle.std.specs.Prelude.{ℕ, List, [], ◌∷◌, ◌++◌, cond, nat_eq, Option, Some, None, Ok, Err}
use Rattle.rb_trees.specs.mirror.Code.{Expr, Exprs, Lit, Name, This, Unary, Binary, Field, Call, Index, New, Items, Taken, NoExprs, MoreExprs, expr_at, Stmt, Stmts, Val, Var, Assign, Run, Print, Throw, If, While, For, Try, Batch, NoStmts, MoreStmts}
use Rattle.rb_trees.specs.mirror.Declarations.{Body, Method, Class, Program}
use Rattle.rb_meaning_types.specs.Kinds.{Kind}
use Rattle.rb_meaning_types.specs.Violations.{Checked}
use Rattle.rb_trees.specs.Outcome.{◌>>=◌}
use Rattle.rb_meaning_types.specs.Scopes.{Scope, parameters}
use Rattle.rb_meaning_types.specs.Declared.{Declarations, Context, of_program, method_context, main_context}
use Rattle.rb_meaning_types.specs.Expressions.{type_of}
use Rattle.rb_meaning_types.specs.Statements.{placed, loop_scope, catch_scope, batch_scope, check_stmt, check_stmts}

-- an expression's position, and what the judgement gives to it
pub record Note : Type 0 where
  pub at : ℕ
  pub gives : Checked Kind

-- the notes so far, and that of an expression
abbrev pub note : Context → Scope → List Note → Expr → List Note
note x scope notes e = notes ++ record { at = expr_at e; gives = type_of x scope e } ∷ []

-- the notes so far, those of an expression's parts, and its own
abbrev mutual
  pub noted : Context → Scope → List Note → Expr → List Note
  noted x scope notes (Lit at value) = note x scope notes (Lit at value)
  noted x scope notes (Name at name) = note x scope notes (Name at name)
  noted x scope notes (This at) = note x scope notes (This at)
  noted x scope notes (Unary at op a) = note x scope (noted x scope notes a) (Unary at op a)
  noted x scope notes (Binary at op a b) = note x scope (noted x scope (noted x scope notes a) b) (Binary at op a b)
  noted x scope notes (Field at a name) = note x scope (noted x scope notes a) (Field at a name)
  noted x scope notes (Call at a method args) = note x scope (all_noted x scope (noted x scope notes a) args) (Call at a method args)
  noted x scope notes (Index at a b) = note x scope (noted x scope (noted x scope notes a) b) (Index at a b)
  noted x scope notes (New at class args) = note x scope (all_noted x scope notes args) (New at class args)
  noted x scope notes (Items at item items) = note x scope (all_noted x scope notes items) (Items at item items)
  noted x scope notes (Taken at step) = note x scope notes (Taken at step)

  pub all_noted : Context → Scope → List Note → Exprs → List Note
  all_noted x scope notes NoExprs = notes
  all_noted x scope notes (MoreExprs e es) = all_noted x scope (noted x scope notes e) es

-- the notes so far, and those of an expression's parts
abbrev pub parts_noted : Context → Scope → List Note → Expr → List Note
parts_noted x scope notes (Lit at value) = notes
parts_noted x scope notes (Name at name) = notes
parts_noted x scope notes (This at) = notes
parts_noted x scope notes (Unary at op a) = noted x scope notes a
parts_noted x scope notes (Binary at op a b) = noted x scope (noted x scope notes a) b
parts_noted x scope notes (Field at a name) = noted x scope notes a
parts_noted x scope notes (Call at a method args) = all_noted x scope (noted x scope notes a) args
parts_noted x scope notes (Index at a b) = noted x scope (noted x scope notes a) b
parts_noted x scope notes (New at class args) = all_noted x scope notes args
parts_noted x scope notes (Items at item items) = all_noted x scope notes items
parts_noted x scope notes (Taken at step) = notes

-- the scope that a check gives, or the one of before where it gives a violation
abbrev pub scope_or : Scope → Checked Scope → Scope
scope_or before (Ok after) = after
scope_or before (Err fault) = before

-- the notes so far, and those of a statement's expressions, in the scopes in which they stand
abbrev mutual
  pub stmt_noted : Context → Scope → List Note → Stmt → List Note
  stmt_noted x scope notes (Val at name e) = noted x scope notes e
  stmt_noted x scope notes (Var at name e) = noted x scope notes e
  stmt_noted x scope notes (Assign at a b) = noted x scope (noted x scope notes a) b
  stmt_noted x scope notes (Run at e) = noted x scope notes e
  stmt_noted x scope notes (Print at e) = noted x scope notes e
  stmt_noted x scope notes (Throw at e) = noted x scope notes e
  stmt_noted x scope notes (If at c a b) = stmts_noted x scope (stmts_noted x scope (noted x scope notes c) a) b
  stmt_noted x scope notes (While at c a) = stmts_noted x scope (noted x scope notes c) a
  stmt_noted x scope notes (For at name e a) =
      stmts_noted x (scope_or scope (placed x scope e >>= λ p. loop_scope scope at name p)) (noted x scope notes e) a
  stmt_noted x scope notes (Try at a name b) = stmts_noted x (scope_or scope (catch_scope scope at name)) (stmts_noted x scope notes a) b
  stmt_noted x scope notes (Batch at interface root a) =
      stmts_noted x (scope_or scope (batch_scope x scope at interface root)) notes a

  pub stmts_noted : Context → Scope → List Note → Stmts → List Note
  stmts_noted x scope notes NoStmts = notes
  stmts_noted x scope notes (MoreStmts s ss) = stmts_noted x (scope_or scope (check_stmt x scope s)) (stmt_noted x scope notes s) ss

abbrev pub return_noted : Context → Scope → List Note → Option Expr → List Note
return_noted x scope notes (Some e) = noted x scope notes e
return_noted x scope notes None = notes

abbrev pub body_noted : Context → Scope → List Note → Body → List Note
body_noted x scope notes body =
    return_noted x (scope_or scope (check_stmts x scope body.statements)) (stmts_noted x scope notes body.statements) body.result

abbrev pub method_noted : Declarations → List ℕ → List Note → Method → List Note
method_noted d class notes m =
    body_noted (method_context d class m.remote) (parameters m.signature.params) notes m.body

abbrev pub methods_noted : Declarations → List ℕ → List Note → List Method → List Note
methods_noted d class notes [] = notes
methods_noted d class notes (m ∷ ms) =
    methods_noted d class (method_noted d class notes m) ms

abbrev pub classes_noted : Declarations → List Note → List Class → List Note
classes_noted d notes [] = notes
classes_noted d notes (c ∷ cs) =
    classes_noted d (methods_noted d c.name notes c.methods) cs

abbrev pub main_noted : List Note → Program → List Note
main_noted notes p = body_noted (main_context (of_program p)) [] notes p.body

-- the notes of a program: the bodies of its methods in source order, then `main`
abbrev pub program_notes : Program → List Note
program_notes p = main_noted (classes_noted (of_program p) [] p.classes) p

-- the first note at a position, or else what was found elsewhere
abbrev pub note_at : List Note → ℕ → Option (Checked Kind) → Option (Checked Kind)
note_at [] at other = other
note_at (n ∷ ns) at other = cond (nat_eq n.at at) (Some n.gives) (note_at ns at other)

-- what the judgement gives to the expression at a position, if one stands there
abbrev pub type_at : Program → ℕ → Option (Checked Kind)
type_at p at = note_at (program_notes p) at None
