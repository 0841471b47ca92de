-- Code of a batch as it is in admitted programs: it calls no `remote` method of a class, no batch stands in it, and it prints
-- primitive values alone.
use Rattle.std.specs.Prelude.{◌≡◌, List, ℕ, true, false, Some, Ok}
use Rattle.rb_trees.specs.mirror.Code.{Expr, Exprs, Lit, Name, This, Unary, Binary, Field, Call, Index, New, Items, Taken, NoExprs, MoreExprs, Stmt, Stmts, Val, Var, Assign, Run, Print, Throw, If, While, For, Try, Batch, NoStmts, MoreStmts}
use Rattle.rb_trees.specs.mirror.Declarations.{Class, Method}
use Rattle.rb_meaning_types.specs.Kinds.{Kind, Named, is_primitive}
use Rattle.rb_meaning_types.specs.Names.{class_named, method_named}
use Rattle.rb_meaning_types.specs.Declared.{Declarations, Context, is_interface}
use Rattle.rb_meaning_types.specs.Scopes.{Scope}
use Rattle.rb_meaning_types.specs.Expressions.{type_of}
use Rattle.rb_meaning_types.specs.Statements.{placed, loop_scope, catch_scope, check_stmt}
use Rattle.rb_meaning_types.specs.Notes.{scope_or}
use Rattle.rb_trees.specs.Outcome.{◌>>=◌}

-- A class of the declarations has this method.
pub record HasMethod (d : Declarations) (class name : List ℕ) (m : Method) : Type 0 where
  pub of_class : Class
  pub found : class_named d.classes class ≡ Some of_class
  pub method : method_named of_class.methods name ≡ Some m

-- a method of the name that isn't remote, where the type is a class's
abbrev pub CallsNoRemote : Declarations → List ℕ → Kind → Type 0
CallsNoRemote d name kind = (class : List ℕ) (m : Method) → kind ≡ Named class → is_interface d class ≡ false → HasMethod d class name m → m.remote ≡ false

module _ (x : Context) where
  abbrev mutual
    pub IsAdmittedExpr : Scope → Expr → Type 0
    IsAdmittedExpr scope (Lit at value) = Unit {0}
    IsAdmittedExpr scope (Name at name) = Unit {0}
    IsAdmittedExpr scope (This at) = Unit {0}
    IsAdmittedExpr scope (Unary at op a) = IsAdmittedExpr scope a
    IsAdmittedExpr scope (Binary at op a b) = IsAdmittedExpr scope a × IsAdmittedExpr scope b
    IsAdmittedExpr scope (Field at a name) = IsAdmittedExpr scope a
    IsAdmittedExpr scope (Call at a method args) = IsAdmittedExpr scope a × AreAdmittedExprs scope args
        × ((kind : Kind) → type_of x scope a ≡ Ok kind → CallsNoRemote x.declared method kind)
    IsAdmittedExpr scope (Index at a b) = IsAdmittedExpr scope a × IsAdmittedExpr scope b
    IsAdmittedExpr scope (New at class args) = AreAdmittedExprs scope args
    IsAdmittedExpr scope (Items at item items) = AreAdmittedExprs scope items
    IsAdmittedExpr scope (Taken at step) = Unit {0}

    pub AreAdmittedExprs : Scope → Exprs → Type 0
    AreAdmittedExprs scope NoExprs = Unit {0}
    AreAdmittedExprs scope (MoreExprs e es) = IsAdmittedExpr scope e × AreAdmittedExprs scope es

  -- each block in the scope in which it is judged
  abbrev mutual
    pub IsAdmittedStmt : Scope → Stmt → Type 0
    IsAdmittedStmt scope (Val at name e) = IsAdmittedExpr scope e
    IsAdmittedStmt scope (Var at name e) = IsAdmittedExpr scope e
    IsAdmittedStmt scope (Assign at a b) = IsAdmittedExpr scope a × IsAdmittedExpr scope b
    IsAdmittedStmt scope (Run at e) = IsAdmittedExpr scope e
    IsAdmittedStmt scope (Print at e) = IsAdmittedExpr scope e × ((kind : Kind) → type_of x scope e ≡ Ok kind → is_primitive kind ≡ true)
    IsAdmittedStmt scope (Throw at e) = IsAdmittedExpr scope e
    IsAdmittedStmt scope (If at c a b) = IsAdmittedExpr scope c × AreAdmittedStmts scope a × AreAdmittedStmts scope b
    IsAdmittedStmt scope (While at c a) = IsAdmittedExpr scope c × AreAdmittedStmts scope a
    IsAdmittedStmt scope (For at name e a) = IsAdmittedExpr scope e
        × AreAdmittedStmts (scope_or scope (placed x scope e >>= λ p. loop_scope scope at name p)) a
    IsAdmittedStmt scope (Try at a name b) = AreAdmittedStmts scope a × AreAdmittedStmts (scope_or scope (catch_scope scope at name)) b
    IsAdmittedStmt scope (Batch at interface root a) = ⊥

    pub AreAdmittedStmts : Scope → Stmts → Type 0
    AreAdmittedStmts scope NoStmts = Unit {0}
    AreAdmittedStmts scope (MoreStmts s ss) = IsAdmittedStmt scope s × AreAdmittedStmts (scope_or scope (check_stmt x scope s)) ss
