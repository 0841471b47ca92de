-- A statement without its remote expressions: in the place of each stands what a step of the script kept.
use Rattle.std.specs.Prelude.{ℕ, suc, List, [], ◌∷◌, cond}
use Rattle.rb_trees.specs.mirror.Code.{Expr, Exprs, Unary, Binary, Field, Call, Index, New, Items, Taken, NoExprs, MoreExprs, expr_at, Stmt, Val, Var, Assign, Run, Print, Throw, If, While, For}
use Rattle.rb_meaning_flow.specs.Facts.{Facts}
use Rattle.rb_meaning_flow.specs.Scopes.{Scope}
use Rattle.rb_meaning_flow.specs.Marks.{is_portable_call}
use Rattle.rb_meaning.specs.RemoteExprs.{remote_in}

-- the number that follows those of some expressions
abbrev pub counted : List Expr → ℕ → ℕ
counted [] n = n
counted (e ∷ es) n = counted es (suc n)

-- what was kept, where the expression is remote as a whole, or the expression without its remote parts
abbrev pub taken_or : Facts → Scope → ℕ → Expr → Expr → Expr
taken_or x scope n e parts = cond (is_portable_call x scope e) (Taken (expr_at e) n) parts

-- an expression without its remote ones, which have the numbers from n on
abbrev mutual
  pub cut : Facts → Scope → ℕ → Expr → Expr
  cut x scope n (Unary at op a) = taken_or x scope n (Unary at op a) (Unary at op (cut x scope n a))
  cut x scope n (Binary at op a b) =
      taken_or x scope n (Binary at op a b) (Binary at op (cut x scope n a) (cut x scope (counted (remote_in x scope a) n) b))
  cut x scope n (Field at a name) = Field at (cut x scope n a) name
  cut x scope n (Call at a method args) =
      taken_or x scope n (Call at a method args) (Call at (cut x scope n a) method (cut_all x scope (counted (remote_in x scope a) n) args))
  cut x scope n (Index at a b) = Index at (cut x scope n a) (cut x scope (counted (remote_in x scope a) n) b)
  cut x scope n (New at class args) = New at class (cut_all x scope n args)
  cut x scope n (Items at item items) = Items at item (cut_all x scope n items)
  cut x scope n e = e

  pub cut_all : Facts → Scope → ℕ → Exprs → Exprs
  cut_all x scope n NoExprs = NoExprs
  cut_all x scope n (MoreExprs e es) = MoreExprs (cut x scope n e) (cut_all x scope (counted (remote_in x scope e) n) es)

-- A statement without the remote expressions of its own. Nothing remote stands in its blocks.
abbrev pub cut_stmt : Facts → Scope → ℕ → Stmt → Stmt
cut_stmt x scope n (Val at name e) = Val at name (cut x scope n e)
cut_stmt x scope n (Var at name e) = Var at name (cut x scope n e)
cut_stmt x scope n (Assign at a b) = Assign at (cut x scope n a) (cut x scope (counted (remote_in x scope a) n) b)
cut_stmt x scope n (Run at e) = Run at (cut x scope n e)
cut_stmt x scope n (Print at e) = Print at (cut x scope n e)
cut_stmt x scope n (Throw at e) = Throw at (cut x scope n e)
cut_stmt x scope n (If at c a b) = If at (cut x scope n c) a b
cut_stmt x scope n (While at c a) = While at (cut x scope n c) a
cut_stmt x scope n (For at name e a) = For at name (cut x scope n e) a
cut_stmt x scope n stmt = stmt
