-- The remote expressions of a statement of a batch: each largest portable expression in which a remote call stands, in order of
-- evaluation.
use Rattle.std.specs.Prelude.{List, [], ◌∷◌, ◌++◌, cond}
use Rattle.std.specs.List.{flat_map}
use Rattle.rb_trees.specs.mirror.Code.{Expr, Exprs, Unary, Binary, Field, Call, Index, New, Items, NoExprs, MoreExprs, Stmt}
use Rattle.rb_meaning_flow.specs.Facts.{Facts}
use Rattle.rb_meaning_flow.specs.Scopes.{Scope}
use Rattle.rb_meaning_flow.specs.Marks.{is_portable_call}
use Rattle.rb_meaning_flow.specs.Sites.{own}

-- the expression, where it is one as a whole, or those in its parts
abbrev pub whole_or : Facts → Scope → Expr → List Expr → List Expr
whole_or x scope e parts = cond (is_portable_call x scope e) (e ∷ []) parts

-- those in an expression
abbrev mutual
  pub remote_in : Facts → Scope → Expr → List Expr
  remote_in x scope (Unary at op a) = whole_or x scope (Unary at op a) (remote_in x scope a)
  remote_in x scope (Binary at op a b) = whole_or x scope (Binary at op a b) (remote_in x scope a ++ remote_in x scope b)
  remote_in x scope (Field at a name) = remote_in x scope a
  remote_in x scope (Call at a method args) = whole_or x scope (Call at a method args) (remote_in x scope a ++ all_remote_in x scope args)
  remote_in x scope (Index at a b) = remote_in x scope a ++ remote_in x scope b
  remote_in x scope (New at class args) = all_remote_in x scope args
  remote_in x scope (Items at item items) = all_remote_in x scope items
  remote_in x scope _ = []

  pub all_remote_in : Facts → Scope → Exprs → List Expr
  all_remote_in x scope NoExprs = []
  all_remote_in x scope (MoreExprs e es) = remote_in x scope e ++ all_remote_in x scope es

-- those in the outermost expressions of a statement
abbrev pub remote_of : Facts → Scope → Stmt → List Expr
remote_of x scope stmt = flat_map (remote_in x scope) (own stmt)
