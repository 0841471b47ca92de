-- The mark of an expression and the place of a statement, each by what stands around it.
use Rattle.std.specs.Prelude.{ℕ, List, map, Bool, false, cond, ◌&&◌, ◌||◌}
use Rattle.std.specs.List.{list_any}
use Rattle.rb_trees.specs.declared.marks.Mark.{Mark}
use Rattle.rb_trees.specs.declared.marks.Place.{Place}
use Rattle.rb_trees.specs.mirror.Code.{Expr, Stmt, If, For, expr_at, stmt_at}
use Rattle.rb_meaning_flow.specs.Facts.{Facts, over_rows}
use Rattle.rb_meaning_flow.specs.Scopes.{Scope}
use Rattle.rb_meaning_flow.specs.Portable.{portable, holds_call, is_constant, branches_hold, holds_operation}
use Rattle.rb_meaning_flow.specs.Sites.{Around, ExprSite, StmtSite, is_script_place, exprs_of}

-- a portable expression that holds a remote call
abbrev pub is_portable_call : Facts → Scope → Expr → Bool
is_portable_call x scope e = portable x scope e && holds_call x e

-- carried conditions, and what loops over rows go over, are Remote with all their parts
abbrev pub is_remote_whole : Facts → List Around → Stmt → Bool
is_remote_whole x around (If at c a b) = is_script_place x around && branches_hold x a b
is_remote_whole x around (For at name e a) = over_rows x e
is_remote_whole x around _ = false

-- Remote: all parts of a carried condition, of what a loop over rows goes over, and of each portable
-- expression in which a remote call stands; a carried val is one whose initialiser is such
abbrev pub is_remote_at : Facts → ExprSite → Bool
is_remote_at x s = is_remote_whole x s.stands.around s.stands.stmt
    || (is_portable_call x s.stands.scope s.expr || list_any (λ o. is_portable_call x s.stands.scope o.expr) s.above)

-- Constant: what isn't Remote, and whose leaves are literals and constant variables under operators alone
abbrev pub mark_at : Facts → ExprSite → Mark
mark_at x s = cond (is_remote_at x s) Mark.Remote (cond (is_constant s.stands.scope s.expr) Mark.Constant Mark.Local)

-- A statement without a remote operation is LocalOnly; any other is Script or Elsewhere, as its place is a
-- script place or not.
abbrev pub place_at : Facts → StmtSite → Place
place_at x s = cond (holds_operation x s.stmt) (cond (is_script_place x s.around) Place.Script Place.Elsewhere) Place.LocalOnly

-- the mark of each expression of a batch, with its position; the statements are those of the batch
abbrev pub marks_of : Facts → List StmtSite → List (ℕ × Mark)
marks_of x ss = map (λ s. (expr_at s.expr, mark_at x s)) (exprs_of ss)

-- the place of each statement, with its position
abbrev pub places_of : Facts → List StmtSite → List (ℕ × Place)
places_of x ss = map (λ s. (stmt_at s.stmt, place_at x s)) ss
