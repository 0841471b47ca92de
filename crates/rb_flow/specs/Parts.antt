-- The bad part at the least position, and the writers and bad parts of a batch in the order of the walk.
use Rattle.std.specs.Prelude.{List, [], ◌∷◌, ◌++◌, Option}
use Rattle.std.specs.List.{flat_map}
use Rattle.rb_trees.specs.declared.flows.Writer.{Writer}
use Rattle.rb_trees.specs.declared.flows.BadPart.{BadPart}
use Rattle.rb_trees.specs.mirror.Code.{Expr}
use Rattle.rb_meaning_flow.specs.Facts.{Facts}
use Rattle.rb_meaning_flow.specs.Sites.{StmtSite, ExprSite, own, all_sites}
use Rattle.rb_meaning_flow.specs.Flow.{stmt_writers, expr_writers, bad_part, bad_of_call, bad_of_loop}
use Rattle.rb_flow.specs.Walked.{lesser_part}

-- what is kept once these are found too
abbrev pub least_part : List BadPart → Option BadPart → Option BadPart
least_part [] part = part
least_part (p ∷ ps) part = least_part ps (lesser_part part p)

-- expressions of a statement as bad parts
abbrev pub parts_in : Facts → StmtSite → List Expr → List BadPart
parts_in x s es = flat_map (λ e. bad_part x s e ∷ []) es

abbrev pub expr_parts : Facts → ExprSite → List BadPart
expr_parts x e = parts_in x e.stands (bad_of_call x e.stands.scope e.expr)

-- the bad parts of a statement and of its own expressions
abbrev pub site_parts : Facts → StmtSite → List BadPart
site_parts x s = parts_in x s (bad_of_loop x s.scope s.stmt) ++ flat_map (expr_parts x) (all_sites s (own s.stmt))

abbrev pub all_parts : Facts → List StmtSite → List BadPart
all_parts x ss = flat_map (site_parts x) ss

-- the writers that a statement and its own expressions are
abbrev pub site_writers : Facts → StmtSite → List Writer
site_writers x s = stmt_writers x s s.stmt ++ flat_map (λ e. expr_writers x e e.expr) (all_sites s (own s.stmt))

abbrev pub all_writers : Facts → List StmtSite → List Writer
all_writers x ss = flat_map (site_writers x) ss
