-- What is found at the sites of a batch, one after the other.
use Rattle.std.specs.Prelude.{List, [], ◌∷◌, ◌++◌}
use Rattle.std.specs.List.{flat_map}
use Rattle.rb_meaning_flow.specs.Facts.{Facts}
use Rattle.rb_meaning_flow.specs.Sites.{StmtSite, ExprSite, own, all_sites}
use Rattle.rb_meaning_flow.specs.Flow.{frame_sites, own_condition}
use Rattle.rb_flow.specs.declared.standing.Reading.{Reading}
use Rattle.rb_flow.specs.declared.findings.Findings.{Findings}
use Rattle.rb_flow.specs.Readings.{read_by}
use Rattle.rb_flow.specs.Found.{standing_in, inside_of}
use Rattle.rb_flow.specs.Walked.{expr_seen, stmt_seen}

-- what is read around the expressions of a statement: by a condition of its own, and by all that stands around
abbrev pub around_of : Facts → StmtSite → Reading
around_of x s = read_by x (own_condition s s.stmt ++ flat_map (frame_sites x) s.around)

abbrev pub expr_site_seen : Facts → ExprSite → Findings → Findings
expr_site_seen x e f = expr_seen x e.stands.scope (around_of x e.stands) (inside_of x e) f e.expr

abbrev pub exprs_seen : Facts → List ExprSite → Findings → Findings
exprs_seen x [] f = f
exprs_seen x (e ∷ es) f = exprs_seen x es (expr_site_seen x e f)

abbrev pub stmt_site_seen : Facts → StmtSite → Findings → Findings
stmt_site_seen x s f = stmt_seen x (standing_in x s.around) s.scope f s.stmt

-- what is found at some statements and at their expressions
abbrev pub all_seen : Facts → List StmtSite → Findings → Findings
all_seen x [] f = f
all_seen x (s ∷ ss) f = all_seen x ss (exprs_seen x (all_sites s (own s.stmt)) (stmt_site_seen x s f))
