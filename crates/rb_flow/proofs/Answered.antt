-- What the walk finds in a batch, and its writers' positions.
use Rattle.std.proofs.Common.{◌≡◌, List, [], subst, sym}
use Rattle.rb_trees.specs.mirror.Code.{Stmts}
use Rattle.rb_meaning_flow.specs.Facts.{Facts}
use Rattle.rb_meaning_flow.specs.Scopes.{Scope}
use Rattle.rb_meaning_flow.specs.Sites.{StmtSite, block_sites}
use Rattle.rb_meaning_flow.specs.Chains.{PositionsDiffer}
use Rattle.rb_flow.specs.Walked.{block_walked}
use Rattle.rb_flow.specs.Answers.{SitesDiffer, IsBatchAnswer, IsDecided, outermost_standing, no_findings, batch_found}
use Rattle.rb_flow.proofs.Agree.{block_agrees}
use Rattle.rb_flow.proofs.SeenSites.{all_writers_found}
use Rattle.rb_flow.proofs.Together.{writers_apart, differ_less}
use Rattle.rb_flow.proofs.Decisions.{batch_answered}
use Rattle.std.specs.Prelude.{IfOk, Option, Result, Ok, Err}
use Rattle.rb_trees.specs.declared.refusals.Refusal.{Refusal}
use Rattle.rb_flow.specs.declared.findings.Findings.{Findings}

pub block_found : (x : Facts) (scope : Scope) (ss : Stmts) → block_walked x outermost_standing scope no_findings ss ≡ batch_found x (block_sites x [] scope ss)
block_found x scope ss = block_agrees x [] scope no_findings ss

pub writers_differ : (x : Facts) (ss : List StmtSite) → SitesDiffer x ss → PositionsDiffer (batch_found x ss).writers
writers_differ x ss h = subst PositionsDiffer (sym (all_writers_found x ss no_findings)) (differ_less _ _ (writers_apart x ss) h.writers)

pub batch_differs : (x : Facts) (ss : List StmtSite) (f : Findings) → f ≡ batch_found x ss → SitesDiffer x ss → PositionsDiffer f.writers
batch_differs x ss f e h = subst (λ g. PositionsDiffer g.writers) (sym e) (writers_differ x ss h)

pub answered : {E : Type 0} (x : Facts) (ss : List StmtSite) (f : Findings) (result : Result (Option Refusal) E) → f ≡ batch_found x ss → SitesDiffer x ss
    → IfOk result (IsDecided f.first f.writers f.part) → IfOk result (IsBatchAnswer x ss)
answered x ss f (Ok answer) e h d = batch_answered x ss answer h (subst (λ g. IsDecided g.first g.writers g.part answer) e d)
answered x ss f (Err error) e h d = d
