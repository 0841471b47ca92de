-- Laws of marks: in a lawful program, whose expressions and statements stand at positions that differ, each
-- part of a batch has what its own site tells.
use Rattle.std.specs.Prelude.{◌≡◌, ℕ, List, true, Some, None}
use Rattle.std.specs.List.{Contains}
use Rattle.std.specs.FinMap.{get}
use Rattle.rb_trees.specs.declared.marks.Mark.{Mark}
use Rattle.rb_trees.specs.declared.refusals.Refusal.{Refusal}
use Rattle.rb_trees.specs.mirror.Code.{expr_at, stmt_at}
use Rattle.rb_trees.specs.mirror.Declarations.{Program}
use Rattle.rb_meaning_types.specs.Lawful.{IsLawful}
use Rattle.rb_meaning_flow.specs.Facts.{facts_of}
use Rattle.rb_meaning_flow.specs.Sites.{StmtSite, ExprSite, exprs_of, is_script_place}
use Rattle.rb_meaning_flow.specs.Marks.{mark_at, place_at}
use Rattle.rb_meaning_flow.specs.Programs.{sites_of, program_marks, program_places, IsRefusalOf}

-- an expression of one of the program's batches
pub record InBatches (p : Program) (s : ExprSite) : Type 0 where
  pub batch : List StmtSite
  pub is_batch : Contains (sites_of p) batch
  pub stands : Contains (exprs_of batch) s

-- a statement of one of the program's batches
pub record StmtInBatches (p : Program) (s : StmtSite) : Type 0 where
  pub batch : List StmtSite
  pub is_batch : Contains (sites_of p) batch
  pub stands : Contains batch s

-- each expression of a batch has its mark
abbrev pub EachHasItsMark : Type 0
EachHasItsMark = (p : Program) → IsLawful p → (s : ExprSite) → InBatches p s → get (program_marks p) (expr_at s.expr) ≡ Some (mark_at (facts_of p) s)

-- where none stands there is no mark
abbrev pub NoMarkElsewhere : Type 0
NoMarkElsewhere = (p : Program) (at : ℕ) → ((s : ExprSite) → InBatches p s → expr_at s.expr ≡ at → ⊥) → get (program_marks p) at ≡ None

-- each statement of a batch has its place
abbrev pub EachHasItsPlace : Type 0
EachHasItsPlace = (p : Program) → IsLawful p → (s : StmtSite) → StmtInBatches p s → get (program_places p) (stmt_at s.stmt) ≡ Some (place_at (facts_of p) s)

-- where none stands there is no place
abbrev pub NoPlaceElsewhere : Type 0
NoPlaceElsewhere = (p : Program) (at : ℕ) → ((s : StmtSite) → StmtInBatches p s → stmt_at s.stmt ≡ at → ⊥) → get (program_places p) at ≡ None

-- in a program without a refusal each Remote expression stands in a statement at a script place; a carried condition stands
-- in its `if`
abbrev pub RemoteInScript : Type 0
RemoteInScript = (p : Program) → ((r : Refusal) → IsRefusalOf p r → ⊥) → (s : ExprSite) → InBatches p s → mark_at (facts_of p) s ≡ Mark.Remote
    → is_script_place (facts_of p) s.stands.around ≡ true
