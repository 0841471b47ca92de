-- The answer for several batches, and for a program.
use Rattle.std.specs.Prelude.{◌≡◌, List, ◌++◌, Option, Some, None, Result, Ok, Err}
use Rattle.std.specs.List.{Contains}
use Rattle.std.specs.FinMap.{FinMap}
use Rattle.std.specs.Ordering.{nat_cmp}
use Rattle.rb_trees.specs.declared.marks.Mark.{Mark}
use Rattle.rb_trees.specs.declared.marks.Place.{Place}
use Rattle.rb_trees.specs.declared.refusals.Refusal.{Refusal}
use Rattle.rb_trees.specs.mirror.Declarations.{Program}
use Rattle.rb_meaning_flow.specs.Facts.{Facts}
use Rattle.rb_meaning_flow.specs.Refusals.{IsRefusal, IsBefore}
use Rattle.rb_meaning_flow.specs.Programs.{IsRefusalOf, IsAnswerOf, program_marks, program_places}
use Rattle.rb_flow.specs.Earliest.{earlier}
use Rattle.rb_flow.specs.Begun.{Begun, begun_sites}
use Rattle.rb_flow.specs.Answers.{SitesDiffer}

-- in each of some batches no two writers stand at one position, and no two bad parts
abbrev pub AllDiffer : Facts → List Begun → Type 0
AllDiffer x bs = (b : Begun) → Contains bs b → SitesDiffer x (begun_sites x b)

-- a refusal of one of some batches
abbrev pub IsRefusalAmong : Facts → List Begun → Refusal → Type 0
IsRefusalAmong x bs r = (b : Begun) × Contains bs b × IsRefusal x (begun_sites x b) r

-- the answer for some batches: a refusal before which there is none, or none where they have no refusal at all
abbrev pub IsAnswerAmong : Facts → List Begun → Option Refusal → Type 0
IsAnswerAmong x bs None = (r : Refusal) → IsRefusalAmong x bs r → ⊥
IsAnswerAmong x bs (Some r) = IsRefusalAmong x bs r × ((other : Refusal) → IsRefusalAmong x bs other → IsBefore other r → ⊥)

-- the earlier of two answers
abbrev pub with_answer : Option Refusal → Option Refusal → Option Refusal
with_answer first None = first
with_answer first (Some r) = earlier first r

-- what is known while batches are taken from the end: the answer for those that were taken
pub record TakenSo (x : Facts) (all rest : List Begun) (first : Option Refusal) : Type 0 where
  pub taken : List Begun
  pub whole : rest ++ taken ≡ all
  pub answer : IsAnswerAmong x taken first

-- a program without refusals by admission
abbrev pub HasNoRefusal : Program → Type 0
HasNoRefusal p = (r : Refusal) → IsRefusalOf p r → ⊥

-- The marks are those of the program's expressions, and the places those of its statements.
abbrev pub AreMarksOf : Program → FinMap nat_cmp Mark × FinMap nat_cmp Place → Type 0
AreMarksOf p marks = (marks.0 ≡ program_marks p) × (marks.1 ≡ program_places p)

-- The program has no refusal, and the marks are its own.
pub record IsAdmittedWith (p : Program) (marks : FinMap nat_cmp Mark × FinMap nat_cmp Place) : Type 0 where
  pub none : HasNoRefusal p
  pub own : AreMarksOf p marks

abbrev pub IsProgramAnswer : Program → Option Refusal → Type 0
IsProgramAnswer p None = HasNoRefusal p
IsProgramAnswer p (Some r) = IsAnswerOf p r

-- a program is admitted where it has no refusal, else refused by its answer
abbrev pub IsAdmission : Program → Result (Unit {0}) Refusal → Type 0
IsAdmission p (Ok u) = HasNoRefusal p
IsAdmission p (Err r) = IsAnswerOf p r
