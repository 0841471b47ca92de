-- A law of admitted programs: what they give and leave in the unsplit meaning fits, and they never fault Kind.
use Rattle.std.specs.Prelude.{◌≡◌, ℕ, List, [], Option, Some, None, Ok}
use Rattle.std.specs.List.{AllByRecursion}
use Rattle.rb_trees.specs.declared.values.Value.{Value}
use Rattle.rb_trees.specs.declared.outcomes.Ending as ending
use Rattle.rb_trees.specs.declared.outcomes.Ending.TheVariants as endings
use Rattle.rb_trees.specs.declared.services.Object.{Object}
use Rattle.rb_trees.specs.mirror.Declarations.{Program}
use Rattle.rb_trees.specs.mirror.Services.{Service}
use Rattle.rb_meaning_types.specs.Kinds as kind
use Rattle.rb_meaning_types.specs.Kinds.{Kind, kind_of}
use Rattle.rb_meaning_types.specs.Lawful.{IsLawful}
use Rattle.rb_meaning_types.specs.Programs.{check_program}
use Rattle.rb_meaning_types.specs.Fits.{Fits, TableFits}
use Rattle.rb_meaning.specs.Links.{IsTyped}
use Rattle.rb_meaning.specs.Meaning.{Meaning, Around, meaning_with}
use Rattle.rb_meaning.specs.Others.{Others}
use Rattle.rb_meaning.specs.State.{Outside}
use Rattle.rb_law_types.specs.Kept.{IsOwnFault}
use Rattle.rb_flow.specs.Program.{HasNoRefusal}

-- What `main` gives is of its type, which is primitive; nothing is given where the type is Unit.
abbrev pub IsResult : Kind → Option Value → Type 0
IsResult result None = result ≡ kind.Unit
IsResult result (Some v) = Fits [] [] result v

-- an ending by a result, or by a fault that isn't Kind
abbrev pub EndsWell : Kind → ending.Ending → Type 0
EndsWell result (endings.Done v) = IsResult result v
EndsWell result (endings.Faulted fault at) = IsOwnFault fault

-- the server's table fits the service
abbrev pub HasFittingTable : Service → Outside → Type 0
HasFittingTable service s = TableFits service.classes service.root s.server.table

-- What others do keeps each table fitting.
abbrev pub KeepsFitting : Service → Others → Type 0
KeepsFitting service other = (table : List Object) → TableFits service.classes service.root table → TableFits service.classes service.root (other table)

abbrev pub AllKeepFitting : Service → List Others → Type 0
AllKeepFitting service others = AllByRecursion (KeepsFitting service) others

-- Around `main` the server's table fits, whatever others will do to it.
pub record StandsAround (service : Service) (a : Around) : Type 0 where
  pub table : HasFittingTable service a.outside
  pub others : AllKeepFitting service a.others

pub record MeansWell (p : Program) (service : Service) (m : Meaning) : Type 0 where
  pub ending : EndsWell (kind_of p.result) m.ending
  pub table : TableFits service.classes service.root m.table

-- A lawful, typed program without refusals on a typed service, with whatever fuel, whatever others do that keeps tables fitting.
abbrev pub AdmittedMeanWell : Type 0
AdmittedMeanWell = (p : Program) → IsLawful p → check_program p ≡ Ok tt → HasNoRefusal p
    → (service : Service) (table : List Object) → IsTyped service table → (others : List Others) → AllKeepFitting service others
    → (fuel : ℕ) → MeansWell p service (meaning_with p service table others fuel)
