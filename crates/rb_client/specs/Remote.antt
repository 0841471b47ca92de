-- A law of programs that are under way: the script of a batch that is reached performs the batch's remote part.
use Rattle.std.specs.Prelude.{◌≡◌, ℕ, List, Option, Some, Ok}
use Rattle.rb_trees.specs.declared.services.Object.{Object}
use Rattle.rb_trees.specs.declared.values.Value.{Value}
use Rattle.rb_trees.specs.mirror.Declarations.{Program}
use Rattle.rb_trees.specs.mirror.Services.{Service}
use Rattle.rb_meaning_types.specs.Fits.{TableFits}
use Rattle.rb_meaning_types.specs.Lawful.{IsLawful}
use Rattle.rb_meaning_types.specs.Programs.{check_program}
use Rattle.rb_meaning_code.specs.Dialogue.{Outcome, Dialogue, AskBatch}
use Rattle.rb_meaning_code.specs.State.{Local}
use Rattle.rb_meaning_flow.specs.Outermost.{Outermost}
use Rattle.rb_meaning.specs.Links.{IsTyped}
use Rattle.rb_meaning.specs.Meaning.{Around}
use Rattle.rb_meaning.specs.Others.{Others}
use Rattle.rb_meaning.specs.Unsplit.{batch_at}
use Rattle.rb_flow.specs.Program.{HasNoRefusal}
use Rattle.rb_law_unsplit.specs.Kept.{AllKeepFitting}
use Rattle.rb_law_script.specs.Remote.{PerformsRemotePart}
use Rattle.rb_law_client.specs.Reached.{ProgramComesTo}

-- So it is in a lawful, typed program without refusals, on a typed service, on each table that fits the service.
abbrev pub ReachedPerformRemoteParts : Type 0
ReachedPerformRemoteParts = (p : Program) → IsLawful p → check_program p ≡ Ok tt → HasNoRefusal p
    → (service : Service) (table : List Object) → IsTyped service table → (others : List Others) → AllKeepFitting service others
    → (fuel at : ℕ) (l : Local) (go : Outcome (Unit {0}) → Dialogue (Outcome (Option Value))) (a : Around)
    → ProgramComesTo p service table others fuel (AskBatch at l go) a
    → (b : Outermost) → batch_at p at ≡ Some b
    → (found : List Object) → TableFits service.classes service.root found → PerformsRemotePart p service b l found
