-- A law of scripts: the script of a batch that an accepted program comes to never faults Kind.
use Rattle.std.specs.Prelude.{◌≡◌, ℕ, List, Option, None, Some}
use Rattle.std.specs.List.{All}
use Rattle.rb_trees.specs.declared.values.Value.{Value}
use Rattle.rb_trees.specs.mirror.Declarations.{Program}
use Rattle.rb_trees.specs.mirror.Services.{Service}
use Rattle.rb_meaning_code.specs.Dialogue.{Outcome, Dialogue, AskBatch}
use Rattle.rb_meaning_code.specs.ScriptRun.{PlacedFault}
use Rattle.rb_meaning_code.specs.State.{Local}
use Rattle.rb_meaning_flow.specs.Outermost.{Outermost}
use Rattle.rb_meaning.specs.Meaning.{Around, at_batch}
use Rattle.rb_meaning.specs.Others.{Others}
use Rattle.rb_meaning.specs.State.{Outside}
use Rattle.rb_meaning.specs.Unsplit.{batch_at}
use Rattle.rb_law_types.specs.Kept.{IsOwnFault}
use Rattle.rb_law_types.specs.NodeFaults.{faults_in}
use Rattle.rb_law_unsplit.specs.Kept.{AllKeepFitting}
use Rattle.rb_law_script.specs.Remote.{script_run}
use Rattle.rb_law_client.specs.Answered.{InAccepted}
use Rattle.rb_law_client.specs.Reached.{ProgramComesTo}

-- A run goes to its end, or is stopped by a fault that typed code may end by, which isn't Kind.
abbrev pub StopsWithoutKind : Option PlacedFault → Type 0
StopsWithoutKind None = Unit {0}
StopsWithoutKind (Some f) = IsOwnFault f.fault

-- A batch that is asked for stands in the program, and no fault Kind stops the run of its script there: on the service and the
-- table of then, with the values of its inputs. Nor does one stand in the node that the run gives.
pub record ScriptEndsWithoutKind (p : Program) (service : Service) (at : ℕ) (l : Local) (s : Outside) : Type 0 where
  pub batch : Outermost
  pub stands : batch_at p at ≡ Some batch
  pub stops : StopsWithoutKind (script_run p service batch l s.server.table).fault
  pub node : All (λ f. IsOwnFault f.fault) (faults_in (script_run p service batch l s.server.table).node)

-- So it is with each batch that an accepted program comes to on a typed service, on the table that the batch finds, with whatever
-- fuel and whatever others do that keeps tables fitting.
abbrev pub ScriptsNeverFaultKind : Type 0
ScriptsNeverFaultKind = InAccepted (λ p service table. (others : List Others) → AllKeepFitting service others
    → (fuel at : ℕ) (l : Local) (go : Outcome (Unit {0}) → Dialogue (Outcome (Option Value))) (a : Around)
    → ProgramComesTo p service table others fuel (AskBatch at l go) a → ScriptEndsWithoutKind p service at l (at_batch a))
