-- Laws of runs that are under way: how far a client comes, what its program has shown by then, and that a batch that is reached
-- can be exchanged.
use Rattle.std.specs.Prelude.{◌≡◌, ◌≤◌, ℕ, List, [], ◌++◌, drop, length, false, Option, Some, Ok}
use Rattle.rb_trees.specs.declared.values.Value.{Value}
use Rattle.rb_trees.specs.declared.services.Object.{Object}
use Rattle.rb_trees.specs.mirror.Declarations.{Program}
use Rattle.rb_trees.specs.mirror.Services.{Service}
use Rattle.rb_trees.specs.mirror.Forests.{Node}
use Rattle.rb_meaning_bytes.specs.formats.FormedScripts.{AreInputs}
use Rattle.rb_meaning_bytes.specs.formats.ScriptBytes.{script_bytes}
use Rattle.rb_meaning_types.specs.Fits.{TableFits}
use Rattle.rb_meaning_types.specs.Lawful.{IsLawful}
use Rattle.rb_meaning_types.specs.Programs.{check_program}
use Rattle.rb_meaning_code.specs.State.{Local}
use Rattle.rb_meaning_code.specs.Dialogue.{Outcome, Dialogue, Run, AskBatch}
use Rattle.rb_meaning_code.specs.Led.{Passes}
use Rattle.rb_meaning_flow.specs.Outermost.{Outermost}
use Rattle.rb_meaning.specs.Answers.{longest_request}
use Rattle.rb_meaning.specs.ConstantLists.{takes_too_many}
use Rattle.rb_meaning.specs.Links.{IsTyped}
use Rattle.rb_meaning.specs.Meaning.{Around, around_of, at_start, in_main, meaning_with, runs_main}
use Rattle.rb_meaning.specs.Others.{Others, FoundThrough, last_table}
use Rattle.rb_meaning.specs.State.{Event, Outside}
use Rattle.rb_meaning.specs.Unsplit.{batch_at}
use Rattle.rb_meaning_split.specs.Client.{Waiting, are_too_many, fits_batch, in_client, sent_version, sent_for}
use Rattle.rb_meaning_split.specs.Division.{Division, division, divisions}
use Rattle.rb_law_unsplit.specs.Kept.{AllKeepFitting}
use Rattle.rb_law_division.specs.Fitting.{node_of}
use Rattle.rb_law_division.specs.Sendable.{HasPlaces}
use Rattle.rb_flow.specs.Program.{HasNoRefusal}
use Rattle.rb_law_client.specs.Clients.{ScriptsGive}
use Rattle.rb_law_client.specs.Dividing.{KeepsMeaning}

-- `main` with so much fuel
abbrev pub main_run : Program → ℕ → Run (Option Value)
main_run p fuel = runs_main p.classes fuel p.body (at_start fuel)

-- a client that has these nodes to come, and did nothing yet
abbrev pub with_nodes : List Node → Waiting
with_nodes nodes = record { events = []; sent = []; nodes = nodes }

-- With these nodes, all of which it has used, a client comes so far: this is left of `main`, and its surroundings stand so.
pub record ClientComesTo (p : Program) (fuel : ℕ) (nodes : List Node) (rest : Dialogue (Outcome (Option Value))) (w : Waiting) : Type 0 where
  pub passes : Passes (in_client p) (main_run p fuel) (with_nodes nodes) rest w
  pub used : w.nodes ≡ []

-- A program comes so far where others do this: this is left of `main`, and this is around it.
abbrev pub ProgramComesTo : Program → Service → List Object → List Others → ℕ → Dialogue (Outcome (Option Value)) → Around → Type 0
ProgramComesTo p service table others fuel rest a = Passes (in_main p service) (main_run p fuel) (around_of table others) rest a

-- A program comes as far as its client did: it has shown the same by then, and its batches have found and left these tables, the
-- last of which stands.
pub record ComesAsFar (p : Program) (service : Service) (before : List Object) (others : List Others) (fuel : ℕ) (rest : Dialogue (Outcome (Option Value))) (w : Waiting) (found left : List (List Object)) : Type 0 where
  pub around : Around
  pub comes : ProgramComesTo p service before others fuel rest around
  pub events : around.outside.events ≡ w.events
  pub found_so : around.found ≡ found
  pub left_so : around.left ≡ left
  pub table : around.outside.server.table ≡ last_table before left
  pub others_so : around.others ≡ drop (length found) others

-- In a lawful, typed program without refusals, on a typed service, whatever others do that keeps tables fitting: however far a
-- client comes on nodes that its own scripts give there, the program comes as far.
abbrev pub ProgramsComeAsFar : Type 0
ProgramsComeAsFar = (p : Program) → IsLawful p → check_program p ≡ Ok tt → HasNoRefusal p
    → (service : Service) (table : List Object) → IsTyped service table → (others : List Others) → AllKeepFitting service others
    → (fuel : ℕ) (nodes : List Node) (rest : Dialogue (Outcome (Option Value))) (w : Waiting) (found left : List (List Object))
    → ClientComesTo p fuel nodes rest w → ScriptsGive service found w.sent nodes left → FoundThrough others table found left
    → ComesAsFar p service table others fuel rest w found left

-- What is shown on the way is a front of what is shown at the end.
pub record IsFront (events whole : List Event) : Type 0 where
  pub more : List Event
  pub is : whole ≡ events ++ more

-- What a program has shown anywhere on its way is a front of what it means to show.
abbrev pub FrontsAreShown : Type 0
FrontsAreShown = (p : Program) (service : Service) (table : List Object) (others : List Others) (fuel : ℕ) (rest : Dialogue (Outcome (Option Value))) (a : Around)
    → ProgramComesTo p service table others fuel rest a → IsFront a.outside.events (meaning_with p service table others fuel).events

-- A batch that a program reaches can be exchanged: it stands in the program, the node that its script gives fits its remainder,
-- and divided it keeps its meaning. Its inputs have too many items just where the batch takes too many along. Where they haven't,
-- their values are inputs of the script, and a request of it with them is within the limit.
pub record CanBeExchanged (p : Program) (service : Service) (at : ℕ) (l : Local) (s : Outside) : Type 0 where
  pub batch : Outermost
  pub stands : batch_at p at ≡ Some batch
  pub limit : takes_too_many p batch l.names ≡ are_too_many (division p batch) l
  pub inputs : are_too_many (division p batch) l ≡ false → AreInputs (division p batch).script (sent_for (division p batch) l).values
  pub request : are_too_many (division p batch) l ≡ false
      → length (script_bytes sent_version (division p batch).script (sent_for (division p batch) l).values) ≤ longest_request
  pub fits_so : fits_batch (division p batch) l (node_of p batch service s.server.table l) ≡ Ok tt
  pub keeps : KeepsMeaning p service batch l s

-- So it is with each batch that an accepted program reaches on a typed service, on each table that fits the service.
abbrev pub ReachedBatchesCanBeExchanged : Type 0
ReachedBatchesCanBeExchanged = (p : Program) → IsLawful p → check_program p ≡ Ok tt → HasNoRefusal p → HasPlaces p
    → (ds : List Division) → divisions p ≡ Ok ds
    → (service : Service) (table : List Object) → IsTyped service table → (others : List Others) → AllKeepFitting service others
    → (fuel at : ℕ) (l : Local) (go : Outcome (Unit {0}) → Dialogue (Outcome (Option Value))) (a : Around)
    → ProgramComesTo p service table others fuel (AskBatch at l go) a
    → (s : Outside) → TableFits service.classes service.root s.server.table → CanBeExchanged p service at l s
