-- A law of clients: a client whose scripts an honest service performs means what its program means.
use Rattle.std.specs.Prelude.{◌≡◌, ℕ, List, [], ◌∷◌, Ok}
use Rattle.rb_trees.specs.declared.services.Object.{Object}
use Rattle.rb_trees.specs.mirror.Declarations.{Program}
use Rattle.rb_trees.specs.mirror.Services.{Service}
use Rattle.rb_trees.specs.mirror.Forests.{Node}
use Rattle.rb_meaning_bytes.specs.formats.Messages.{Sent}
use Rattle.rb_meaning_types.specs.Lawful.{IsLawful}
use Rattle.rb_meaning_types.specs.Programs.{check_program}
use Rattle.rb_meaning_code.specs.ScriptRun.{Ran, run_script}
use Rattle.rb_meaning.specs.Links.{IsTyped}
use Rattle.rb_meaning.specs.Meaning.{meaning_with}
use Rattle.rb_meaning.specs.Others.{Others, FoundThrough, last_table}
use Rattle.rb_law_unsplit.specs.Kept.{AllKeepFitting}
use Rattle.rb_meaning_split.specs.Client.{client}
use Rattle.rb_flow.specs.Program.{HasNoRefusal}

-- the run of a script that is sent, with its values, on a service and a table
abbrev pub sent_run : Service → List Object → Sent → Ran
sent_run service table q = run_script q.script q.values service.classes service.root table

-- These scripts, sent in order to a service, each of which found the table of its place, gave these nodes and left these tables.
abbrev pub ScriptsGive : Service → List (List Object) → List Sent → List Node → List (List Object) → Type 0
ScriptsGive service [] [] [] [] = Unit {0}
ScriptsGive service (found ∷ founds) (q ∷ qs) (n ∷ ns) (left ∷ lefts) =
    ((sent_run service found q).node ≡ n) × ((sent_run service found q).server.table ≡ left) × ScriptsGive service founds qs ns lefts
ScriptsGive service _ _ _ _ = ⊥

-- A client on these nodes ends as the program does where others do this, and shows the same; and these are the tables that the
-- program's batches find and leave, and the one at its end.
pub record MeansTheProgram (p : Program) (service : Service) (before : List Object) (others : List Others) (fuel : ℕ) (found : List (List Object)) (nodes : List Node) (left : List (List Object)) : Type 0 where
  pub ending : (client p fuel nodes).ending ≡ (meaning_with p service before others fuel).ending
  pub events : (client p fuel nodes).events ≡ (meaning_with p service before others fuel).events
  pub found_so : found ≡ (meaning_with p service before others fuel).found
  pub left_so : left ≡ (meaning_with p service before others fuel).left
  pub table : last_table before left ≡ (meaning_with p service before others fuel).table

-- There are tables and nodes that a client's own scripts find, give and leave, where others do this.
pub record HasNodes (p : Program) (service : Service) (table : List Object) (others : List Others) (fuel : ℕ) : Type 0 where
  pub found : List (List Object)
  pub nodes : List Node
  pub left : List (List Object)
  pub given : ScriptsGive service found (client p fuel nodes).sent nodes left
  pub through : FoundThrough others table found left

-- A client means the program on whatever nodes its own scripts give, each on the table that it finds there.
abbrev pub MeansOnItsNodes : Program → Service → List Object → List Others → ℕ → Type 0
MeansOnItsNodes p service table others fuel = (found : List (List Object)) (nodes : List Node) (left : List (List Object))
    → ScriptsGive service found (client p fuel nodes).sent nodes left → FoundThrough others table found left
    → MeansTheProgram p service table others fuel found nodes left

-- So it is in a lawful, typed program without refusals, on a typed service, whatever others do that keeps tables fitting; and there
-- are such nodes.
abbrev pub ClientsMeanWhatProgramsMean : Type 0
ClientsMeanWhatProgramsMean = (p : Program) → IsLawful p → check_program p ≡ Ok tt → HasNoRefusal p
    → (service : Service) (table : List Object) → IsTyped service table → (others : List Others) → AllKeepFitting service others
    → (fuel : ℕ) → HasNodes p service table others fuel × MeansOnItsNodes p service table others fuel
