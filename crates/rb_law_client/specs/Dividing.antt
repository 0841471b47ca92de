-- Laws of the division: it keeps what a batch means, and what a batch takes along.
use Rattle.std.specs.Prelude.{◌≡◌, ℕ, [], ◌∷◌, ◌++◌, Some, Ok}
use Rattle.rb_trees.specs.mirror.Declarations.{Program}
use Rattle.rb_trees.specs.mirror.Services.{Service}
use Rattle.rb_meaning_types.specs.Declared.{of_program}
use Rattle.rb_meaning_types.specs.Lawful.{IsLawful}
use Rattle.rb_meaning_types.specs.Programs.{check_program}
use Rattle.rb_meaning_code.specs.State.{Local}
use Rattle.rb_meaning_flow.specs.Outermost.{Outermost}
use Rattle.rb_meaning_bytes.specs.formats.Items.{count_items}
use Rattle.rb_meaning.specs.ConstantLists.{items_taken}
use Rattle.rb_meaning.specs.State as state
use Rattle.rb_meaning.specs.State.{Outside}
use Rattle.rb_meaning.specs.Unsplit.{batch_at, performs_batch}
use Rattle.rb_meaning.specs.Links.{IsTyped}
use Rattle.rb_meaning_split.specs.Division.{division}
use Rattle.rb_meaning_split.specs.Replay.{Replayed}
use Rattle.rb_meaning_split.specs.Client.{input_values, replays}
use Rattle.rb_flow.specs.Program.{HasNoRefusal}
use Rattle.rb_law_types.specs.Asked.{Own, Site, IsAskedBatch}
use Rattle.rb_law_unsplit.specs.Batches.{program_sites}
use Rattle.rb_law_script.specs.Remote.{script_run}

-- a batch's remainder, replayed on the node that the batch's script gave
abbrev pub replay_of : Program → Service → Outermost → Local → Outside → Replayed
replay_of p service b l s =
    replays p (division p b) l (s.events ++ state.Batch ∷ []) (script_run p service b l s.server.table).node

-- A batch that is divided ends as it does where it stands in the source, shows the same, and leaves the same table.
pub record KeepsMeaning (p : Program) (service : Service) (b : Outermost) (l : Local) (s : Outside) : Type 0 where
  pub outcome : (replay_of p service b l s).outcome ≡ (performs_batch p service b l s).0
  pub events : (replay_of p service b l s).events ≡ (performs_batch p service b l s).1.events
  pub table : (script_run p service b l s.server.table).server.table ≡ (performs_batch p service b l s).1.server.table

-- So it is in a lawful, typed program without refusals, on a typed service whose table fits, for each batch that code asks for.
abbrev pub DividingKeepsMeaning : Type 0
DividingKeepsMeaning = (p : Program) → IsLawful p → check_program p ≡ Ok tt → HasNoRefusal p
    → (service : Service) (s : Outside) → IsTyped service s.server.table
    → (at : ℕ) (l : Local) (site : Site) → IsAskedBatch (of_program p) (Own (program_sites p)) at l site
    → (b : Outermost) → batch_at p at ≡ Some b → KeepsMeaning p service b l s

-- In a lawful, typed program the inputs of each batch that code asks for have as many items as the batch takes along.
abbrev pub InputsHaveItems : Type 0
InputsHaveItems = (p : Program) → IsLawful p → check_program p ≡ Ok tt
    → (at : ℕ) (l : Local) (site : Site) → IsAskedBatch (of_program p) (Own (program_sites p)) at l site
    → (b : Outermost) → batch_at p at ≡ Some b → items_taken p b l.names ≡ count_items (input_values (division p b).inputs l.names)
