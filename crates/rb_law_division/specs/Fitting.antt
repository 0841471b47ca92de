-- A law of divisions: what a batch's script gives fits the batch's remainder.
use Rattle.std.specs.Prelude.{◌≡◌, ℕ, List, Some, Ok}
use Rattle.rb_trees.specs.declared.services.Object.{Object}
use Rattle.rb_trees.specs.mirror.Declarations.{Program}
use Rattle.rb_trees.specs.mirror.Services.{Service}
use Rattle.rb_trees.specs.mirror.Forests.{Node}
use Rattle.rb_meaning_types.specs.Declared.{of_program}
use Rattle.rb_meaning_types.specs.Lawful.{IsLawful}
use Rattle.rb_meaning_types.specs.Programs.{check_program}
use Rattle.rb_meaning_code.specs.State.{Local}
use Rattle.rb_meaning_code.specs.ScriptRun.{run_script}
use Rattle.rb_meaning_flow.specs.Outermost.{Outermost}
use Rattle.rb_meaning.specs.Links.{IsTyped}
use Rattle.rb_meaning.specs.Unsplit.{batch_at}
use Rattle.rb_meaning_split.specs.Client.{fits_batch, input_values}
use Rattle.rb_meaning_split.specs.Division.{division}
use Rattle.rb_law_types.specs.Asked.{Site, Own, IsAskedBatch}
use Rattle.rb_flow.specs.Program.{HasNoRefusal}
use Rattle.rb_law_unsplit.specs.Batches.{program_sites}

-- the node that the script of a batch gives on a service with a table, for the local state in which the batch begins
abbrev pub node_of : Program → Outermost → Service → List Object → Local → Node
node_of p b service table l =
    (run_script (division p b).script (input_values (division p b).inputs l.names) service.classes service.root table).node

-- In a lawful, typed program without refusals, and on a typed service, the node of each batch that code asks for fits the
-- batch's remainder.
abbrev pub NodesFit : Type 0
NodesFit = (p : Program) → IsLawful p → check_program p ≡ Ok tt → HasNoRefusal p
    → (service : Service) (table : List Object) → IsTyped service table
    → (at : ℕ) (l : Local) (site : Site) → IsAskedBatch (of_program p) (Own (program_sites p)) at l site
    → (b : Outermost) → batch_at p at ≡ Some b → fits_batch (division p b) l (node_of p b service table l) ≡ Ok tt
