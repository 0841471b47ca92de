-- A law of the division: the script of a batch performs just the batch's whole remote part.
use Rattle.std.specs.Prelude.{◌≡◌, List, Option, Some, None, Ok}
use Rattle.std.specs.List.{Contains}
use Rattle.rb_trees.specs.declared.values.Value.TheVariants as value
use Rattle.rb_trees.specs.declared.services.Object.{Object}
use Rattle.rb_trees.specs.mirror.Declarations.{Program}
use Rattle.rb_trees.specs.mirror.Services.{Service}
use Rattle.rb_meaning_types.specs.Declared.{of_program}
use Rattle.rb_meaning_types.specs.Lawful.{IsLawful}
use Rattle.rb_meaning_types.specs.Programs.{check_program}
use Rattle.rb_meaning_code.specs.State.{Local, bound}
use Rattle.rb_meaning_code.specs.Remote.{Reply, Got, Stopped, batch_fuel}
use Rattle.rb_meaning_code.specs.ScriptRun.{PlacedFault, Ran, run_script}
use Rattle.rb_meaning_flow.specs.Outermost.{Outermost}
use Rattle.rb_meaning.specs.RemotePart.{Walked, remote_only}
use Rattle.rb_meaning.specs.Unsplit.{batch_at, server_after}
use Rattle.rb_meaning.specs.Links.{IsTyped}
use Rattle.rb_meaning_split.specs.Division.{scope_of, division}
use Rattle.rb_meaning_split.specs.Client.{input_values}
use Rattle.rb_flow.specs.Program.{HasNoRefusal}
use Rattle.rb_law_types.specs.Asked.{Site}
use Rattle.rb_law_types.specs.Ends.{FitsPlace}
use Rattle.rb_law_unsplit.specs.Batches.{program_sites}

-- the fault that a reply tells, with its position, if it tells one
abbrev pub fault_of : {A : Type 0} → Reply A → Option PlacedFault
fault_of (Got a s) = None
fault_of (Stopped at f s) = Some (record { at = at; fault = f })

-- the run of a batch's script on a service and its table, with the inputs from the local state of the batch's start
abbrev pub script_run : Program → Service → Outermost → Local → List Object → Ran
script_run p service o l table =
    let d = division p o in run_script d.script (input_values d.inputs l.names) service.classes service.root table

-- the whole remote part of the batch, from there, with fresh fuel
abbrev pub remote_part : Program → Service → Outermost → Local → List Object → Walked
remote_part p service o l table =
    remote_only p service (scope_of o) o.block (bound o.root (value.Remote service.root) l).names (record { table = table; fuel = batch_fuel })

-- The script is stopped by the fault of the remote part at the same position, if one stops that, and leaves the server
-- as it does.
pub record PerformsRemotePart (p : Program) (service : Service) (o : Outermost) (l : Local) (table : List Object) : Type 0 where
  pub fault : (script_run p service o l table).fault ≡ fault_of (remote_part p service o l table)
  pub server : (script_run p service o l table).server ≡ server_after (remote_part p service o l table)

-- Of a lawful, typed program without refusals on a typed service: for each batch, by its position, and each local state
-- that fits where the batch stands.
abbrev pub ScriptsPerformRemoteParts : Type 0
ScriptsPerformRemoteParts = (p : Program) → IsLawful p → check_program p ≡ Ok tt → HasNoRefusal p
    → (service : Service) (table : List Object) → IsTyped service table
    → (b : Site) → Contains (program_sites p) b → (o : Outermost) → batch_at p b.at ≡ Some o
    → (l : Local) → FitsPlace (of_program p) b.place l → PerformsRemotePart p service o l table
