-- How the code of `main` stands to what it means, and what a run leaves.
use Rattle.std.specs.Prelude.{◌≡◌, ◌≤◌, ℕ, List, [], ◌++◌, length, map, Option, Some, option_map, Result, Ok, Err}
use Rattle.rb_trees.specs.declared.values.Value.{Value}
use Rattle.rb_trees.specs.declared.outcomes.Raised.{Raised}
use Rattle.rb_trees.specs.declared.outcomes.Run as runs
use Rattle.rb_trees.specs.declared.code.Expr as expr
use Rattle.rb_trees.specs.declared.declarations.Body as body
use Rattle.rb_trees.specs.declared.declarations.Class as class
use Rattle.rb_trees.specs.mirror.Code.{mirror_expr}
use Rattle.rb_trees.specs.mirror.Declarations.{Program, mirror_body, mirror_class, mirror_program}
use Rattle.rb_trees.specs.mirror.Forests.{Node}
use Rattle.rb_meaning_code.specs.Bodies.{bodies_of}
use Rattle.rb_meaning_code.specs.Dialogue.{Outcome, Gave, Faulted, Run, Dialogue, Done, Ask, AskBatch, Surroundings, Follows, handle}
use Rattle.rb_meaning_code.specs.Led.{Passes}
use Rattle.rb_meaning_code.specs.State.{Local}
use Rattle.rb_meaning.specs.Meaning.{ending_of, main_result, runs_main}
use Rattle.rb_meaning.specs.Unsplit.{batch_at}
use Rattle.rb_meaning_flow.specs.Outermost.{Outermost}
use Rattle.rb_meaning_split.specs.Client.{in_client}
use Rattle.rb_meaning_split.specs.Division.{division}
use Rattle.rb_law_client.specs.Reached.{main_run, with_nodes}
use Rattle.rb_base.specs.declared.links.Link as links
use Rattle.rb_base.specs.declared.sinks.Sink as sinks
use Rattle.rb_engine.specs.declared.world.Halt.{Halt}
use Rattle.rb_engine.specs.declared.world.Halt.TheVariants.{Memory, World}
use Rattle.rb_client.specs.Clients.{FailsToAnswer, HasDone, HoldsBoth, Origin, Past, StopsAt, client_answers, client_performs, scene_of, waiting}
use Rattle.rb_client.specs.Runs.{FailsInBatch}
use Rattle.rb_client.specs.Scenes.{Scene}
use Rattle.rb_client.specs.declared.client_world.ClientWorld.{ClientWorld}
use Rattle.rb_client.specs.declared.stops.RunStop.{RunStop}
use Rattle.rb_client.specs.declared.stops.RunStop.TheVariants as stops

-- the World of `main` as surroundings
abbrev pub surrounds : {L W : Type 0} → links.Ghosts L → sinks.Ghosts W → Surroundings (ClientWorld L W) RunStop
surrounds gl gw = record { answers = client_answers gl gw; performs = client_performs gl gw }

-- The World leads the run to this result, whatever local state it leaves. Nothing is said after want of memory.
abbrev pub Leads : {L W A : Type 0} → links.Ghosts L → sinks.Ghosts W → Run A → ClientWorld L W → Result (Result A Raised) (Halt RunStop) → ClientWorld L W → Type 0
Leads gl gw run w (Ok (Ok a)) w' = (l : Local) × Follows (surrounds gl gw) run w (Ok (Gave a l)) w'
Leads gl gw run w (Ok (Err r)) w' = (l : Local) × Follows (surrounds gl gw) run w (Ok (Faulted r l)) w'
Leads gl gw run w (Err Memory) w' = Unit {0}
Leads gl gw run w (Err (World stop)) w' = Follows (surrounds gl gw) run w (Err stop) w'

-- the same of code that runs from a local state, within any gas that is at least its fuel
abbrev pub LeadsWithin : {L W A : Type 0} → links.Ghosts L → sinks.Ghosts W → (ℕ → Local → Run A) → Local → ClientWorld L W → Result (Result A Raised) (Halt RunStop) → ClientWorld L W → Type 0
LeadsWithin gl gw run l w result w' = (gas : ℕ) → l.fuel ≤ gas → Leads gl gw (run gas l) w result w'

-- the run of what follows the statements of `main`
abbrev pub result_run : List class.Class → Option expr.Expr → ℕ → Local → Run (Option Value)
result_run classes value gas l = main_result (bodies_of (map mirror_class classes) gas) (option_map mirror_expr value) l

-- the run of `main`
abbrev pub body_run : List class.Class → body.Body → Local → Run (Option Value)
body_run classes b l = runs_main (map mirror_class classes) l.fuel (mirror_body b) l

-- This is left of `main` with this past, whatever nodes would have followed those that were replied.
abbrev pub ComesTo : Program → ℕ → Past → Dialogue (Outcome (Option Value)) → Type 0
ComesTo p fuel h rest = (more : List Node) → Passes (in_client p) (main_run p fuel) (with_nodes (h.nodes ++ more)) rest (waiting h more)

-- `main` ended so on the nodes that were replied.
pub record EndsWell (p : Program) (fuel : ℕ) (run : runs.Run) (before after : Scene) : Type 0 where
  pub past : Past
  pub outcome : Outcome (Option Value)
  pub handled : handle (in_client p) (main_run p fuel) (with_nodes past.nodes) ≡ (outcome, waiting past [])
  pub ending_so : run.ending ≡ ending_of outcome
  pub exchanges_so : run.exchanges ≡ length past.sent
  pub done : HasDone p before after past

-- A write failed in what is asked first: at a line, or in a batch.
abbrev pub StopsWriting : Program → Past → Dialogue (Outcome (Option Value)) → Scene → Scene → Type 0
StopsWriting p h (Done a) before after = ⊥
StopsWriting p h (Ask q go) before after = FailsToAnswer p before after h q
StopsWriting p h (AskBatch at l go) before after = (b : Outermost) × (batch_at p at ≡ Some b) × FailsInBatch p before after (division p b) l (waiting h []) h.nodes

-- A write failed in what `main` came to.
pub record EndsWriting (p : Program) (fuel : ℕ) (before after : Scene) : Type 0 where
  pub past : Past
  pub rest : Dialogue (Outcome (Option Value))
  pub comes : ComesTo p fuel past rest
  pub stops_so : StopsWriting p past rest before after

-- `main` came to a batch whose exchange gave no node.
pub record EndsAt (p : Program) (fuel : ℕ) (stop : RunStop) (before after : Scene) : Type 0 where
  pub past : Past
  pub batch : Outermost
  pub at : ℕ
  pub local : Local
  pub go : Outcome (Unit {0}) → Dialogue (Outcome (Option Value))
  pub stands : batch_at p at ≡ Some batch
  pub comes : ComesTo p fuel past (AskBatch at local go)
  pub stops_so : StopsAt p before after past (division p batch) local stop

-- What a run leaves. Nothing is said after want of memory.
abbrev pub Leaves : Program → ℕ → Result runs.Run RunStop → Scene → Scene → Type 0
Leaves p fuel (Ok run) before after = EndsWell p fuel run before after
Leaves p fuel (Err stops.WriteFault) before after = EndsWriting p fuel before after
Leaves p fuel (Err stops.Memory) before after = Unit {0}
Leaves p fuel (Err stop) before after = EndsAt p fuel stop before after

-- the program of a World, and what its run begins with
abbrev pub program_of : {L W : Type 0} → ClientWorld L W → Program
program_of w = mirror_program w.plan.now.program

abbrev pub origin : {L W : Type 0} → ClientWorld L W → Origin L W
origin w = record { program = program_of w; link = w.link; out = w.out }

-- The World holds both, unless memory ran out.
abbrev pub KeepsBoth : {L W A : Type 0} → Result A RunStop → Origin L W → ClientWorld L W → Type 0
KeepsBoth (Err stops.Memory) o w = Unit {0}
KeepsBoth result o w = HoldsBoth o w

-- `main` was run with so much fuel in a World, which holds both still, and this is left.
abbrev pub RunsMain : {L W : Type 0} → links.Ghosts L → sinks.Ghosts W → ℕ → ClientWorld L W → Result runs.Run RunStop → ClientWorld L W → Type 0
RunsMain gl gw fuel w result w' = KeepsBoth result (origin w) w' × Leaves (program_of w) fuel result (scene_of gl gw w) (scene_of gl gw w')
