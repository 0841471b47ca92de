-- How the code of `main` stands to what it means.
use Rattle.std.specs.Prelude.{◌≡◌, ◌≤◌, ℕ, List, map, Option, option_map, Result, Ok, Err}
use Rattle.rb_trees.specs.declared.values.Value.{Value}
use Rattle.rb_trees.specs.declared.outcomes.Ending.{Ending}
use Rattle.rb_trees.specs.declared.outcomes.Raised.{Raised}
use Rattle.rb_trees.specs.declared.code.Expr as expr
use Rattle.rb_trees.specs.declared.declarations.Body as body
use Rattle.rb_trees.specs.declared.declarations.Class as class
use Rattle.rb_trees.specs.mirror.Code.{mirror_expr}
use Rattle.rb_trees.specs.mirror.Declarations.{mirror_body, mirror_class}
use Rattle.rb_meaning_code.specs.Bodies.{bodies_of}
use Rattle.rb_meaning_code.specs.Dialogue.{Outcome, Gave, Faulted, Run, Surroundings, Follows, handle}
use Rattle.rb_meaning_code.specs.State.{Local}
use Rattle.rb_meaning.specs.Meaning.{Around, at_start, ending_of, main_result, runs_main}
use Rattle.rb_base.specs.Devices.{Device}
use Rattle.rb_base.specs.declared.sinks.Failed.{Failed}
use Rattle.rb_base.specs.declared.sinks.Sink as sinks
use Rattle.rb_engine.specs.declared.world.Halt.{Halt}
use Rattle.rb_engine.specs.declared.world.Halt.TheVariants.{Memory, World}
use Rattle.rb_plain.specs.Staged.{program_of}
use Rattle.rb_plain.specs.Worlds.{CutsAround, SeesAround, outer, outer_answers, outer_performs}
use Rattle.rb_plain.specs.declared.outer_world.OuterWorld.{OuterWorld}
use Rattle.rb_plain.specs.declared.run.PlainStop.{PlainStop}
use Rattle.rb_plain.specs.declared.run.PlainStop.TheVariants as stops

-- the World of `main` as surroundings
abbrev pub surrounds : {W : Type 0} → sinks.Ghosts W → Surroundings (OuterWorld W) Failed
surrounds g = record { answers = outer_answers g; performs = outer_performs g }

-- The World leads the run to this result, whatever local state it leaves. Nothing is said after want of memory.
abbrev pub Leads : {W A : Type 0} → sinks.Ghosts W → Run A → OuterWorld W → Result (Result A Raised) (Halt Failed) → OuterWorld W → Type 0
Leads g run w (Ok (Ok a)) w' = (l : Local) × Follows (surrounds g) run w (Ok (Gave a l)) w'
Leads g run w (Ok (Err r)) w' = (l : Local) × Follows (surrounds g) run w (Ok (Faulted r l)) w'
Leads g run w (Err Memory) w' = Unit {0}
Leads g run w (Err (World stop)) w' = Follows (surrounds g) run w (Err stop) w'

-- the same of code that runs from a local state, within any gas that is at least its fuel
abbrev pub LeadsWithin : {W A : Type 0} → sinks.Ghosts W → (ℕ → Local → Run A) → Local → OuterWorld W → Result (Result A Raised) (Halt Failed) → OuterWorld W → Type 0
LeadsWithin g run l w result w' = (gas : ℕ) → l.fuel ≤ gas → Leads g (run gas l) w result w'

-- the run of what follows the statements of `main`
abbrev pub result_run : List class.Class → Option expr.Expr → ℕ → Local → Run (Option Value)
result_run classes value gas l = main_result (bodies_of (map mirror_class classes) gas) (option_map mirror_expr value) l

-- the run of `main`
abbrev pub body_run : List class.Class → body.Body → Local → Run (Option Value)
body_run classes b l = runs_main (map mirror_class classes) l.fuel (mirror_body b) l

-- `main` with so much fuel, by the surroundings of the unsplit meaning
abbrev pub main_meant : {W : Type 0} → OuterWorld W → ℕ → Around → Outcome (Option Value) × Around
main_meant first fuel a =
    let p = program_of first.inner.remote.stage in handle (outer first) (runs_main p.classes fuel p.body (at_start fuel)) a

-- `main` ended as it means; or a write failed in what it shows. Nothing is said after want of memory.
abbrev pub Ends : {W : Type 0} → sinks.Ghosts W → OuterWorld W → Device (List ℕ) → Outcome (Option Value) × Around → Result Ending PlainStop → OuterWorld W → Type 0
Ends g first start meant (Ok ending) w' = (ending ≡ ending_of meant.0) × SeesAround g first start w' meant.1
Ends g first start meant (Err stops.WriteFault) w' = CutsAround g first start w' meant.1
Ends g first start meant (Err stops.Memory) w' = Unit {0}

-- the same, wherever the World is seen as a state before
abbrev pub RunsMain : {W : Type 0} → sinks.Ghosts W → ℕ → OuterWorld W → Result Ending PlainStop → OuterWorld W → Type 0
RunsMain g fuel w result w' = (start : Device (List ℕ)) (a : Around) → SeesAround g w start w a → Ends g w start (main_meant w fuel a) result w'
