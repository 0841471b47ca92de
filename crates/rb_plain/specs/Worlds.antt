-- What the surroundings of a program's code are seen as, and what they answer: what the unsplit meaning's do.
use Rattle.std.specs.Prelude.{◌≡◌, ℕ, List, map, Result, Ok, Err}
use Rattle.rb_trees.specs.declared.values.Value.TheVariants as value
use Rattle.rb_meaning_code.specs.State.{Local}
use Rattle.rb_meaning_code.specs.Dialogue.{Question, Outcome, Handler}
use Rattle.rb_meaning.specs.Changes.{all_changed}
use Rattle.rb_meaning.specs.State as state
use Rattle.rb_meaning.specs.State.{Outside, shows}
use Rattle.rb_meaning.specs.Shown.{exchanges, shown_events}
use Rattle.rb_meaning.specs.Unsplit.{in_batch, performs_batch}
use Rattle.rb_meaning_flow.specs.Outermost.{Outermost}
use Rattle.rb_flow.specs.Begun.{begun, begun_of}
use Rattle.rb_flow.specs.declared.outermost.OpenBatch.{OpenBatch}
use Rattle.rb_meaning.specs.ConstantLists.{takes_too_many}
use Rattle.rb_meaning.specs.Meaning.{Around, at_batch, begins_or_faults, behind_batch, in_main}
use Rattle.rb_base.specs.Devices.{Device, device, failed}
use Rattle.rb_base.specs.Sinks.{with_bytes, WrotePrefix}
use Rattle.rb_base.specs.declared.sinks.Failed.{Failed}
use Rattle.rb_base.specs.declared.sinks.Sink as sinks
use Rattle.rb_engine.specs.Answers.{Answer, Performed}
use Rattle.rb_plain.specs.Batches.{AreBatchesOf}
use Rattle.rb_plain.specs.Staged.{program_of, service_of}
use Rattle.rb_plain.specs.declared.batch_world.BatchWorld.{BatchWorld}
use Rattle.rb_plain.specs.declared.outer_world.OuterWorld.{OuterWorld}

abbrev pub output : {W : Type 0} → sinks.Ghosts W → W → Device (List ℕ)
output g out = device g.told g.faults out

-- How a World stands to the state of a handler: it is seen as that state, or it was cut off in what the state shows.
pub record View (W S : Type 0) : Type 1 where
  pub sees : W → S → Type 0
  pub cut : W → S → Type 0

-- What a handler gives was given, and the World is seen as the state then; or the World cut the run off in it.
abbrev pub Told : {W X A S : Type 0} → View W S → Result A X → W → A × S → Type 0
Told v (Ok a) w handled = (a ≡ handled.0) × v.sees w handled.1
Told v (Err x) w handled = v.cut w handled.1

-- Since a run began in a first World with an output, which is the same, this was shown; and the server is the state's.
pub record SeesBatch {W : Type 0} (g : sinks.Ghosts W) (first : BatchWorld W) (start : Device (List ℕ)) (w : BatchWorld W) (s : Outside) : Type 0 where
  pub stage_so : w.remote.stage ≡ first.remote.stage
  pub same_output : w.out.ghost_name ≡ first.out.ghost_name
  pub written : output g w.out.now ≡ with_bytes start (shown_events s.events)
  pub server_so : w.remote.server ≡ s.server

-- A write failed within what the state shows.
pub record CutsBatch {W : Type 0} (g : sinks.Ghosts W) (first : BatchWorld W) (start : Device (List ℕ)) (w : BatchWorld W) (s : Outside) : Type 0 where
  pub same_output : w.out.ghost_name ≡ first.out.ghost_name
  pub written : WrotePrefix (failed start) (output g w.out.now) (shown_events s.events)

abbrev pub batch_view : {W : Type 0} → sinks.Ghosts W → BatchWorld W → Device (List ℕ) → View (BatchWorld W) Outside
batch_view g first start = record { sees = SeesBatch g first start; cut = CutsBatch g first start }

-- the surroundings in a batch of the program, on the service
abbrev pub inner : {W : Type 0} → BatchWorld W → Handler Outside
inner first = in_batch (program_of first.remote.stage) (service_of first.remote.stage)

-- A line was printed, or cut off.
abbrev pub Prints : {W : Type 0} → sinks.Ghosts W → BatchWorld W → List ℕ → Answer Failed → BatchWorld W → Type 0
Prints {W = W} g w bytes answer w' = (first : BatchWorld W) (start : Device (List ℕ)) (s : Outside) → SeesBatch g first start w s
    → Told (batch_view g first start) answer w' (Ok value.Unit, shows (state.Line bytes) s)

abbrev pub batch_answers : {W : Type 0} → sinks.Ghosts W → BatchWorld W → Question → Answer Failed → BatchWorld W → Type 0
batch_answers {W = W} g w question answer w' = (first : BatchWorld W) (start : Device (List ℕ)) (s : Outside) → SeesBatch g first start w s
    → Told (batch_view g first start) answer w' ((inner first).answer s question)

abbrev pub batch_performs : {W : Type 0} → sinks.Ghosts W → BatchWorld W → ℕ → Local → Performed Failed → BatchWorld W → Type 0
batch_performs {W = W} g w at l ended w' = (first : BatchWorld W) (start : Device (List ℕ)) (s : Outside) → SeesBatch g first start w s
    → Told (batch_view g first start) ended w' ((inner first).batch s at l)

-- Outside of batches the batches that were begun are counted, too.
pub record SeesOuter {W : Type 0} (g : sinks.Ghosts W) (first : OuterWorld W) (start : Device (List ℕ)) (w : OuterWorld W) (s : Outside) : Type 0 where
  pub inner_so : SeesBatch g first.inner start w.inner s
  pub batches_so : AreBatchesOf (program_of first.inner.remote.stage) w.batches.now
  pub exchanges_so : w.exchanges ≡ exchanges s.events

abbrev pub CutsOuter : {W : Type 0} → sinks.Ghosts W → OuterWorld W → Device (List ℕ) → OuterWorld W → Outside → Type 0
CutsOuter g first start w s = CutsBatch g first.inner start w.inner s

abbrev pub outer_view : {W : Type 0} → sinks.Ghosts W → OuterWorld W → Device (List ℕ) → View (OuterWorld W) Outside
outer_view g first start = record { sees = SeesOuter g first start; cut = CutsOuter g first start }

-- What is around `main` has what is left of the changes by others, too.
pub record SeesAround {W : Type 0} (g : sinks.Ghosts W) (first : OuterWorld W) (start : Device (List ℕ)) (w : OuterWorld W) (a : Around) : Type 0 where
  pub outer_so : SeesOuter g first start w a.outside
  pub others_so : a.others ≡ map all_changed w.others.now

abbrev pub CutsAround : {W : Type 0} → sinks.Ghosts W → OuterWorld W → Device (List ℕ) → OuterWorld W → Around → Type 0
CutsAround g first start w a = CutsOuter g first start w a.outside

abbrev pub around_view : {W : Type 0} → sinks.Ghosts W → OuterWorld W → Device (List ℕ) → View (OuterWorld W) Around
around_view g first start = record { sees = SeesAround g first start; cut = CutsAround g first start }

-- the surroundings of code of the program outside of batches, on the service
abbrev pub outer : {W : Type 0} → OuterWorld W → Handler Around
outer first = in_main (program_of first.inner.remote.stage) (service_of first.inner.remote.stage)

abbrev pub outer_answers : {W : Type 0} → sinks.Ghosts W → OuterWorld W → Question → Answer Failed → OuterWorld W → Type 0
outer_answers {W = W} g w question answer w' = (first : OuterWorld W) (start : Device (List ℕ)) (a : Around) → SeesAround g first start w a
    → Told (around_view g first start) answer w' ((outer first).answer a question)

abbrev pub outer_performs : {W : Type 0} → sinks.Ghosts W → OuterWorld W → ℕ → Local → Performed Failed → OuterWorld W → Type 0
outer_performs {W = W} g w at l ended w' = (first : OuterWorld W) (start : Device (List ℕ)) (a : Around) → SeesAround g first start w a
    → Told (around_view g first start) ended w' ((outer first).batch a at l)

-- a batch of the program that begins where it is found
abbrev pub performs_around : {W : Type 0} → OuterWorld W → Outermost → Local → Around → Outcome (Unit {0}) × Around
performs_around first o l a =
    behind_batch a (performs_batch (program_of first.inner.remote.stage) (service_of first.inner.remote.stage) o l (at_batch a))

-- A batch of the program was performed, of which the code has this and this root.
abbrev pub PerformsBatch : {W : Type 0} → sinks.Ghosts W → List ℕ → OpenBatch → OuterWorld W → Local → Performed Failed → OuterWorld W → Type 0
PerformsBatch {W = W} g root b w l ended w' = (first : OuterWorld W) (start : Device (List ℕ)) (a : Around) (o : Outermost) → SeesAround g first start w a → begun_of b ≡ begun o → root ≡ o.root
    → Told (around_view g first start) ended w' (performs_around first o l a)

-- the same, unless it would take too many items along
abbrev pub finds_around : {W : Type 0} → OuterWorld W → Outermost → Local → Around → Outcome (Unit {0}) × Around
finds_around first o l a =
    let p = program_of first.inner.remote.stage in begins_or_faults (takes_too_many p o l.names) p (service_of first.inner.remote.stage) o l a

-- A batch of the program that was found was performed so, of which the code has this and this root.
abbrev pub FindsBatch : {W : Type 0} → sinks.Ghosts W → List ℕ × ℕ → OpenBatch → OuterWorld W → Local → Performed Failed → OuterWorld W → Type 0
FindsBatch {W = W} g root b w l ended w' = (first : OuterWorld W) (start : Device (List ℕ)) (a : Around) (o : Outermost) → SeesAround g first start w a → begun_of b ≡ begun o → root ≡ (o.root, o.at)
    → Told (around_view g first start) ended w' (finds_around first o l a)
