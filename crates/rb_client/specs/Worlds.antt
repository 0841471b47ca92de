-- What the surroundings of a client's code are seen as, and what they answer: what the definitions' do.
use Rattle.std.specs.Prelude.{◌≡◌, ℕ, List, [], ◌∷◌, ◌++◌, Result, Ok, Err}
use Rattle.std.specs.Borrow.{MutBor}
use Rattle.rb_trees.specs.declared.values.Value.{Value}
use Rattle.rb_trees.specs.declared.values.Value.TheVariants as value
use Rattle.rb_trees.specs.declared.outcomes.Raised.{Raised}
use Rattle.rb_meaning_code.specs.State.{Local}
use Rattle.rb_meaning_code.specs.Dialogue.{Question}
use Rattle.rb_meaning.specs.State as state
use Rattle.rb_meaning.specs.State.{Event}
use Rattle.rb_meaning.specs.Shown.{shown_events}
use Rattle.rb_meaning_split.specs.Replay.{Seen, in_replay}
use Rattle.rb_base.specs.Devices.{Device, device, failed}
use Rattle.rb_base.specs.Sinks.{with_bytes, WrotePrefix}
use Rattle.rb_base.specs.declared.sinks.Failed.{Failed}
use Rattle.rb_base.specs.declared.sinks.Sink as sinks
use Rattle.rb_engine.specs.Answers.{Answer, Performed}
use Rattle.rb_wire_forest.specs.Opens.{Open, AtNode}
use Rattle.rb_wire_forest.specs.Opened.{opened}
use Rattle.rb_client.specs.declared.early.Early.{Early}
use Rattle.rb_client.specs.declared.early.Early.TheVariants as early
use Rattle.rb_client.specs.declared.replay_world.ReplayWorld.{ReplayWorld}

abbrev pub output : {W : Type 0} → sinks.Ghosts W → W → Device (List ℕ)
output g out = device g.told g.faults out

-- How a World stands to the state of a handler: it is seen as that state, or it was cut off in what the state shows.
pub record View (W S : Type 0) : Type 1 where
  pub sees : W → S → Type 0
  pub cut : W → S → Type 0

-- What a handler gives was given, and the World is seen as the state then; or the World cut the run off in it.
abbrev pub Told : {W X A S : Type 0} → View W S → Result A X → W → A × S → Type 0
Told v (Ok a) w handled = (a ≡ handled.0) × v.sees w handled.1
Told v (Err x) w handled = v.cut w handled.1

-- Since an output, which is the same, stood so, these events were shown; and this is open of the forest.
pub record SeesOpen {W : Type 0} (g : sinks.Ghosts W) (out : MutBor W) (start : Device (List ℕ)) (open_now : List Open) (w : ReplayWorld W) (events : List Event) : Type 0 where
  pub same_output : w.out.ghost_name ≡ out.ghost_name
  pub written : output g w.out.now ≡ with_bytes start (shown_events events)
  pub open_so : opened w.left ≡ open_now

-- .. and this is left of the innermost node, further out than which this is open.
abbrev pub SeesReplay : {W : Type 0} → sinks.Ghosts W → MutBor W → Device (List ℕ) → List Open → ReplayWorld W → Seen → Type 0
SeesReplay g out start below w s = SeesOpen g out start (AtNode s.node ∷ below) w s.events

-- A write failed within what these events show.
pub record CutsReplay {W : Type 0} (g : sinks.Ghosts W) (out : MutBor W) (start : Device (List ℕ)) (w : ReplayWorld W) (events : List Event) : Type 0 where
  pub same_output : w.out.ghost_name ≡ out.ghost_name
  pub written : WrotePrefix (failed start) (output g w.out.now) (shown_events events)

abbrev pub replay_view : {W : Type 0} → sinks.Ghosts W → MutBor W → Device (List ℕ) → List Open → View (ReplayWorld W) Seen
replay_view g out start below = record { sees = SeesReplay g out start below; cut = λ w s. CutsReplay g out start w s.events }

-- with a line more
abbrev pub prints : List ℕ → Seen → Seen
prints bytes s = record s { events = s.events ++ state.Line bytes ∷ [] }

-- A line was printed, or cut off.
abbrev pub Prints : {W : Type 0} → sinks.Ghosts W → ReplayWorld W → List ℕ → Answer Failed → ReplayWorld W → Type 0
Prints {W = W} g w bytes answer w' = (out : MutBor W) (start : Device (List ℕ)) (below : List Open) (s : Seen) → SeesReplay g out start below w s
    → Told (replay_view g out start below) answer w' (Ok value.Unit, prints bytes s)

abbrev pub replay_answers : {W : Type 0} → sinks.Ghosts W → ReplayWorld W → Question → Answer Failed → ReplayWorld W → Type 0
replay_answers {W = W} g w question answer w' = (out : MutBor W) (start : Device (List ℕ)) (below : List Open) (s : Seen) → SeesReplay g out start below w s
    → Told (replay_view g out start below) answer w' (in_replay.answer s question)

abbrev pub replay_performs : {W : Type 0} → sinks.Ghosts W → ReplayWorld W → ℕ → Local → Performed Failed → ReplayWorld W → Type 0
replay_performs {W = W} g w at l ended w' = (out : MutBor W) (start : Device (List ℕ)) (below : List Open) (s : Seen) → SeesReplay g out start below w s
    → Told (replay_view g out start below) ended w' (in_replay.batch s at l)

-- This was read, or raised in its place, and this is open; unless memory ran out. Nothing was written.
abbrev pub Takes : {W : Type 0} → Result Value Raised × List Open → ReplayWorld W → Result Value Early → ReplayWorld W → Type 0
Takes meant w (Ok v) w' = (meant ≡ (Ok v, opened w'.left)) × (w'.out ≡ w.out)
Takes meant w (Err (early.Raised r)) w' = (meant ≡ (Err r, opened w'.left)) × (w'.out ≡ w.out)
Takes meant w (Err early.WriteFault) w' = ⊥
Takes meant w (Err early.Memory) w' = Unit {0}
