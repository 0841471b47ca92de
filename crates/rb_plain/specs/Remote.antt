-- What remote calls and remote expressions of a program mean.
use Rattle.std.specs.Prelude.{◌≡◌, ℕ, List, Result, Ok, Err}
use Rattle.rb_trees.specs.declared.values.Value.{Value, out-Value}
use Rattle.rb_trees.specs.declared.values.Value.TheVariants as value
use Rattle.rb_trees.specs.declared.outcomes.Raised.{Raised}
use Rattle.rb_trees.specs.declared.want.Memory.{Memory}
use Rattle.rb_trees.specs.declared.code.Expr as expr
use Rattle.rb_trees.specs.mirror.Code.{mirror_expr}
use Rattle.rb_meaning_code.specs.State.{Names, Local}
use Rattle.rb_meaning_code.specs.Dialogue.{Question}
use Rattle.rb_meaning_code.specs.Remote.{Server, Reply, invoke}
use Rattle.rb_meaning_types.specs.CallKinds.{call_kind}
use Rattle.rb_meaning.specs.RemoteAnswers.{answer_of, unit_of}
use Rattle.rb_meaning.specs.RemotePart.{in_remote_part, value_of}
use Rattle.rb_engine.specs.Answers.{Answer, Performed}
use Rattle.rb_engine.specs.Misses.{Means}
use Rattle.rb_engine.specs.declared.misses.Miss.{Miss}
use Rattle.rb_engine.specs.declared.misses.Miss.TheVariants as miss
use Rattle.rb_plain.specs.Staged.{Staged, program_of, service_of}
use Rattle.rb_plain.specs.declared.remote_world.RemoteWorld.{RemoteWorld}

abbrev pub SameStage : RemoteWorld → RemoteWorld → Type 0
SameStage w w' = w'.stage ≡ w.stage

-- This holds unless memory ran out.
abbrev pub Unstarved : {A : Type 0} → Result A Miss → Type 0 → Type 0
Unstarved (Ok a) P = P
Unstarved (Err (miss.Fault at f)) P = P
Unstarved (Err miss.Memory) P = Unit {0}

-- a remote call of the program: its answer, and the server then
abbrev pub call_meant : RemoteWorld → ℕ → Value → List ℕ → List Value → Result Value Raised × Server
call_meant w at target method args =
    answer_of (invoke (service_of w.stage).classes at (call_kind (program_of w.stage) at) (out-Value target) method args w.server)

-- a unit of remote fuel, at a position: the answer, and the server then
abbrev pub turn_meant : RemoteWorld → ℕ → Result Value Raised × Server
turn_meant w at = answer_of (unit_of at w.server)

-- nothing, as a value
abbrev pub as_unit : {E : Type 0} → Result (Unit {0}) E → Result Value E
as_unit (Ok u) = Ok value.Unit
as_unit (Err e) = Err e

-- This was answered, and the server is then so, unless memory ran out.
abbrev pub IsAnswered : {A : Type 0} → A × Server → Result A Memory → RemoteWorld → Type 0
IsAnswered meant (Ok answer) w' = (answer ≡ meant.0) × (w'.server ≡ meant.1)
IsAnswered meant (Err want) w' = Unit {0}

-- What a handler gives was answered, and the World is then so. It never cuts a run off.
abbrev pub Handled : {A : Type 0} → A × Server → RemoteWorld → Result A Memory → RemoteWorld → Type 0
Handled meant w (Ok answer) w' = (answer ≡ meant.0) × (w'.server ≡ meant.1) × SameStage w w'
Handled meant w (Err want) w' = ⊥

abbrev pub remote_answers : RemoteWorld → Question → Answer Memory → RemoteWorld → Type 0
remote_answers w question answer w' = Handled ((in_remote_part (program_of w.stage) (service_of w.stage)).answer w.server question) w answer w'

abbrev pub remote_performs : RemoteWorld → ℕ → Local → Performed Memory → RemoteWorld → Type 0
remote_performs w at l ended w' = Handled ((in_remote_part (program_of w.stage) (service_of w.stage)).batch w.server at l) w ended w'

-- the value of a remote expression where these names are in scope
abbrev pub value_meant : Staged → expr.Expr → Names → Server → Reply Value
value_meant st e names s = value_of (program_of st) (service_of st) (mirror_expr e) names s

-- what performing something to its end ensures: this reply, on the same stage
pub record Ended {A : Type 0} (meant : Reply A) (result : Result A Miss) (before after : RemoteWorld) : Type 0 where
  pub means : Means meant result after.server
  pub stage_so : Unstarved result (SameStage before after)
