-- A batch as it stands in the source: each remote operation is performed on the table at its place.
use Rattle.std.specs.Prelude.{ℕ, ◌==◌, List, [], ◌∷◌, ◌++◌, Bool, true, false, cond, ◌||◌, Option, None, Some, Result, Ok, length}
use Rattle.std.specs.FinMap.{get}
use Rattle.rb_trees.specs.declared.marks.Mark.{Mark}
use Rattle.rb_trees.specs.declared.values.Value.{Value}
use Rattle.rb_trees.specs.declared.values.Value.TheVariants as value
use Rattle.rb_trees.specs.declared.outcomes.Raised.{Raised}
use Rattle.rb_trees.specs.declared.services.Object.{Object}
use Rattle.rb_trees.specs.mirror.Declarations.{Program}
use Rattle.rb_trees.specs.mirror.Services.{Service}
use Rattle.rb_meaning_code.specs.Faults.{kind, raised}
use Rattle.rb_meaning_code.specs.State.{Local, bound, closed}
use Rattle.rb_meaning_code.specs.Dialogue as ask
use Rattle.rb_meaning_code.specs.Dialogue.{Question, Outcome, Gave, Faulted, Handler, handle}
use Rattle.rb_meaning_code.specs.Remote.{Server, Reply, Got, Stopped, batch_fuel}
use Rattle.rb_meaning_code.specs.Statements.{performs_all}
use Rattle.rb_meaning_code.specs.Bodies.{bodies_of}
use Rattle.rb_meaning_flow.specs.Facts.{facts_of}
use Rattle.rb_meaning_flow.specs.Scopes.{opened}
use Rattle.rb_meaning_flow.specs.Outermost.{Outermost, program_batches}
use Rattle.rb_meaning_flow.specs.Programs.{program_marks, is_carried_at}
use Rattle.rb_meaning.specs.RemoteAnswers.{unit_of, answer_of, remote_answer}
use Rattle.rb_meaning.specs.RemotePart.{remote_only}
use Rattle.rb_meaning.specs.State as state
use Rattle.rb_meaning.specs.State.{Outside, shows}

-- the one of these batches that stands at a position
abbrev pub batch_within : List Outermost → ℕ → Option Outermost
batch_within [] at = None
batch_within (b ∷ bs) at = cond (b.at == at) (Some b) (batch_within bs at)

-- the batch of a program at a position, in `main` or in a method
abbrev pub batch_at : Program → ℕ → Option Outermost
batch_at p at = batch_within (program_batches (facts_of p) p) at

-- what surrounds the code, with the server after its answer
abbrev pub with_answer : Outside → Result Value Raised × Server → Result Value Raised × Outside
with_answer s (answer, server) = (answer, record s { server = server })

-- a turn over a List: that of a carried loop takes a unit of the batch's fuel, behind the unit of its own side
abbrev pub list_turn : Bool → ℕ → Outside → Result Value Raised × Outside
list_turn true at s = with_answer s (answer_of (unit_of at s.server))
list_turn false at s = (Ok value.Unit, s)

-- What the code of a batch's body is answered: a line is printed, and what is remote is performed where it stands.
abbrev pub answers_in_batch : Program → Service → Outside → Question → Result Value Raised × Outside
answers_in_batch p service s (ask.Line at bytes) = (Ok value.Unit, shows (state.Line bytes) s)
answers_in_batch p service s (ask.ListTurn at) = list_turn (is_carried_at p at) at s
answers_in_batch p service s question = with_answer s (remote_answer p service s.server question)

-- the surroundings of a batch's body; no batch stands in another
abbrev pub in_batch : Program → Service → Handler Outside
in_batch p service = record { answer = answers_in_batch p service; batch = λ s at l. (Faulted (raised kind at) l, s) }

abbrev pub is_remote_mark : Option Mark → Bool
is_remote_mark (Some Mark.Remote) = true
is_remote_mark _ = false

-- whether a position is that of a part of a remote expression
abbrev pub stands_remote : Program → ℕ → Bool
stands_remote p at = is_remote_mark (get (program_marks p) at)

-- A fault with its side: it is remote where the server answered it, and where it stands in a remote expression, as that of an
-- operator there.
abbrev pub with_side : Program → Raised → Raised
with_side p r = record r { remote = r.remote || stands_remote p r.at }

-- a batch begins: its event, and fresh remote fuel
abbrev pub begun : Outside → Outside
begun s = record { events = s.events ++ state.Batch ∷ []; server = record { table = s.server.table; fuel = batch_fuel } }

abbrev pub server_after : {A : Type 0} → Reply A → Server
server_after (Got a s) = s
server_after (Stopped at f s) = s

-- the table after a fault: a remote one leaves it as it is, a local one leaves that of the whole remote part
abbrev pub table_after : Raised → List Object → List Object → List Object
table_after r table whole = cond r.remote table whole

-- a fault of a batch, back outside
abbrev pub faults : Raised → Local → List Object → Outside → Outcome (Unit {0}) × Outside
faults r l whole s = (Faulted r l, record s { server = record { table = table_after r s.server.table whole; fuel = s.server.fuel } })

-- back outside of the batch, whose names are gone
abbrev pub settles : Program → ℕ → List Object → Outcome (Unit {0}) × Outside → Outcome (Unit {0}) × Outside
settles p count whole (Gave u l, s) = (Gave u (closed count l), s)
settles p count whole (Faulted r l, s) = faults (with_side p r) (closed count l) whole s

-- the table that a batch's whole remote part leaves, from the names and the server of its start
abbrev pub whole_table : Program → Service → Outermost → Local → Server → List Object
whole_table p service b l server = (server_after (remote_only p service (opened b.outer b.at b.root b.block) b.block l.names server)).table

-- A batch: it is begun, its root is bound, and its body is performed.
abbrev pub performs_batch : Program → Service → Outermost → Local → Outside → Outcome (Unit {0}) × Outside
performs_batch p service b l s =
    let start = bound b.root (value.Remote service.root) l in
    settles p (length l.names) (whole_table p service b start (begun s).server)
    (handle (in_batch p service) (performs_all (bodies_of p.classes l.fuel) l.fuel b.block start) (begun s))
