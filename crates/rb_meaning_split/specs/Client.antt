-- The client: a program whose batches are divided. At each batch its event is shown, and its remainder is performed on the next
-- of the nodes that the scripts gave.
use Rattle.std.specs.Prelude.{ℕ, List, [], ◌∷◌, ◌++◌, length, map, Bool, true, false, nat_lt, Option, None, Some, Result}
use Rattle.rb_trees.specs.Named.{lookup}
use Rattle.rb_trees.specs.declared.values.Value.{Value}
use Rattle.rb_trees.specs.declared.values.Value.TheVariants as value
use Rattle.rb_trees.specs.declared.versions.Version.{Version}
use Rattle.rb_trees.specs.declared.versions.Version.TheVariants.{Two}
use Rattle.rb_trees.specs.declared.outcomes.Raised.{Raised}
use Rattle.rb_trees.specs.declared.outcomes.Ending as ending
use Rattle.rb_trees.specs.mirror.Declarations.{Program}
use Rattle.rb_trees.specs.mirror.Forests.{Node}
use Rattle.rb_meaning_bytes.specs.Fits.{Unfit, fits}
use Rattle.rb_meaning_bytes.specs.formats.Items.{items_of, count_items, most_items}
use Rattle.rb_meaning_bytes.specs.formats.Messages.{Sent}
use Rattle.rb_meaning_code.specs.Faults.{kind, input_too_large, raised}
use Rattle.rb_meaning_code.specs.State.{Names, Local, closed}
use Rattle.rb_meaning_code.specs.Dialogue as ask
use Rattle.rb_meaning_code.specs.Dialogue.{Question, Outcome, Gave, Faulted, Handler, handle}
use Rattle.rb_meaning_flow.specs.Outermost.{Outermost}
use Rattle.rb_meaning.specs.State as state
use Rattle.rb_meaning.specs.State.{Event}
use Rattle.rb_meaning.specs.Unsplit.{batch_at}
use Rattle.rb_meaning.specs.Meaning.{local_answer, runs_main, ending_of, at_start}
use Rattle.rb_meaning_split.specs.Division.{Division, division}
use Rattle.rb_meaning_split.specs.Replay.{Replayed, ended, replay_all}

-- the value of a name, as a batch takes it for an input; each input has one
abbrev pub value_or_unit : Option Value → Value
value_or_unit (Some v) = v
value_or_unit None = value.Unit

-- the values of a batch's inputs at its start
abbrev pub input_values : List (List ℕ) → Names → List Value
input_values [] names = []
input_values (name ∷ inputs) names = value_or_unit (lookup names name) ∷ input_values inputs names

-- how many items the inputs have; what is no list has none
abbrev pub lengths : List Value → List ℕ
lengths values = map items_of values

-- whether a node fits what a batch leaves to the client that begins in a local state, or what doesn't
abbrev pub fits_batch : Division → Local → Node → Result (Unit {0}) Unfit
fits_batch d l n = fits n d.remainder (lengths (input_values d.inputs l.names))

-- the names of a batch are gone at its end
abbrev pub left : ℕ → Outcome (Unit {0}) → Outcome (Unit {0})
left count (Gave u l) = Gave u (closed count l)
left count (Faulted r l) = Faulted r (closed count l)

-- a batch's remainder on a node, from the local state and the events of its start, its own event among them
abbrev pub replays : Program → Division → Local → List Event → Node → Replayed
replays p d l events n =
    let r = replay_all p.classes l.fuel d.remainder l (record { events = events; node = n }) ended in
    record r { outcome = left (length l.names) r.outcome }

-- what surrounds a client's code: the events so far, the scripts that were sent, and the nodes that are still to come
pub record Waiting : Type 0 where
  pub events : List Event
  pub sent : List Sent
  pub nodes : List Node

-- what code outside of a batch shows: a line is printed
abbrev pub answers_waiting : Waiting → Question → Result Value Raised × Waiting
answers_waiting s (ask.Line at bytes) = (local_answer (ask.Line at bytes), record s { events = s.events ++ state.Line bytes ∷ [] })
answers_waiting s question = (local_answer question, s)

abbrev pub with_replayed : Replayed → Waiting → Outcome (Unit {0}) × Waiting
with_replayed r s = (r.outcome, record s { events = r.events })

-- the version in which the client sends
abbrev pub sent_version : Version
sent_version = Two

-- what is sent for a batch, from the names of its start
abbrev pub sent_for : Division → Local → Sent
sent_for d l = record { version = sent_version; script = d.script; values = input_values d.inputs l.names }

-- A batch begins: its event, and its script is sent.
abbrev pub begins : Division → Local → Waiting → Waiting
begins d l s = record s { events = s.events ++ state.Batch ∷ []; sent = s.sent ++ sent_for d l ∷ [] }

-- a batch that was begun, on the next node; without one it ends by Kind
abbrev pub replays_next : Program → Division → Local → Waiting → List Node → Outcome (Unit {0}) × Waiting
replays_next p d l s [] = (Faulted (raised kind d.at) l, s)
replays_next p d l s (n ∷ nodes) = with_replayed (replays p d l s.events n) (record s { nodes = nodes })

-- whether the inputs of a batch have more items together than a request may have
abbrev pub are_too_many : Division → Local → Bool
are_too_many d l = nat_lt most_items (count_items (input_values d.inputs l.names))

-- a batch with too many items ends by a fault of its own side before it begins, and sends nothing
abbrev pub begins_or_faults : Bool → Program → Outermost → Local → Waiting → Outcome (Unit {0}) × Waiting
begins_or_faults true p b l s = (Faulted (raised input_too_large b.at) l, s)
begins_or_faults false p b l s = let begun = begins (division p b) l s in replays_next p (division p b) l begun begun.nodes

-- a batch that was found, as one is wherever a program asks for a batch
abbrev pub performs_divided : Program → Option Outermost → ℕ → Local → Waiting → Outcome (Unit {0}) × Waiting
performs_divided p None at l s = (Faulted (raised kind at) l, s)
performs_divided p (Some b) at l s = begins_or_faults (are_too_many (division p b) l) p b l s

abbrev pub in_client : Program → Handler Waiting
in_client p = record { answer = answers_waiting; batch = λ s at l. performs_divided p (batch_at p at) at l s }

-- how a client ends, what it shows, and what it sends
pub record Heard : Type 0 where
  pub ending : ending.Ending
  pub events : List Event
  pub sent : List Sent

abbrev pub heard : Outcome (Option Value) × Waiting → Heard
heard r = record { ending = ending_of r.0; events = r.1.events; sent = r.1.sent }

-- the client of a program with so much fuel, on the nodes of the replies in order
abbrev pub client : Program → ℕ → List Node → Heard
client p fuel nodes = heard (handle (in_client p) (runs_main p.classes fuel p.body (at_start fuel)) (record { events = []; sent = []; nodes = nodes }))
