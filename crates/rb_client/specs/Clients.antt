-- Where a client stands in its run, and what its World answers: what the surroundings of the definition do.
use Rattle.std.specs.Prelude.{◌≡◌, ℕ, List, [], ◌∷◌, ◌++◌, length, true, false, Option, None, Some, Result, Ok, Err}
use Rattle.std.specs.Borrow.{MutBor}
use Rattle.rb_trees.specs.declared.remainders.Split.{Split}
use Rattle.rb_trees.specs.mirror.Declarations.{Program, mirror_program}
use Rattle.rb_trees.specs.mirror.Forests.{Node}
use Rattle.rb_meaning_bytes.specs.formats.Messages.{Sent}
use Rattle.rb_meaning_bytes.specs.formats.ScriptPayloads.{Means}
use Rattle.rb_meaning_bytes.specs.formats.Payloads.{IsRequestOf}
use Rattle.rb_meaning_code.specs.Dialogue as ask
use Rattle.rb_meaning_code.specs.Dialogue.{Question}
use Rattle.rb_meaning_code.specs.State.{Local, Names}
use Rattle.rb_meaning.specs.Links.{Behind}
use Rattle.rb_meaning.specs.Shown.{line, shown_events}
use Rattle.rb_meaning.specs.State.{Event}
use Rattle.rb_meaning.specs.Unsplit.{batch_at}
use Rattle.rb_meaning_flow.specs.Outermost.{Outermost}
use Rattle.rb_meaning_split.specs.Client.{Waiting, answers_waiting, are_too_many, input_values, performs_divided, sent_version, sent_for}
use Rattle.rb_meaning_split.specs.Division.{Division, division, mirror_split}
use Rattle.rb_base.specs.Sinks.{with_bytes}
use Rattle.rb_base.specs.declared.links.Link as links
use Rattle.rb_base.specs.declared.links.Reply.{Reply}
use Rattle.rb_base.specs.declared.sinks.Sink as sinks
use Rattle.rb_engine.specs.Answers.{Answer, Performed}
use Rattle.rb_client.specs.Demands.{demand_of}
use Rattle.rb_client.specs.Replies.{Replied}
use Rattle.rb_client.specs.Requests.{to_send}
use Rattle.rb_client.specs.Runs.{ExchangedAll, FailsInBatch, FailsToWrite, GivesNone, with_batch}
use Rattle.rb_client.specs.Scenes.{Scene, scene}
use Rattle.rb_client.specs.Servers.{PerformedAll}
use Rattle.rb_client.specs.Serving.{AsFound, Counts, CountsOne, GivesMisfit, MayPerform}
use Rattle.rb_client.specs.declared.client_world.ClientWorld.{ClientWorld}
use Rattle.rb_client.specs.declared.stops.RunStop.{RunStop}
use Rattle.rb_client.specs.declared.stops.RunStop.TheVariants as stops

-- what a client did so far: its events, the scripts that it sent, and the nodes that were replied
pub record Past : Type 0 where
  pub events : List Event
  pub sent : List Sent
  pub nodes : List Node

abbrev pub nothing_yet : Past
nothing_yet = record { events = []; sent = []; nodes = [] }

-- that as the state of the definition's surroundings, where these nodes are still to come
abbrev pub waiting : Past → List Node → Waiting
waiting h nodes = record { events = h.events; sent = h.sent; nodes = nodes }

-- the past after a question
abbrev pub asked : Question → Past → Past
asked q h = record h { events = (answers_waiting (waiting h []) q).1.events }

-- the past after a batch of this division, for which this node was replied
abbrev pub performed_past : Program → Division → Local → Past → Node → Past
performed_past p d l h n = record {
  events = with_batch p d l h.events n;
  sent = h.sent ++ sent_for d l ∷ [];
  nodes = h.nodes ++ n ∷ [];
}

-- The client did this between the scenes: it was written, and exchanged. No exchange failed, nor is one of those that fail.
pub record HasDone (p : Program) (before after : Scene) (h : Past) : Type 0 where
  pub written : after.out ≡ with_bytes before.out (shown_events h.events)
  pub exchanged : ExchangedAll p before after h.sent h.nodes
  pub faults_so : after.faults ≡ before.faults
  pub counts : Counts (length h.sent) before.server after.server

-- A write failed in what a question shows: it is a line.
abbrev pub FailsToAnswer : Program → Scene → Scene → Past → Question → Type 0
FailsToAnswer p before after h (ask.Line at bytes) = FailsToWrite p before after h.events (line bytes) h.sent h.nodes
FailsToAnswer p before after h _ = ⊥

-- What an exchange that gave no node did to the server: it is one of those that fail just where it failed. Over an honest link
-- the script may have been performed where it failed, on the table that it found, and else its node doesn't fit.
abbrev pub Lost : Type 0 → Type 0 → Division → Local → RunStop → Option Behind → Option Behind → Type 0
Lost honest quiet d l (stops.LinkFault k) server after =
    CountsOne true server after × AsFound honest quiet (λ Found. MayPerform Found server after (sent_for d l))
Lost honest quiet d l (stops.BadReply k why kind bytes) server after =
    CountsOne false server after × (honest → GivesMisfit server (sent_for d l) (demand_of d l))
Lost honest quiet d l stops.WriteFault server after = ⊥
Lost honest quiet d l stops.Memory server after = ⊥

-- At a batch that was reached with this past the exchange gave no node. Its inputs don't have too many items. Nothing was written
-- since. Whether the link lends a table is kept.
pub record StopsAt (p : Program) (before after : Scene) (h : Past) (d : Division) (l : Local) (stop : RunStop) : Type 0 where
  pub begins : are_too_many d l ≡ false
  pub server : Option Behind
  pub written : after.out ≡ with_bytes before.out (shown_events h.events)
  pub gives_none : GivesNone p d l stop before after h.sent h.nodes
  pub lends_so : after.lends ≡ before.lends
  pub counts : Counts (length h.sent) before.server server
  pub served : before.honest → PerformedAll before.quiet before.server server h.sent h.nodes
  pub lost : Lost before.honest before.quiet d l stop server after.server

-- A batch was cut off: by a failed write within its own events, or before them by its exchange.
abbrev pub StopsIn : Program → Scene → Scene → Past → Division → Local → RunStop → Type 0
StopsIn p before after h d l stops.WriteFault = FailsInBatch p before after d l (waiting h []) h.nodes
StopsIn p before after h d l stop = StopsAt p before after h d l stop

-- what a client runs with: its program, and its link and its output as they stood at the start
pub record Origin (L W : Type 0) : Type 0 where
  pub program : Program
  pub link : MutBor L
  pub out : MutBor W

-- the scene at the start, and that of a World
abbrev pub first_scene : {L W : Type 0} → links.Ghosts L → sinks.Ghosts W → Origin L W → Scene
first_scene gl gw o = scene gl gw o.link.now o.out.now

abbrev pub scene_of : {L W : Type 0} → links.Ghosts L → sinks.Ghosts W → ClientWorld L W → Scene
scene_of gl gw w = scene gl gw w.link.now w.out.now

-- The World holds the output and the link of the start.
pub record HoldsBoth {L W : Type 0} (o : Origin L W) (w : ClientWorld L W) : Type 0 where
  pub same_output : w.out.ghost_name ≡ o.out.ghost_name
  pub same_link : w.link.ghost_name ≡ o.link.ghost_name

-- The World has done this since the start, and counted its exchanges.
pub record SeesClient {L W : Type 0} (gl : links.Ghosts L) (gw : sinks.Ghosts W) (o : Origin L W) (w : ClientWorld L W) (h : Past) : Type 0 where
  pub program_so : mirror_program w.plan.now.program ≡ o.program
  pub holds : HoldsBoth o w
  pub done : HasDone o.program (first_scene gl gw o) (scene_of gl gw w) h
  pub exchanges_so : w.exchanges ≡ length h.sent

-- What code outside of batches is answered: as the definition answers it, whatever nodes are to come; or a write failed.
abbrev pub AnsweredAs : {L W : Type 0} → links.Ghosts L → sinks.Ghosts W → Origin L W → Past → Question → Answer RunStop → ClientWorld L W → Type 0
AnsweredAs gl gw o h q (Ok a) w = (h1 : Past) × SeesClient gl gw o w h1 × (h1.nodes ≡ h.nodes) × ((more : List Node) → answers_waiting (waiting h more) q ≡ (a, waiting h1 more))
AnsweredAs gl gw o h q (Err stop) w = (stop ≡ stops.WriteFault) × HoldsBoth o w × FailsToAnswer o.program (first_scene gl gw o) (scene_of gl gw w) h q

abbrev pub client_answers : {L W : Type 0} → links.Ghosts L → sinks.Ghosts W → ClientWorld L W → Question → Answer RunStop → ClientWorld L W → Type 0
client_answers {L = L} {W = W} gl gw w q a w' = (o : Origin L W) (h : Past) → SeesClient gl gw o w h → AnsweredAs gl gw o h q a w'

-- How a batch that was found is performed: as the definition performs it, on the nodes that were replied for it, whatever
-- nodes are to come then; or it is cut off. Nothing is said after want of memory.
abbrev pub PerformedAs : {L W : Type 0} → links.Ghosts L → sinks.Ghosts W → Origin L W → Past → Option Outermost → ℕ → Local → Performed RunStop → ClientWorld L W → Type 0
PerformedAs gl gw o h b at l (Ok e) w =
    (ns : List Node) × (h1 : Past) × SeesClient gl gw o w h1 × (h1.nodes ≡ h.nodes ++ ns) × ((more : List Node) → performs_divided o.program b at l (waiting h (ns ++ more)) ≡ (e, waiting h1 more))
PerformedAs gl gw o h b at l (Err stops.Memory) w = Unit {0}
PerformedAs gl gw o h None at l (Err stop) w = ⊥
PerformedAs gl gw o h (Some b) at l (Err stop) w = HoldsBoth o w × StopsIn o.program (first_scene gl gw o) (scene_of gl gw w) h (division o.program b) l stop

abbrev pub client_performs : {L W : Type 0} → links.Ghosts L → sinks.Ghosts W → ClientWorld L W → ℕ → Local → Performed RunStop → ClientWorld L W → Type 0
client_performs {L = L} {W = W} gl gw w at l e w' = (o : Origin L W) (h : Past) → SeesClient gl gw o w h → PerformedAs gl gw o h (batch_at o.program at) at l e w'

-- A batch of the program was performed, whose division the code has.
abbrev pub PerformsSplit : {L W : Type 0} → links.Ghosts L → sinks.Ghosts W → Split → ClientWorld L W → Local → Performed RunStop → ClientWorld L W → Type 0
PerformsSplit {L = L} {W = W} gl gw split w l e w' = (o : Origin L W) (h : Past) (b : Outermost) → SeesClient gl gw o w h → batch_at o.program split.at ≡ Some b → mirror_split split ≡ division o.program b
    → PerformedAs gl gw o h (Some b) split.at l e w'

-- The exchange of a batch: its request was sent over the same link, and all else stands.
pub record Fetched {L W : Type 0} (gl : links.Ghosts L) (split : Split) (names : Names) (w : ClientWorld L W) (result : Result Reply RunStop) (w' : ClientWorld L W) : Type 0 where
  pub request : List ℕ
  pub request_so : IsRequestOf sent_version request (mirror_split split).script (input_values split.inputs names)
  pub means : Means request (Ok (to_send split names))
  pub replied : Replied gl w.exchanges request w.link.now result w'.link.now
  pub same_link : w'.link.ghost_name ≡ w.link.ghost_name
  pub same_plan : w'.plan ≡ w.plan
  pub same_output : w'.out ≡ w.out
  pub same_count : w'.exchanges ≡ w.exchanges

-- the same, unless memory ran out
abbrev pub Fetches : {L W : Type 0} → links.Ghosts L → Split → Names → ClientWorld L W → Result Reply RunStop → ClientWorld L W → Type 0
Fetches gl split names w (Err stops.Memory) w' = Unit {0}
Fetches gl split names w result w' = Fetched gl split names w result w'
