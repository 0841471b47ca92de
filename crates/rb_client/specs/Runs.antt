-- What the run of a client leaves, over any link.
use Rattle.std.specs.Prelude.{◌≡◌, ◌⊎◌, ℕ, suc, List, [], ◌∷◌, ◌++◌, length, map, false, Option, Some, Result, Ok, Err}
use Rattle.rb_trees.specs.declared.declarations.Program as program
use Rattle.rb_trees.specs.declared.outcomes.Raised.{Raised}
use Rattle.rb_trees.specs.declared.outcomes.Run.{Run}
use Rattle.rb_trees.specs.declared.remainders.Split.{Split}
use Rattle.rb_trees.specs.declared.values.Value.{Value}
use Rattle.rb_trees.specs.mirror.Declarations.{Program, mirror_program}
use Rattle.rb_trees.specs.mirror.Forests.{Node}
use Rattle.rb_meaning_bytes.specs.formats.Messages.{Sent}
use Rattle.rb_meaning_bytes.specs.formats.Payloads.{IsRequestOf}
use Rattle.rb_meaning_code.specs.Dialogue as ask
use Rattle.rb_meaning_code.specs.Dialogue.{Outcome, Dialogue, Ask, AskBatch}
use Rattle.rb_meaning_code.specs.State.{Local}
use Rattle.rb_meaning.specs.Links.{Pair}
use Rattle.rb_meaning.specs.Shown.{line, shown_events}
use Rattle.rb_meaning.specs.State as state
use Rattle.rb_meaning.specs.State.{Event}
use Rattle.rb_meaning.specs.Unsplit.{batch_at}
use Rattle.rb_meaning_flow.specs.Outermost.{Outermost}
use Rattle.rb_meaning_split.specs.Client.{Waiting, are_too_many, client, replays, sent_for}
use Rattle.rb_meaning_split.specs.Division.{Division, division, divisions, mirror_split}
use Rattle.rb_law_division.specs.Sendable.{HasPlaces}
use Rattle.rb_flow.specs.Program.{HasNoRefusal}
use Rattle.rb_law_client.specs.Reached.{ClientComesTo}
use Rattle.rb_base.specs.Counts.{risen}
use Rattle.rb_base.specs.Devices.{Device, failed}
use Rattle.rb_base.specs.Sinks.{with_bytes, WrotePrefix}
use Rattle.rb_client.specs.Demands.{demand_of}
use Rattle.rb_client.specs.Exchanges.{Exchanged, Exchanges}
use Rattle.rb_client.specs.Replies.{HasReason, more_pairs, pair_of, refused_pairs}
use Rattle.rb_client.specs.Scenes.{Scene}
use Rattle.rb_client.specs.Servers.{FailsAfter, NoneFails, PerformedAll}
use Rattle.rb_client.specs.declared.stops.BadReason.{BadReason}
use Rattle.rb_client.specs.declared.stops.RunStop.{RunStop}
use Rattle.rb_client.specs.declared.stops.RunStop.TheVariants as stops

-- A program is accepted, its batches have these divisions in source order, and each of its places has 32 bits.
pub record IsAcceptedWith (p : program.Program) (splits : List Split) : Type 0 where
  pub none : HasNoRefusal (mirror_program p)
  pub divided : divisions (mirror_program p) ≡ Ok (map mirror_split splits)
  pub places : HasPlaces (mirror_program p)

-- Scripts were exchanged for nodes: the pairs that the link tells grew by one for each script. Whether the link lends a table is
-- kept. Where it was honest or quiet it is so still; where it was honest its server performed the scripts.
pub record ExchangedAll (p : Program) (before after : Scene) (sent : List Sent) (nodes : List Node) : Type 0 where
  pub exchanged : Exchanged p before.pairs after.pairs sent nodes
  pub lends_so : after.lends ≡ before.lends
  pub stays : before.honest → after.honest
  pub stays_quiet : before.quiet → after.quiet
  pub served : before.honest → PerformedAll before.quiet before.server after.server sent nodes

-- The client ran on the nodes that were replied: it ended so, with so many exchanges; its lines were written, and its scripts
-- were exchanged for those nodes. No exchange failed.
pub record Ran (p : Program) (fuel : ℕ) (run : Run) (before after : Scene) : Type 0 where
  pub nodes : List Node
  pub ending_so : run.ending ≡ (client p fuel nodes).ending
  pub exchanges_so : run.exchanges ≡ length (client p fuel nodes).sent
  pub written : after.out ≡ with_bytes before.out (shown_events (client p fuel nodes).events)
  pub exchanged : ExchangedAll p before after (client p fuel nodes).sent nodes
  pub faults_so : after.faults ≡ before.faults

-- A write failed within the piece that comes after what these events show: all of that was written, and a front of the piece.
abbrev pub FailsWithin : Device (List ℕ) → Device (List ℕ) → List Event → List ℕ → Type 0
FailsWithin before after events piece = WrotePrefix (failed (with_bytes before (shown_events events))) after piece

-- So a write failed. By then these scripts were exchanged for these nodes, and no other. No exchange failed, and none of those that
-- were made is listed to fail.
pub record FailsToWrite (p : Program) (before after : Scene) (events : List Event) (piece : List ℕ) (sent : List Sent) (nodes : List Node) : Type 0 where
  pub written : FailsWithin before.out after.out events piece
  pub exchanged : ExchangedAll p before after sent nodes
  pub faults_so : after.faults ≡ before.faults
  pub none_listed : NoneFails (length sent) before.server

-- On the nodes that were replied a client reaches a batch, in this local state, and no node is left.
pub record Reaches (p : Program) (fuel : ℕ) (nodes : List Node) (w : Waiting) (b : Outermost) (l : Local) : Type 0 where
  pub at : ℕ
  pub go : Outcome (Unit {0}) → Dialogue (Outcome (Option Value))
  pub stands : batch_at p at ≡ Some b
  pub comes : ClientComesTo p fuel nodes (AskBatch at l go) w

-- On the nodes that were replied a client came to a line, in which a write failed. The exchanges made are those before it.
pub record CutAtLine (p : Program) (fuel : ℕ) (before after : Scene) : Type 0 where
  pub nodes : List Node
  pub past : Waiting
  pub at : ℕ
  pub bytes : List ℕ
  pub go : Result Value Raised → Dialogue (Outcome (Option Value))
  pub comes : ClientComesTo p fuel nodes (Ask (ask.Line at bytes) go) past
  pub fails : FailsToWrite p before after past.events (line bytes) past.sent nodes

-- the events at the end of a batch: those before it, its own event, and those of its remainder on the node that was replied
abbrev pub with_batch : Program → Division → Local → List Event → Node → List Event
with_batch p d l events n = (replays p d l (events ++ state.Batch ∷ []) n).events

-- A write failed within the batch's own events on a node, which was replied for its script. Its inputs don't have too many items.
-- The exchanges made are those before the batch, for these nodes, and the batch's.
pub record FailsInBatch (p : Program) (before after : Scene) (d : Division) (l : Local) (past : Waiting) (nodes : List Node) : Type 0 where
  pub begins : are_too_many d l ≡ false
  pub node : Node
  pub own : List Event
  pub own_so : with_batch p d l past.events node ≡ past.events ++ own
  pub fails : FailsToWrite p before after past.events (shown_events own) (past.sent ++ sent_for d l ∷ []) (nodes ++ node ∷ [])

-- So it was in a batch that the client reached.
pub record CutInBatch (p : Program) (fuel : ℕ) (before after : Scene) : Type 0 where
  pub nodes : List Node
  pub past : Waiting
  pub batch : Outermost
  pub local : Local
  pub reaches : Reaches p fuel nodes past batch local
  pub fails : FailsInBatch p before after (division p batch) local past nodes

-- A write failed: at a line of the client, or in what one of its batches shows.
abbrev pub CutInWriting : Program → ℕ → Scene → Scene → Type 0
CutInWriting p fuel before after = CutAtLine p fuel before after ⊎ CutInBatch p fuel before after

-- The pairs grew by one for each script that was sent before, and by that of the reply that was refused, where its frame is
-- whole. Its request is the script of this division with the values of its inputs.
pub record ExchangedBut (p : Program) (before after : Option (List Pair)) (sent : List Sent) (nodes : List Node) (asked : Sent) (why : BadReason) (kind : ℕ) (bytes : List ℕ) : Type 0 where
  pub pairs : List Pair
  pub request : List ℕ
  pub request_so : IsRequestOf asked.version request asked.script asked.values
  pub pairs_so : after ≡ more_pairs (refused_pairs why (pair_of request kind bytes)) (more_pairs pairs before)
  pub exchanges : Exchanges p pairs sent nodes

-- Why an exchange gave no node, after those of these scripts for these nodes: it failed, which the link counted; or its reply was
-- refused for its reason.
abbrev pub GivesNone : Program → Division → Local → RunStop → Scene → Scene → List Sent → List Node → Type 0
GivesNone p d l (stops.LinkFault k) before after sent nodes =
    (k ≡ length sent) × Exchanged p before.pairs after.pairs sent nodes × (after.faults ≡ risen before.faults)
GivesNone p d l (stops.BadReply k why kind bytes) before after sent nodes =
    (k ≡ length sent) × HasReason why (demand_of d l) kind bytes
    × ExchangedBut p before.pairs after.pairs sent nodes (sent_for d l) why kind bytes × (after.faults ≡ before.faults)
GivesNone p d l stops.WriteFault before after sent nodes = ⊥
GivesNone p d l stops.Memory before after sent nodes = ⊥

-- At a batch that the client reached, its exchange gave no node. Its inputs don't have too many items. The lines are those before
-- that batch. Whether the link lends a table is kept.
pub record CutAtBatch (p : Program) (fuel : ℕ) (stop : RunStop) (before after : Scene) : Type 0 where
  pub nodes : List Node
  pub past : Waiting
  pub batch : Outermost
  pub local : Local
  pub reaches : Reaches p fuel nodes past batch local
  pub begins : are_too_many (division p batch) local ≡ false
  pub written : after.out ≡ with_bytes before.out (shown_events past.events)
  pub gives_none : GivesNone p (division p batch) local stop before after past.sent nodes
  pub lends_so : after.lends ≡ before.lends

-- A run over any link: the client ran, or was cut off. Nothing is said after want of memory.
abbrev pub RunsOver : Program → ℕ → Result Run RunStop → Scene → Scene → Type 0
RunsOver p fuel (Ok run) before after = Ran p fuel run before after
RunsOver p fuel (Err stops.WriteFault) before after = CutInWriting p fuel before after
RunsOver p fuel (Err stops.Memory) before after = Unit {0}
RunsOver p fuel (Err stop) before after = CutAtBatch p fuel stop before after

-- An exchange fails exactly where it is listed: none of those that got a reply is, refused or not, and the one that failed is.
-- Where a write failed, `FailsToWrite` says so of those that were made by then.
abbrev pub FailsAsListed : Result Run RunStop → Scene → Scene → Type 0
FailsAsListed (Ok run) before after = NoneFails run.exchanges before.server
FailsAsListed (Err (stops.LinkFault k)) before after = NoneFails k before.server × FailsAfter k before.server
FailsAsListed (Err (stops.BadReply k why kind bytes)) before after = NoneFails (suc k) before.server
FailsAsListed (Err stops.WriteFault) before after = Unit {0}
FailsAsListed (Err stops.Memory) before after = Unit {0}
