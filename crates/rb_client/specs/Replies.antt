-- What a client reads in a reply, and what an exchange gives it.
use Rattle.std.specs.Prelude.{◌≡◌, ℕ, List, [], ◌∷◌, ◌++◌, length, true, false, Option, Some, option_map, Result, Ok, Err}
use Rattle.rb_trees.specs.mirror.Forests.{Node}
use Rattle.rb_meaning_bytes.specs.Fits.{Unfit}
use Rattle.rb_meaning_bytes.specs.formats.Formats.{FirstViolation}
use Rattle.rb_meaning_bytes.specs.formats.Forests.{forest_message}
use Rattle.rb_meaning_bytes.specs.formats.Messages.{Sent}
use Rattle.rb_meaning_bytes.specs.formats.Payloads as bytes_of
use Rattle.rb_meaning_bytes.specs.formats.ScriptPayloads.{Means}
use Rattle.rb_meaning.specs.Answers.{forest_kind, refusal_kind}
use Rattle.rb_meaning.specs.Links.{Behind, Pair, pairs_told}
use Rattle.rb_meaning.specs.Replies.{BreaksAt, IsCut}
use Rattle.rb_base.specs.Counts.{risen}
use Rattle.rb_base.specs.Links.{Finds, IsReplyKind}
use Rattle.rb_base.specs.declared.links.Link as links
use Rattle.rb_base.specs.declared.links.Reply.{Reply}
use Rattle.rb_wire_forest.specs.Misfits.{unfit}
use Rattle.rb_wire_forest.specs.Opened.{root_of}
use Rattle.rb_wire_forest.specs.declared.forest.Forest.{Forest}
use Rattle.rb_client.specs.Demands.{Demand, meets}
use Rattle.rb_client.specs.Serving.{AsFound, CountsOne, GivesMisfit, GivesReply, MayPerform, server_of}
use Rattle.rb_client.specs.declared.stops.BadReason.{BadReason}
use Rattle.rb_client.specs.declared.stops.BadReason.TheVariants as reason
use Rattle.rb_client.specs.declared.stops.RunStop.{RunStop}
use Rattle.rb_client.specs.declared.stops.RunStop.TheVariants as stops

-- A payload is the forest of a node, in either version, that meets a demand.
pub record IsForest (demand : Demand) (kind : ℕ) (payload : List ℕ) (n : Node) : Type 0 where
  pub kind_so : kind ≡ forest_kind
  pub spells : bytes_of.IsForest payload n
  pub fits_so : meets demand n ≡ Ok tt

-- A payload is the forest of a node that doesn't meet a demand, for this cause.
pub record IsMisfit (demand : Demand) (kind : ℕ) (payload : List ℕ) (cause : Option Unfit) : Type 0 where
  pub node : Node
  pub why : Unfit
  pub kind_so : kind ≡ forest_kind
  pub spells : bytes_of.IsForest payload node
  pub misfits : meets demand node ≡ Err why
  pub cause_so : cause ≡ Some why

-- A reply has this reason to be refused: by its kind and its payload, or by the bytes that were taken.
abbrev pub HasReason : BadReason → Demand → ℕ → List ℕ → Type 0
HasReason (reason.Cut got) demand kind bytes = (kind ≡ 0) × (got ≡ length bytes) × IsCut bytes
HasReason (reason.Frame at) demand kind bytes = (kind ≡ 0) × BreaksAt at bytes
HasReason (reason.Forest number at) demand kind bytes = (kind ≡ forest_kind) × FirstViolation forest_message bytes number at
HasReason (reason.Misfit misfit) demand kind bytes = IsMisfit demand kind bytes (unfit misfit)
HasReason (reason.Refused number at) demand kind bytes = (kind ≡ refusal_kind) × bytes_of.IsRefusal bytes number at
HasReason reason.Garbled demand kind bytes = (kind ≡ refusal_kind) × ((number at : ℕ) → bytes_of.IsRefusal bytes number at → ⊥)

-- No other node has this forest.
abbrev pub IsAlone : List ℕ → Node → Type 0
IsAlone payload n = (other : Node) → bytes_of.IsForest payload other → other ≡ n

-- A reply is no forest of a node that meets a demand.
abbrev pub GivesNoNode : Demand → ℕ → List ℕ → Type 0
GivesNoNode demand kind payload = (n : Node) → IsForest demand kind payload n → ⊥

-- What is read in a whole reply: the forest of its one node, or why it is refused, which is no matter of its frame.
abbrev pub Reads : Demand → ℕ → List ℕ → Result Forest BadReason → Type 0
Reads demand kind payload (Ok f) = IsForest demand kind payload (root_of f) × IsAlone payload (root_of f)
Reads demand kind payload (Err (reason.Cut got)) = ⊥
Reads demand kind payload (Err (reason.Frame at)) = ⊥
Reads demand kind payload (Err why) = HasReason why demand kind payload × GivesNoNode demand kind payload

-- the same as an answer after so many exchanges, which keeps the kind and the payload
abbrev pub Takes : Demand → ℕ → ℕ → List ℕ → Result Forest RunStop → Type 0
Takes demand done kind payload (Ok f) = Reads demand kind payload (Ok f)
Takes demand done kind payload (Err (stops.LinkFault k)) = ⊥
Takes demand done kind payload (Err (stops.BadReply k why kept bytes)) = (k ≡ done) × (kept ≡ kind) × (bytes ≡ payload) × Reads demand kind payload (Err why)
Takes demand done kind payload (Err stops.WriteFault) = ⊥
Takes demand done kind payload (Err stops.Memory) = Unit {0}

-- with these pairs more, where the link tells
abbrev pub more_pairs : List Pair → Option (List Pair) → Option (List Pair)
more_pairs more pairs = option_map (λ ps. ps ++ more) pairs

abbrev pub pair_of : List ℕ → ℕ → List ℕ → Pair
pair_of request kind reply = record { request = request; kind = kind; reply = reply }

-- the pairs that are more after a reply that was refused: it is one where its frame is whole
abbrev pub refused_pairs : BadReason → Pair → List Pair
refused_pairs (reason.Cut got) pair = []
refused_pairs (reason.Frame at) pair = []
refused_pairs _ pair = pair ∷ []

abbrev pub pairs_of : {L : Type 0} → links.Ghosts L → L → Option (List Pair)
pairs_of g link = pairs_told (g.told link)

-- This holds of the servers that a link tells before and after, and of the script that a request means, as requests find tables over
-- the link.
abbrev pub WhereSent : {L : Type 0} → links.Ghosts L → List ℕ → L → L → (Finds → Option Behind → Option Behind → Sent → Type 0) → Type 0
WhereSent g request before after Holds =
    (x : Sent) → Means request (Ok x) → AsFound (g.honest before) (g.quiet before) (λ Found. Holds Found (server_of g before) (server_of g after) x)

-- A whole reply came, in a pair more. Whether the link lends a table is kept. Over an honest link the server gave it, by the script
-- that the request means.
pub record GotReply {L : Type 0} (g : links.Ghosts L) (request : List ℕ) (before after : L) (reply : Reply) : Type 0 where
  pub kind_so : IsReplyKind reply.kind
  pub pairs_so : pairs_of g after ≡ more_pairs (pair_of request reply.kind reply.payload.items ∷ []) (pairs_of g before)
  pub faults_so : g.faults after ≡ g.faults before
  pub lends_so : g.lends after ≡ g.lends before
  pub counts : CountsOne false (server_of g before) (server_of g after)
  pub stays : g.honest before → g.honest after
  pub stays_quiet : g.quiet before → g.quiet after
  pub served : WhereSent g request before after (λ Found b a x. GivesReply Found b a x reply.kind reply.payload.items)

-- The exchange failed, which the link counted. Whether it lends a table is kept. Over an honest link the server may have
-- performed the script, and nothing was noted.
pub record GotFault {L : Type 0} (g : links.Ghosts L) (request : List ℕ) (before after : L) : Type 0 where
  pub pairs_so : pairs_of g after ≡ pairs_of g before
  pub faults_so : g.faults after ≡ risen (g.faults before)
  pub lends_so : g.lends after ≡ g.lends before
  pub counts : CountsOne true (server_of g before) (server_of g after)
  pub lost : WhereSent g request before after MayPerform

-- A reply was refused for this reason. Whether the link lends a table is kept. Over an honest link that is so only where the
-- script gives a node that doesn't meet the demand.
pub record GotBad {L : Type 0} (g : links.Ghosts L) (demand : Demand) (request : List ℕ) (before after : L) (why : BadReason) (kind : ℕ) (bytes : List ℕ) : Type 0 where
  pub reason_so : HasReason why demand kind bytes
  pub pairs_so : pairs_of g after ≡ more_pairs (refused_pairs why (pair_of request kind bytes)) (pairs_of g before)
  pub faults_so : g.faults after ≡ g.faults before
  pub lends_so : g.lends after ≡ g.lends before
  pub counts : CountsOne false (server_of g before) (server_of g after)
  pub misfit : g.honest before → (x : Sent) → Means request (Ok x) → GivesMisfit (server_of g before) x demand

-- What an exchange gives, of which so many were before it: a whole reply, or why there is none, whatever is demanded of it.
-- Nothing is said after want of memory.
abbrev pub Replied : {L : Type 0} → links.Ghosts L → ℕ → List ℕ → L → Result Reply RunStop → L → Type 0
Replied g done request before (Ok reply) after = GotReply g request before after reply
Replied g done request before (Err (stops.LinkFault k)) after = (k ≡ done) × GotFault g request before after
Replied g done request before (Err (stops.BadReply k why kind bytes)) after = (k ≡ done) × ((demand : Demand) → GotBad g demand request before after why kind bytes)
Replied g done request before (Err stops.WriteFault) after = ⊥
Replied g done request before (Err stops.Memory) after = Unit {0}
