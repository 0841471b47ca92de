-- What exchanges do to the server that a link tells: how many are made, and what it performs.
use Rattle.std.specs.Prelude.{◌≡◌, ◌⊎◌, ◌<◌, ℕ, List, [], ◌∷◌, Bool, false, Option, None, Some, Ok}
use Rattle.rb_trees.specs.declared.services.Object.{Object}
use Rattle.rb_meaning_bytes.specs.formats.Messages.{Sent}
use Rattle.rb_meaning_bytes.specs.formats.Payloads.{IsForestOf}
use Rattle.rb_meaning.specs.Answers.{forest_kind}
use Rattle.rb_meaning.specs.Links.{Behind, server_told}
use Rattle.rb_law_client.specs.Clients.{sent_run}
use Rattle.rb_base.specs.Links.{Finds, FindsFitting, FindsStanding, IsLater, fails_next}
use Rattle.rb_base.specs.declared.links.Link as links
use Rattle.rb_client.specs.Demands.{Demand, meets}
use Rattle.rb_client.specs.Servers.{HasServed, fails_after, later}

abbrev pub server_of : {L : Type 0} → links.Ghosts L → L → Option Behind
server_of g link = server_told (g.told link)

-- One exchange more was made, which is one of those that fail, or not. Whether the server is told is kept.
abbrev pub CountsOne : Bool → Option Behind → Option Behind → Type 0
CountsOne fails (Some before) (Some after) = (fails_next before ≡ fails) × IsLater before after
CountsOne fails None None = Unit {0}
CountsOne fails _ _ = ⊥

-- the server so many exchanges later, none of which is one of those that fail
pub record IsLaterBy (n : ℕ) (before after : Behind) : Type 0 where
  pub made : after.made ≡ (later n before).made
  pub failing : after.failing ≡ (later n before).failing
  pub none : (k : ℕ) → k < n → fails_after k before ≡ false

-- So many exchanges were made, none of which is one of those that fail. Whether the server is told is kept.
abbrev pub Counts : ℕ → Option Behind → Option Behind → Type 0
Counts n (Some before) (Some after) = IsLaterBy n before after
Counts n None None = Unit {0}
Counts n _ _ = ⊥

-- So it is over an honest link, of requests that find any table that fits; and where it is quiet too, of requests that find the one
-- that stood.
pub record AsFound (honest quiet : Type 0) (Holds : Finds → Type 0) : Type 0 where
  pub fitting : honest → Holds FindsFitting
  pub standing : honest → quiet → Holds FindsStanding

-- the table that a script leaves of the one that it finds, with the values that were sent
abbrev pub table_left : Behind → List Object → Sent → List Object
table_left b found x = (sent_run b.service found x).server.table

-- A script that was sent with its values was lost. It found this table and was performed on it, or not; nothing was noted.
pub record LosesSent (Found : Finds) (before after : Behind) (x : Sent) : Type 0 where
  pub table : List Object
  pub found : Found before table
  pub served : HasServed before after [] [] table ⊎ HasServed before after [] [] (table_left before table x)

-- the same of the server that a link tells
abbrev pub MayPerform : Finds → Option Behind → Option Behind → Sent → Type 0
MayPerform Found (Some before) (Some after) x = LosesSent Found before after x
MayPerform Found _ _ x = ⊥

-- The server performed a script that was sent with its values, on this table, which it found, and replied with the forest of its
-- node.
pub record RepliesTo (Found : Finds) (before after : Behind) (x : Sent) (kind : ℕ) (payload : List ℕ) : Type 0 where
  pub table : List Object
  pub found : Found before table
  pub served : let left = table_left before table x in HasServed before after (table ∷ []) (left ∷ []) left
  pub kind_so : kind ≡ forest_kind
  pub forest : IsForestOf x.version payload (sent_run before.service table x).node

-- the same of the server that a link tells
abbrev pub GivesReply : Finds → Option Behind → Option Behind → Sent → ℕ → List ℕ → Type 0
GivesReply Found (Some before) (Some after) x kind payload = RepliesTo Found before after x kind payload
GivesReply Found _ _ x kind payload = ⊥

-- On a table that fits, the node that a script gives on the server, with the values that were sent, doesn't meet a demand.
abbrev pub GivesMisfit : Option Behind → Sent → Demand → Type 0
GivesMisfit (Some before) x demand =
    (table : List Object) × FindsFitting before table × (meets demand (sent_run before.service table x).node ≡ Ok tt → ⊥)
GivesMisfit None x demand = ⊥
