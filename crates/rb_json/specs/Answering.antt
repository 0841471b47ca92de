-- What a server answers to a request in JSON.
use Rattle.std.specs.Prelude.{◌≡◌, ℕ, List, ◌++◌, true, Bool, ◌&&◌, ◌||◌, nat_le, nat_eq, Result, Ok, Err}
use Rattle.serde_json.specs.Data.{Data}
use Rattle.serde_json.specs.Written.{compact_text}
use Rattle.rb_trees.specs.Validity.{verdict}
use Rattle.rb_trees.specs.declared.services.Object.{Object}
use Rattle.rb_trees.specs.declared.validity.ScriptRefusal.{ScriptRefusal}
use Rattle.rb_trees.specs.declared.versions.Version.TheVariants.{Two}
use Rattle.rb_trees.specs.declared.forests.Node as node
use Rattle.rb_trees.specs.mirror.Forests.{Node, mirror_node}
use Rattle.rb_trees.specs.mirror.Services.{Service, mirror_service}
use Rattle.rb_meaning_bytes.specs.formats.Fields.{IsBytes}
use Rattle.rb_meaning_bytes.specs.formats.Messages.{Sent}
use Rattle.rb_meaning_bytes.specs.formats.Formats.{Spells}
use Rattle.rb_meaning_bytes.specs.formats.ScriptMessages.{script_message}
use Rattle.rb_meaning_bytes.specs.formats.Payloads.{IsRequestOf, IsForest, IsForestOf, IsRefusalOf}
use Rattle.rb_meaning_bytes.specs.formats.ScriptPayloads.{number_of, step_of}
use Rattle.rb_meaning_code.specs.ScriptRun.{Ran}
use Rattle.rb_meaning.specs.Answers.{forest_kind, refusal_kind, performed, Answers}
use Rattle.rb_exec.specs.Hosted.{Hosted}
use Rattle.rb_session.specs.Answering.{performed_on}
use Rattle.rb_json.specs.declared.stops.JsonRefusal.{JsonRefusal}
use Rattle.rb_json.specs.Replies.{node_data, refusal_data}
use Rattle.rb_json.specs.Requests.{request_in}

-- the greatest number of bytes of a request in JSON
abbrev pub longest_json : ℕ
longest_json = 1048576

-- a reply as a JSON value, and the table after it
pub record Reply : Type 0 where
  pub json : Data
  pub table : List Object

-- A valid script is performed: the reply is its node, and the table is what it leaves. Any other script is refused, with the
-- refusal's number and step, and the table stays.
abbrev pub reply_by : Result (Unit {0}) ScriptRefusal → List Object → Ran → Reply
reply_by (Ok u) table ran = record { json = node_data ran.node; table = ran.server.table }
reply_by (Err r) table ran = record { json = refusal_data (number_of r) (step_of r); table = table }

-- what a service with a table replies to a script with the values of its inputs
abbrev pub json_reply : Service → List Object → Sent → Reply
json_reply service table x = reply_by (verdict x.script) table (performed service table x)

-- what a host replies
abbrev pub reply_on : Hosted → Sent → Reply
reply_on h x = json_reply (mirror_service h.service) h.table x

-- The request was read and answered: the reply has gained the compact text, and the host has the table of the answer.
pub record AnswersRequest (before after : Hosted) (request old new : List ℕ) : Type 0 where
  pub sent : Sent
  pub reads : request_in request ≡ Ok sent
  pub gains : new ≡ old ++ compact_text (reply_on before sent).json
  pub table : after.table ≡ (reply_on before sent).table

-- A request that is refused leaves the host as it was, and so does one whose script isn't valid, whatever is answered.
pub record StaysUnlessPerformed (before after : Hosted) (request : List ℕ) : Type 0 where
  pub refused : (r : JsonRefusal) → request_in request ≡ Err r → after ≡ before
  pub not_valid : (x : Sent) (r : ScriptRefusal) → request_in request ≡ Ok x → verdict x.script ≡ Err r → after ≡ before

-- ---- the answer on the wire

-- The JSON value says what a binary reply of this kind says in version 2.
pub data SaysInJson : ℕ → List ℕ → Data → Type 0 where
  forest : (reply : List ℕ) (node : Node) → IsForestOf Two reply node → SaysInJson forest_kind reply (node_data node)
  refusal : (reply : List ℕ) (number at : ℕ) → IsRefusalOf Two reply number at → SaysInJson refusal_kind reply (refusal_data number at)

-- Wherever a payload spells the script with its values in version 2, its answer on the wire is this reply, and leaves the same
-- table.
abbrev pub RepliesAsTheWire : Type 0
RepliesAsTheWire = (service : Service) (table after : List Object) (x : Sent) (payload reply : List ℕ) (kind : ℕ) → x.version ≡ Two → IsBytes payload
    → IsRequestOf Two payload x.script x.values → Answers service table payload kind reply after
    → SaysInJson kind reply (json_reply service table x).json × (after ≡ (json_reply service table x).table)

-- the numbers of refusals that scripts in JSON may meet: 11 to 13, and 15
abbrev pub is_script_refusal : ℕ → Bool
is_script_refusal n = (nat_le 11 n && nat_le n 13) || nat_eq n 15

-- A request whose script isn't valid is refused with one of these.
abbrev pub RefusedBySuch : List ℕ → Type 0
RefusedBySuch request = (x : Sent) (r : ScriptRefusal) → request_in request ≡ Ok x → verdict x.script ≡ Err r → is_script_refusal (number_of r) ≡ true

-- ---- a valid script as a binary request

-- The payload spells a valid script with its values.
pub record SpellsValid (payload : List ℕ) : Type 0 where
  pub sent : Sent
  pub spells : Spells script_message payload sent
  pub valid : verdict sent.script ≡ Ok tt

-- The payload spells a forest.
abbrev pub SpellsForest : List ℕ → Type 0
SpellsForest payload = (n : Node) × IsForest payload n

-- This is the node that a script with its values gives, and the table is what it leaves.
pub record Performed (before after : Hosted) (x : Sent) (root : node.Node) : Type 0 where
  pub node : mirror_node root ≡ (performed_on before x).node
  pub table : after.table ≡ (performed_on before x).server.table

-- So it is for any valid script that the payload spells.
abbrev pub PerformsSent : Hosted → Hosted → List ℕ → node.Node → Type 0
PerformsSent before after payload root = (x : Sent) → Spells script_message payload x → verdict x.script ≡ Ok tt → Performed before after x root
