-- What is read of a request.
use Rattle.std.specs.Prelude.{◌≡◌, ◌≤◌, ℕ, List, Option, None, Some, Result, Ok, Err}
use Rattle.rb_trees.specs.Validity.{verdict}
use Rattle.rb_trees.specs.declared.values.Value.{Value}
use Rattle.rb_trees.specs.declared.scripts.Script.{Script}
use Rattle.rb_trees.specs.declared.versions.Version.{Version}
use Rattle.rb_trees.specs.mirror.Scripts.{mirror_script}
use Rattle.rb_meaning_bytes.specs.formats.Messages.{Sent, Refused}
use Rattle.rb_meaning_bytes.specs.formats.Payloads.{IsRefusalOf}
use Rattle.rb_meaning_bytes.specs.formats.ScriptBytes.{steps_weight}
use Rattle.rb_meaning_bytes.specs.formats.ScriptPayloads.{Means, CanBeSent}
use Rattle.rb_meaning.specs.Answers.{longest_request}
use Rattle.rb_wire_forest.specs.Buffers.{Appends}

-- A script with its values that a payload may spell: it can be sent, it is valid, and it has no more steps than a request has
-- bytes.
pub record IsSent (x : Sent) : Type 0 where
  pub formed : CanBeSent x
  pub valid : verdict x.script ≡ Ok tt
  pub few : steps_weight x.script.body ≤ longest_request

-- what was read of a request: its version, its script, and the values of its inputs
pub record Request : Type 0 where
  pub version : Version
  pub script : Script
  pub inputs : List Value

abbrev pub request : Version → Script → List Value → Request
request version script inputs = record { version = version; script = script; inputs = inputs }

abbrev pub sent_of : Request → Sent
sent_of r = record { version = r.version; script = mirror_script r.script; values = r.inputs }

-- A script was read, and the buffer is as it was; or the payload is refused, and the buffer has gained the refusal.
abbrev pub Reads : List ℕ → Option Request → List ℕ → List ℕ → Type 0
Reads payload (Some p) old new = Means payload (Ok (sent_of p)) × (new ≡ old)
Reads payload None old new = (wrong : Refused) × Means payload (Err wrong) × Appends (λ bytes. IsRefusalOf wrong.version bytes wrong.number wrong.at) old new

-- A script was read exactly where the payload comes to it.
abbrev pub ReadAs : Option Request → Result Sent Refused → Type 0
ReadAs (Some p) meant = meant ≡ Ok (sent_of p)
ReadAs None (Ok x) = ⊥
ReadAs None (Err wrong) = Unit {0}
