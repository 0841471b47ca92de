-- A request in JSON, in a file, is answered on the service in another, and the reply and the table are shown.
use Rattle.std.specs.Prelude.{◌≡◌, ℕ, List, ◌++◌, Result, Ok, Err, codes}
use Rattle.std.specs.Fmt.{decimal}
use Rattle.serde_json.specs.Written.{compact_text}
use Rattle.rb_trees.specs.declared.services.Object.{Object}
use Rattle.rb_meaning.specs.Shown.{line, shown_table}
use Rattle.rb_meaning_bytes.specs.formats.Messages.{Sent}
use Rattle.rb_base.specs.Devices.{Device}
use Rattle.rb_base.specs.Directories.{Finds, read_once}
use Rattle.rb_json.specs.Answering.{Reply, json_reply}
use Rattle.rb_json.specs.Requests.{request_in}
use Rattle.rb_json.specs.declared.stops.JsonRefusal.{JsonRefusal}
use Rattle.rb_json.specs.declared.stops.JsonRefusal.TheVariants.{NotJson, WrongForm}
use Rattle.rb_json.specs.declared.stops.JsonStop.{JsonStop}
use Rattle.rb_json.specs.declared.stops.JsonStop.TheVariants.{Refused}
use Rattle.rb_json.specs.declared.stops.JsonStop.TheVariants as starved
use Rattle.rb_top.specs.Ends.{Ends, Tells}
use Rattle.rb_top.specs.Loads.{HoldsText}
use Rattle.rb_top.specs.Runs.{Served}
use Rattle.rb_top.specs.Scene.{Scene, once_read}
use Rattle.rb_top.specs.Texts.{IsService}
use Rattle.rb_top.specs.Unusable.{NoText, TellsNoService}
use Rattle.rb_top.specs.Words.{Asking}
use Rattle.rb_top.specs.declared.status.Status.{Status}
use Rattle.rb_top.specs.declared.status.Status.TheVariants.{Done, JsonRefused, Memory}

-- the line of a request that is refused
abbrev pub shown_json_refusal : JsonRefusal → List ℕ
shown_json_refusal NotJson = line (codes "json 1 NotJson")
shown_json_refusal (WrongForm place) = line (codes "json 2 WrongForm at " ++ decimal place)

-- the line of a reply, and then the table after it
abbrev pub shown_reply : Reply → List ℕ
shown_reply reply = line (compact_text reply.json) ++ shown_table 0 reply.table

-- what is shown of a request on a service with a table
abbrev pub shown_json : Served → Sent → List ℕ
shown_json served sent = shown_reply (json_reply served.0 served.1 sent)

-- An answer came so, with these bytes as its reply and this table after it, and what was to be said was said.
abbrev pub EndsAnswer : Result (Unit {0}) JsonStop → List ℕ → List Object → Status → Device (List ℕ) → Device (List ℕ) → Type 0
EndsAnswer (Ok done) reply table result before after = Ends Done (line reply ++ shown_table 0 table) result before after
EndsAnswer (Err (Refused refusal)) reply table result before after = Ends (JsonRefused refusal) (shown_json_refusal refusal) result before after
EndsAnswer (Err starved.Memory) reply table result before after = (result ≡ Memory) × (after ≡ before)

-- A request was answered on a service with its table, and that was shown; or it is refused, and that was said. Or memory was wanting.
pub data AnswersJson (request : List ℕ) (served : Served) (result : Status) (before after : Device (List ℕ)) : Type 0 where
  refused : (refusal : JsonRefusal) → request_in request ≡ Err refusal → Ends (JsonRefused refusal) (shown_json_refusal refusal) result before after
      → AnswersJson request served result before after
  answered : (sent : Sent) → request_in request ≡ Ok sent → Ends Done (shown_json served sent) result before after → AnswersJson request served result before after
  starved_answering : result ≡ Memory → after ≡ before → AnswersJson request served result before after

-- The service and the text of the request were read, in this order, and the request was answered; or it was said why there are none.
pub data AnswersAs (a : Asking) (result : Status) (before after : Scene) : Type 0 where
  no_service : TellsNoService a.service result before after → AnswersAs a result before after
  no_request : (other : List ℕ) (served : Served) → Finds before.files.told a.service other → IsService other served
      → Tells (NoText (read_once before.files) a.request) result (once_read before) after → AnswersAs a result before after
  answered_from : (other text : List ℕ) (served : Served) → Finds before.files.told a.service other → IsService other served
      → HoldsText (read_once before.files).told a.request text → AnswersJson text served result before.out after.out
      → after.files ≡ read_once (read_once before.files) → AnswersAs a result before after
