-- A request in JSON that was answered on a host is shown.
use Rattle.std.proofs.Common.{◌≡◌, List, [], ◌++◌, Result, Ok, Err, ℕ, ap, ◌∙◌, subst}
use Rattle.std.specs.Prelude.{IfErr, OnOk}
use Rattle.serde_json.specs.Written.{compact_text}
use Rattle.rb_trees.specs.Outcome.{Refuses}
use Rattle.rb_trees.specs.declared.services.Object.{Object}
use Rattle.rb_meaning.specs.Shown.{line, shown_table}
use Rattle.rb_base.specs.Devices.{Device}
use Rattle.rb_exec.specs.Hosted.{Hosted}
use Rattle.rb_json.specs.Answering.{AnswersRequest, reply_on}
use Rattle.rb_json.specs.Requests.{request_in}
use Rattle.rb_json.specs.Stops.{refusal}
use Rattle.rb_json.specs.declared.stops.JsonStop.{JsonStop}
use Rattle.rb_json.specs.declared.stops.JsonStop.TheVariants as stops
use Rattle.rb_top.specs.Ends.{Ends}
use Rattle.rb_top.specs.HubRuns.{served_there}
use Rattle.rb_top.specs.JsonRuns.{AnswersJson, EndsAnswer, answered, refused, shown_json, starved_answering}
use Rattle.rb_top.specs.Runs.{Served}
use Rattle.rb_top.specs.declared.status.Status.{Status}
use Rattle.rb_top.specs.declared.status.Status.TheVariants.{Done}

-- the line of what was appended, and the table that it left
pub shows_reply : (before now : Hosted) (request old new : List ℕ) (table : List Object) (a : AnswersRequest before now request old new) → old ≡ [] → table ≡ now.table
    → line new ++ shown_table 0 table ≡ shown_json (served_there before) a.sent
shows_reply before now request old new table a empty same =
    ap (λ t. line t ++ shown_table 0 table) (a.gains ∙ ap (λ o. o ++ compact_text (reply_on before a.sent).json) empty)
    ∙ ap (λ t. line (compact_text (reply_on before a.sent).json) ++ shown_table 0 t) (same ∙ a.table)

-- whichever way it was answered
pub answer_told : (before now : Hosted) (request old new : List ℕ) (table : List Object) (answer : Result (Unit {0}) JsonStop) (result : Status) (out out' : Device (List ℕ))
    → IfErr answer (λ stop. Refuses (refusal stop) (request_in request)) → OnOk answer (AnswersRequest before now request old new) → old ≡ [] → table ≡ now.table → EndsAnswer answer new table result out out'
    → AnswersJson request (served_there before) result out out'
answer_told before now request old new table (Ok done) result out out' none a empty same shown =
    answered a.sent a.reads (subst (λ t. Ends Done t result out out') (shows_reply before now request old new table a empty same) shown)
answer_told before now request old new table (Err (stops.Refused found)) result out out' is a empty same shown = refused found is shown
answer_told before now request old new table (Err stops.Memory) result out out' is a empty same shown = starved_answering shown.0 shown.1
