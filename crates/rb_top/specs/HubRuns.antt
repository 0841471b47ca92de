-- The events in a file are played by a hub over the service in another, and what comes out is shown.
use Rattle.std.specs.Prelude.{◌≡◌, ◌⊎◌, ℕ, suc, List, [], ◌∷◌, ◌++◌, length, Option, None, Some, Result, Ok, Err, codes}
use Rattle.std.specs.Fmt.{decimal}
use Rattle.rb_trees.specs.declared.services.Object.{Object}
use Rattle.rb_trees.specs.mirror.Services.{Service, mirror_service}
use Rattle.rb_meaning.specs.Shown.{line, shown_table}
use Rattle.rb_meaning_frames.specs.Histories.{Event, Track, after, after_all}
use Rattle.rb_base.specs.Devices.{Device}
use Rattle.rb_base.specs.Directories.{Finds, read_once}
use Rattle.rb_base.specs.Sinks.{with_bytes, WrotePrefix}
use Rattle.rb_exec.specs.Hosted.{Hosted}
use Rattle.rb_hub.specs.Hubs.{HubSeen}
use Rattle.rb_hub.specs.Serial.{ComesOut, IsSerial, refusal_at}
use Rattle.rb_hub.specs.Standing.{Stands}
use Rattle.rb_hub.specs.declared.events.HubRefusal.{HubRefusal}
use Rattle.rb_hub.specs.declared.events.Out.{Out}
use Rattle.rb_hub_lines.specs.Lines.{BreaksAtLine, HoldsEvents}
use Rattle.rb_hub_lines.specs.Shown.{out_lines, shown_refusal}
use Rattle.rb_top.specs.Ends.{Ends, Tells}
use Rattle.rb_top.specs.Loads.{HoldsText}
use Rattle.rb_top.specs.Printing.{stopped, stopped_status}
use Rattle.rb_top.specs.Runs.{Served}
use Rattle.rb_top.specs.Scene.{Scene, once_read}
use Rattle.rb_top.specs.Texts.{IsService}
use Rattle.rb_top.specs.Unusable.{NoText, TellsNoService}
use Rattle.rb_top.specs.Words.{Playing}
use Rattle.rb_top.specs.declared.printing.PrintStop.{PrintStop}
use Rattle.rb_top.specs.declared.printing.PrintStop.TheVariants as print
use Rattle.rb_top.specs.declared.status.Status.{Status}
use Rattle.rb_top.specs.declared.status.Status.TheVariants.{Done, EventRefused, Memory}

-- the lines of an event with this number: what came out at it, or why it was refused
abbrev pub step_lines : ℕ → Option HubRefusal → List Out → List ℕ
step_lines number None outs = out_lines outs
step_lines number (Some refusal) outs = line (shown_refusal number refusal)

-- What a hub shows of events from the first on, over a service with this table: of each event what comes out at it, by the history of
-- the requests so far, or why it is refused. The table in the end is the one that these requests leave.
pub data Shows (service : Service) (table : List Object) : List Event → List ℕ → List Object → Type 0 where
  no_event : Shows service table [] [] table
  one_more : (events : List Event) (event : Event) (text : List ℕ) (between left : List Object) (given : List Out) → Shows service table events text between
      → ComesOut service between left (after_all [] events) event given
      → Shows service table (events ++ event ∷ []) (text ++ step_lines (suc (length events)) (refusal_at (after_all [] events) event) given) left

-- all that came out of the events that are shown
abbrev pub outs_in : {service : Service} {table left : List Object} {events : List Event} {text : List ℕ} → Shows service table events text left → List Out
outs_in no_event = []
outs_in (one_more events event text between left given shows comes) = outs_in shows ++ given

-- The events were played, and what they show was printed: one serial history of all requests.
pub record Played (served : Served) (events : List Event) (left : List Object) (before after : Device (List ℕ)) : Type 0 where
  pub text : List ℕ
  pub shows : Shows served.0 served.1 events text left
  pub serial : IsSerial served.0 served.1 left events (outs_in shows)
  pub written : after ≡ with_bytes before text

-- The first of the events were played, and a front of what they show was printed; then the output stopped so.
pub record PlayedSome (served : Served) (events : List Event) (stop : PrintStop) (before after : Device (List ℕ)) : Type 0 where
  pub front : List Event
  pub rest : List Event
  pub parts : events ≡ front ++ rest
  pub text : List ℕ
  pub left : List Object
  pub shows : Shows served.0 served.1 front text left
  pub serial : IsSerial served.0 served.1 left front (outs_in shows)
  pub written : WrotePrefix (stopped stop before) after text

-- Events were played by a new hub over a service with its table. In the end the table is printed that they leave; or the output failed,
-- or memory was wanting.
pub data PlaysHub (served : Served) (events : List Event) (result : Status) (before after : Device (List ℕ)) : Type 0 where
  to_end : (left : List Object) (said : Device (List ℕ)) → Played served events left before said → Ends Done (shown_table 0 left) result said after
      → PlaysHub served events result before after
  cut_off : (stop : PrintStop) → PlayedSome served events stop before after → result ≡ stopped_status stop → PlaysHub served events result before after

-- the line of a text whose line with this number is no event's
abbrev pub bad_line : ℕ → List ℕ
bad_line number = line (codes "events bad line " ++ decimal number)

-- The lines of a text were read as events, and these were played. Or a line is no event's, which was said. Or memory was wanting.
pub data PlaysText (text : List ℕ) (served : Served) (result : Status) (before after : Device (List ℕ)) : Type 0 where
  breaks : (number : ℕ) → BreaksAtLine text number → Ends (EventRefused number) (bad_line number) result before after → PlaysText text served result before after
  plays : (events : List Event) → HoldsEvents text events → PlaysHub served events result before after → PlaysText text served result before after
  starved_reading : result ≡ Memory → after ≡ before → PlaysText text served result before after

-- The text of the events and the service were read, in this order, and the events were played; or it was said why there are none.
pub data PlaysAs (p : Playing) (result : Status) (before after : Scene) : Type 0 where
  no_events : Tells (NoText before.files p.events) result before after → PlaysAs p result before after
  no_service : (text : List ℕ) → HoldsText before.files.told p.events text → TellsNoService p.service result (once_read before) after → PlaysAs p result before after
  played : (text other : List ℕ) (served : Served) → HoldsText before.files.told p.events text → Finds (read_once before.files).told p.service other → IsService other served
      → PlaysText text served result before.out after.out → after.files ≡ read_once (read_once before.files) → PlaysAs p result before after

-- ---- the parts

-- a host's service, as it was read, and its table
abbrev pub served_there : Hosted → Served
served_there host = (mirror_service host.service, host.table)

-- An event was played, from where these sessions were, and this is to be said of what it shows.
pub record PlaysOn (past : List Track) (number : ℕ) (event : Event) (before now : HubSeen Hosted) (Says : List ℕ → Type 0) : Type 0 where
  pub given : List Out
  pub stands : Stands (after past event) now
  pub service : mirror_service now.answers.service ≡ mirror_service before.answers.service
  pub outs : ComesOut (mirror_service before.answers.service) before.answers.table now.answers.table past event given
  pub says : Says (step_lines number (refusal_at past event) given)

-- An event was played, and what it shows was printed; or a front of it. Or memory was wanting for it, and nothing was printed.
abbrev pub PlaysNext : List Track → ℕ → Event → HubSeen Hosted → HubSeen Hosted → Result (Unit {0}) PrintStop → Device (List ℕ) → Device (List ℕ) → Type 0
PlaysNext past number event before now (Ok u) out out' = PlaysOn past number event before now (λ text. out' ≡ with_bytes out text)
PlaysNext past number event before now (Err stop) out out' =
    PlaysOn past number event before now (λ text. WrotePrefix (stopped stop out) out' text) ⊎ ((stop ≡ print.Memory) × (out' ≡ out))

-- the same from wherever the hub stands
abbrev pub PlaysFrom : ℕ → Event → HubSeen Hosted → HubSeen Hosted → Result (Unit {0}) PrintStop → Device (List ℕ) → Device (List ℕ) → Type 0
PlaysFrom number event before now result out out' = (past : List Track) → Stands past before → PlaysNext past number event before now result out out'

-- events were played by a new hub, all or the first of them
abbrev pub PlaysEach : Served → List Event → HubSeen Hosted → Result (Unit {0}) PrintStop → Device (List ℕ) → Device (List ℕ) → Type 0
PlaysEach served events now (Ok u) before after = Played served events now.answers.table before after
PlaysEach served events now (Err stop) before after = PlayedSome served events stop before after
