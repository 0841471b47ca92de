-- The kinds of servers: one over a host, and a hub over whoever answers.
use Rattle.std.specs.Prelude.{ℕ, List, Bool, true, false, Result, Ok, Err}
use Rattle.rb_base.specs.Listening.{Back}
use Rattle.rb_exec.specs.Hosted.{Hosted}
use Rattle.rb_session.specs.Serving.{Ends, Serves, ends, host_ends}
use Rattle.rb_session.specs.declared.answerers.Answers as answerers
use Rattle.rb_session.specs.declared.serving.Served.{Served}
use Rattle.rb_session.specs.declared.serving.ServeCause.{ServeCause}
use Rattle.rb_session.specs.declared.serving.ServeCause.TheVariants as causes
use Rattle.rb_session.specs.declared.serving.ServeStop.{ServeStop}
use Rattle.rb_hub.specs.Serving.{AnswersStream, IfStopped, ServesUnlessStopped, StopsServing}
use Rattle.rb_hub.specs.declared.serving.HubServeStop.{HubServeStop}
use Rattle.rb_hub.specs.declared.serving.HubServeStop.TheVariants.{Serve, Answers}
use Rattle.rb_top.specs.SessionLines.{shown_session}
use Rattle.rb_top.specs.Sessions.{Manner, Shown, InLine, Starved, Stopped}

-- whether memory was wanting in a session
abbrev pub is_want : ServeCause → Bool
is_want causes.Memory = true
is_want cause = false

abbrev pub is_starved : Result Served ServeStop → Bool
is_starved (Ok served) = false
is_starved (Err stop) = is_want stop.cause

-- the line of a session, unless memory was wanting in it
abbrev pub line_unless : {X : Type 0} → Bool → List ℕ → Shown X
line_unless true text = Starved
line_unless false text = InLine text

abbrev pub shown_answer : {X : Type 0} → ℕ → Result Served ServeStop → Shown X
shown_answer number answer = line_unless (is_starved answer) (shown_session number answer)

-- ---- a server over a host

-- the host and the two ends of a session
abbrev pub at_session : Hosted → Back → Ends
at_session host b = host_ends host b.source b.sink

-- Each session is served as its stream says; no request stops a host.
abbrev pub host_manner : Manner Hosted (Result Served ServeStop) ⊥
host_manner = record {
  serves = λ host left first last answer. Serves (at_session host first) (at_session left last) answer;
  shown = λ number answer. shown_answer number answer;
}

-- ---- a hub over whoever answers

-- whoever answers, and the two ends of a session
abbrev pub answers_at : {A X : Type 0} → answerers.Ghosts A X → A → Back → Ends
answers_at a answers b = ends (a.service answers) (a.table answers) b.source b.sink

abbrev pub shown_hub_answer : {X : Type 0} → ℕ → Result Served (HubServeStop X) → Shown X
shown_hub_answer number (Ok served) = shown_answer number (Ok served)
shown_hub_answer number (Err (Serve stop)) = shown_answer number (Err stop)
shown_hub_answer number (Err (Answers stop)) = Stopped stop

-- Each session is served as its stream says, or until one of its requests stops whoever answers.
pub record ServesAnswers {A X : Type 0} (a : answerers.Ghosts A X) (before after : A) (first last : Back) (answer : Result Served (HubServeStop X)) : Type 0 where
  pub serves : ServesUnlessStopped (answers_at a before first) (answers_at a after last) answer
  pub stops : IfStopped answer (StopsServing a after (answers_at a before first) (answers_at a after last))
  pub answers : AnswersStream a.does a.stops before after (answers_at a before first) (answers_at a after last) answer

abbrev pub hub_manner : {A X : Type 0} → answerers.Ghosts A X → Manner A (Result Served (HubServeStop X)) X
hub_manner a = record {
  serves = λ before after first last answer. ServesAnswers a before after first last answer;
  shown = λ number answer. shown_hub_answer number answer;
}
