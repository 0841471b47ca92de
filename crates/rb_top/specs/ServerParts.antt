-- What the parts of a server do.
use Rattle.std.specs.Prelude.{◌≡◌, ℕ, List, Bool, true, false, Option, Result, Ok, Err, IfSome, ◌<◌}
use Rattle.rb_trees.specs.declared.services.Object.{Object}
use Rattle.rb_meaning.specs.Shown.{line, shown_table}
use Rattle.rb_base.specs.Devices.{Device}
use Rattle.rb_base.specs.Directories.{Directory}
use Rattle.rb_base.specs.Listening.{Listening}
use Rattle.rb_base.specs.Sinks.{with_bytes}
use Rattle.rb_exec.specs.Hosted.{Hosted}
use Rattle.rb_top.specs.Ends.{Ends}
use Rattle.rb_top.specs.Sessions.{FailsToGive, GivesNone, InLine, Listener, Manner, ServesLast, ServesSession, ServesSessions, Shown, StarvesToGive, listen_line}
use Rattle.rb_top.specs.Servers.{Listens, ServesAs, nothing_kept}
use Rattle.rb_top.specs.Words.{Serving, child_of}
use Rattle.rb_top.specs.declared.sessions.SessionsStop.{SessionsStop}
use Rattle.rb_top.specs.declared.sessions.SessionsStop.TheVariants.{Said, Answers}
use Rattle.rb_top.specs.declared.status.Status.{Status}
use Rattle.rb_top.specs.declared.status.Status.TheVariants.{Done, ListenFault, Memory}

-- A session is out, as far as the listener tells.
abbrev pub HasSessionOut : Option Listening → Type 0
HasSessionOut told = IfSome told (λ l. 0 < l.out)

-- The line of a session was written whole.
pub record SaysLine {X : Type 0} (shown : Shown X) (before after : Device (List ℕ)) : Type 0 where
  pub text : List ℕ
  pub shows : shown ≡ InLine text
  pub written : after ≡ with_bytes before (line text)

-- The line of a session was written whole; or the session is the last.
abbrev pub SaysSession : {X : Type 0} → Shown X → Result (Unit {0}) (SessionsStop X) → Device (List ℕ) → Device (List ℕ) → Type 0
SaysSession shown (Ok u) before after = SaysLine shown before after
SaysSession shown (Err stop) before after = ServesLast shown before after stop

-- The next session, with a number, was served, and its line was written whole; or it is the last. Or none comes; or it can't be had,
-- and that was said; or memory was wanting to have it.
pub data ServesNext {A R X : Type 0} (m : Manner A R X) (number : ℕ) (server left : A) (listen after_it : Listener) (before after : Device (List ℕ)) : Result Bool (SessionsStop X) → Type 0 where
  served : (answer : R) → ServesSession m answer server left listen after_it → SaysLine (m.shown number answer) before after
      → ServesNext m number server left listen after_it before after (Ok true)
  none_comes : GivesNone listen after_it → left ≡ server → after ≡ before → ServesNext m number server left listen after_it before after (Ok false)
  not_given : (status : Status) → FailsToGive listen after_it → left ≡ server → Ends ListenFault listen_line status before after
      → ServesNext m number server left listen after_it before after (Err (Said status))
  starved_to_give : StarvesToGive listen after_it → left ≡ server → after ≡ before → ServesNext m number server left listen after_it before after (Err (Said Memory))
  served_last : (answer : R) (stop : SessionsStop X) → ServesSession m answer server left listen after_it → ServesLast (m.shown number answer) before after stop
      → ServesNext m number server left listen after_it before after (Err stop)

abbrev pub ServesNextAs : {A R X : Type 0} → Manner A R X → ℕ → A → A → Listener → Listener → Result Bool (SessionsStop X) → Device (List ℕ) → Device (List ℕ) → Type 0
ServesNextAs m number server left listen after_it result before after = ServesNext m number server left listen after_it before after result

abbrev pub ServesSessionsAs : {A R X : Type 0} → Manner A R X → A → A → ℕ → Listener → Listener → Result (Unit {0}) (SessionsStop X) → Device (List ℕ) → Device (List ℕ) → Type 0
ServesSessionsAs m server left count listen after_it result before after = ServesSessions m server left count listen after_it before after result

-- Serving by a host ended so, of which this table is left, and what was to be said was said.
abbrev pub EndsHost : {X : Type 0} → Result (Unit {0}) (SessionsStop X) → List Object → Status → Device (List ℕ) → Device (List ℕ) → Type 0
EndsHost (Ok done) table result said after = Ends Done (shown_table 0 table) result said after
EndsHost (Err (Said status)) table result said after = (result ≡ status) × (after ≡ said)
EndsHost (Err (Answers stop)) table result said after = (result ≡ Memory) × (after ≡ said)

-- The server of a service listens as is asked of it.
abbrev pub ListensAs : Hosted → Serving → Status → Listener → Listener → Device (List ℕ) → Device (List ℕ) → Type 0
ListensAs host v = Listens host v.address v.count

-- A file was served over one session at `-`, over an output that keeps nothing.
abbrev pub ChildServes : List ℕ → Status → Listener → Listener → Device Directory → Device Directory → Type 0
ChildServes s result listen after_it before after =
    ServesAs (child_of s) result listen after_it (record { files = before; out = nothing_kept }) (record { files = after; out = nothing_kept })
