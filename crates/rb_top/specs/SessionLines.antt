-- The line of a session: its number from 1, how many requests were answered, and how it ended.
use Rattle.std.specs.Prelude.{ℕ, List, ◌++◌, Result, Ok, Err, codes}
use Rattle.std.specs.Fmt.{decimal}
use Rattle.rb_session.specs.declared.serving.Served.{Served}
use Rattle.rb_session.specs.declared.serving.ServeStop.{ServeStop}
use Rattle.rb_session.specs.declared.serving.ServeCause.{ServeCause}
use Rattle.rb_session.specs.declared.serving.ServeCause.TheVariants as causes

-- why a session was served no further; want of memory is shown by no line
abbrev pub shown_cause : ServeCause → List ℕ
shown_cause causes.ReadFault = codes "read fault"
shown_cause causes.WriteFault = codes "write fault"
shown_cause (causes.Cut at) = codes "cut"
shown_cause (causes.BadFrame at) = codes "bad frame"
shown_cause causes.SessionSpent = codes "spent"
shown_cause causes.Memory = codes "out of memory"

-- how a session ended
abbrev pub shown_end : Result Served ServeStop → List ℕ
shown_end (Ok served) = codes "end"
shown_end (Err stop) = shown_cause stop.cause

-- how many requests were answered in it
abbrev pub requests_of : Result Served ServeStop → ℕ
requests_of (Ok served) = served.requests
requests_of (Err stop) = stop.requests

-- the line of a session, without its line feed
abbrev pub shown_session : ℕ → Result Served ServeStop → List ℕ
shown_session number answer =
    codes "session " ++ (decimal number ++ (codes " requests " ++ (decimal (requests_of answer) ++ (codes " " ++ shown_end answer))))
