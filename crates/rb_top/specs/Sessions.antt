-- Serving the sessions that come at an address, one after the other, whatever serves them.
use Rattle.std.specs.Prelude.{◌≡◌, ◌<◌, ℕ, suc, List, Bool, cond, None, Some, option_map, is_some, Result, Ok, Err, IfSome, codes}
use Rattle.rb_meaning.specs.Shown.{line}
use Rattle.rb_base.specs.Counts.{risen}
use Rattle.rb_base.specs.Devices.{Device, failed}
use Rattle.rb_base.specs.Listening.{Back, Listening, GivesWhereTold, IsFresh, after_start, started, with_back}
use Rattle.rb_base.specs.Sinks.{with_bytes, WrotePrefix}
use Rattle.rb_base.specs.declared.listens.ListenStop.TheVariants as stops
use Rattle.rb_top.specs.Ends.{Ends}
use Rattle.rb_top.specs.declared.sessions.SessionsStop.{SessionsStop}
use Rattle.rb_top.specs.declared.sessions.SessionsStop.TheVariants.{Said, Answers}
use Rattle.rb_top.specs.declared.status.Status.{Status}
use Rattle.rb_top.specs.declared.status.Status.TheVariants.{WriteFault, Memory, ListenFault}

-- a listener, by what it tells and the count of its faults
abbrev pub Listener : Type 0
Listener = Device Listening

-- the line of a listener that failed
abbrev pub listen_line : List ℕ
listen_line = line (codes "listen fault")

-- An address was started, or not: as the listener tells. Its count of faults rises exactly where it wasn't.
pub record Starts (address : List ℕ) (is_started : Bool) (before after : Listener) : Type 0 where
  pub as_told : IfSome before.told (λ l. is_started ≡ is_some (started l address))
  pub after_is : after ≡ record { told = option_map (after_start address) before.told; faults = cond is_started before.faults (risen before.faults) }

-- The next session was given, with these two ends, of which no call has failed yet.
pub record GivesSession (ends : Back) (before after : Listener) : Type 0 where
  pub gives : GivesWhereTold (Ok (Some ends)) before.told after.told
  pub fresh : IsFresh (Ok (Some ends))
  pub faults : after.faults ≡ before.faults

-- No session comes any more.
pub record GivesNone (before after : Listener) : Type 0 where
  pub gives : GivesWhereTold (Ok None) before.told after.told
  pub faults : after.faults ≡ before.faults

-- The next session can't be had: a fault that the listener counts.
pub record FailsToGive (before after : Listener) : Type 0 where
  pub gives : GivesWhereTold (Err stops.Failed) before.told after.told
  pub faults : after.faults ≡ risen before.faults

-- Memory was wanting to have the next session.
pub record StarvesToGive (before after : Listener) : Type 0 where
  pub gives : GivesWhereTold (Err stops.Memory) before.told after.told
  pub faults : after.faults ≡ before.faults

-- the listener after the two ends of a session came back
abbrev pub came_back : Back → Listener → Listener
came_back ends l = record l { told = option_map (with_back ends) l.told }

-- What is shown of a session: its line, without its line feed; or it is the last, and has none: memory was wanting in it, or whoever
-- answers was stopped.
pub data Shown (X : Type 0) : Type 0 where
  InLine : (text : List ℕ) → Shown X
  Starved : Shown X
  Stopped : (stop : X) → Shown X

-- A kind of server, by one session: how the server and the session's two ends are before and after, by an answer; and what is shown
-- of this answer, by the session's number.
pub record Manner (A R X : Type 0) : Type 1 where
  pub serves : A → A → Back → Back → R → Type 0
  pub shown : ℕ → R → Shown X

-- A session with these two ends was served, and they came back, as they are then.
pub record ServesEnds {A R X : Type 0} (m : Manner A R X) (answer : R) (first : Back) (server left : A) (given after : Listener) : Type 0 where
  pub last : Back
  pub serves : m.serves server left first last answer
  pub back : after ≡ came_back last given

-- A session was given and served, and its two ends came back.
pub record ServesSession {A R X : Type 0} (m : Manner A R X) (answer : R) (server left : A) (before after : Listener) : Type 0 where
  pub first : Back
  pub given : Listener
  pub gives : GivesSession first before given
  pub served : ServesEnds m answer first server left given after

-- So many sessions were served, one after the other, and the line of each was written whole before the next was given: the server,
-- the listener and the output are left so.
pub data ServedSome {A R X : Type 0} (m : Manner A R X) (server : A) (listen : Listener) (out : Device (List ℕ)) : ℕ → A → Listener → Device (List ℕ) → Type 0 where
  none : ServedSome m server listen out 0 server listen out
  one_more : (n : ℕ) (mid left : A) (before after : Listener) (said : Device (List ℕ)) (answer : R) (text : List ℕ)
      → ServedSome m server listen out n mid before said → ServesSession m answer mid left before after → m.shown (suc n) answer ≡ InLine text
      → ServedSome m server listen out (suc n) left after (with_bytes said (line text))

-- A session was served, and none is served after it. Of its line a front was written, and a write failed; or memory was wanting for
-- it, and nothing was written. Or it has none.
pub data ServesLast {X : Type 0} (shown : Shown X) (said after : Device (List ℕ)) : SessionsStop X → Type 0 where
  line_cut : (text : List ℕ) → shown ≡ InLine text → WrotePrefix (failed said) after (line text) → ServesLast shown said after (Said WriteFault)
  line_starved : (text : List ℕ) → shown ≡ InLine text → after ≡ said → ServesLast shown said after (Said Memory)
  starved : shown ≡ Starved → after ≡ said → ServesLast shown said after (Said Memory)
  stopped : (stop : X) → shown ≡ Stopped stop → after ≡ said → ServesLast shown said after (Answers stop)

-- How serving so many sessions at most ends. All were served, or none comes any more. Or the next can't be had, which is said; or
-- memory is wanting to have it. Or one more was served, and it is the last. Each session that was given came back.
pub data ServesSessions {A R X : Type 0} (m : Manner A R X) (server left : A) (count : ℕ) (listen after_it : Listener) (before after : Device (List ℕ)) : Result (Unit {0}) (SessionsStop X) → Type 0 where
  all : ServedSome m server listen before count left after_it after → ServesSessions m server left count listen after_it before after (Ok tt)
  fewer : (n : ℕ) (last : Listener) → n < count → ServedSome m server listen before n left last after → GivesNone last after_it
      → ServesSessions m server left count listen after_it before after (Ok tt)
  fault : (n : ℕ) (last : Listener) (said : Device (List ℕ)) (status : Status) → n < count → ServedSome m server listen before n left last said
      → FailsToGive last after_it → Ends ListenFault listen_line status said after → ServesSessions m server left count listen after_it before after (Err (Said status))
  starved_to_give : (n : ℕ) (last : Listener) → n < count → ServedSome m server listen before n left last after → StarvesToGive last after_it
      → ServesSessions m server left count listen after_it before after (Err (Said Memory))
  one_last : (n : ℕ) (mid : A) (last : Listener) (said : Device (List ℕ)) (answer : R) (stop : SessionsStop X) → n < count
      → ServedSome m server listen before n mid last said → ServesSession m answer mid left last after_it → ServesLast (m.shown (suc n) answer) said after stop
      → ServesSessions m server left count listen after_it before after (Err stop)
