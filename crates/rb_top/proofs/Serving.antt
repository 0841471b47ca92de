-- Sessions that are served one after the other.
use Rattle.std.proofs.Common.{◌≡◌, ℕ, suc, ◌<◌, ◌^◌, List, [], length, Bool, true, false, Option, None, Some, option_map, Result, Ok, Err, ap, sym, ◌∙◌, ◌+◌, refl, subst, arith}
use Rattle.std.specs.Prelude.{IfSome, cond, if◌then◌else◌, is_some, nat_le}
use Rattle.std.specs.Result.{is_ok}
use Rattle.std.proofs.lemmas.Bool.{lt-leb}
use Rattle.rb_trees.specs.declared.services.Object.{Object}
use Rattle.rb_trees.specs.mirror.Services.{mirror_service}
use Rattle.rb_meaning.specs.Shown.{line, shown_table}
use Rattle.rb_base.specs.Counts.{risen}
use Rattle.rb_base.specs.Devices.{Device, failed}
use Rattle.rb_base.specs.Listening.{Back, GivesWhereTold, Listening, after_start, risen_on_err, started, with_back}
use Rattle.rb_base.specs.declared.sinks.Failed.{Failed}
use Rattle.rb_base.specs.Sinks.{with_bytes, WrotePrefix}
use Rattle.rb_exec.specs.Hosted.{Hosted}
use Rattle.rb_session.specs.Serving as ses
use Rattle.rb_session.specs.declared.answerers.Answers as answerers
use Rattle.rb_session.specs.declared.serving.Served as session
use Rattle.rb_session.specs.declared.serving.ServeCause.{ServeCause}
use Rattle.rb_session.specs.declared.serving.ServeCause.TheVariants as causes
use Rattle.rb_session.specs.declared.serving.ServeStop.{ServeStop}
use Rattle.rb_meaning_frames.specs.Histories.{Open, most_open, most_sessions}
use Rattle.rb_hub.specs.Hubs.{HubSeen, new_hub, refusal_by, refusal_of}
use Rattle.rb_hub.specs.Serving.{LeavesBy, LeavesHub, is_no_want}
use Rattle.rb_hub.specs.declared.events.HubRefusal.TheVariants.{Over}
use Rattle.rb_hub.specs.declared.serving.HubServeStop.{HubServeStop}
use Rattle.rb_hub.specs.declared.serving.HubServeStop.TheVariants.{Serve, Answers}
use Rattle.rb_top.specs.Ends as ends
use Rattle.rb_top.specs.Manners.{ServesAnswers, host_manner, hub_manner, is_starved, is_want, line_unless, shown_answer, shown_hub_answer}
use Rattle.rb_top.specs.ServerParts.{EndsHost, HasSessionOut, ListensAs, SaysLine, SaysSession, ServesNext, none_comes, not_given, served, served_last, starved_to_give}
use Rattle.rb_top.specs.Scene.{Scene}
use Rattle.rb_top.specs.Servers.{ServesAs, ServesHost, begins, to_end, to_stop}
use Rattle.rb_top.specs.SessionLines.{shown_session}
use Rattle.rb_top.specs.Sessions as sessions
use Rattle.rb_top.specs.Sessions.{GivesSession, InLine, Listener, Manner, ServedSome, ServesEnds, ServesLast, ServesSession, ServesSessions, Shown, Starved, Starts, Stopped, came_back, line_cut, line_starved, one_more, starved, stopped}
use Rattle.rb_top.specs.Words.{Serving}
use Rattle.rb_top.specs.declared.sessions.SessionsStop.{SessionsStop}
use Rattle.rb_top.specs.declared.sessions.SessionsStop.TheVariants as stops
use Rattle.rb_top.specs.declared.status.Status.{Status}
use Rattle.rb_top.specs.declared.status.Status.TheVariants.{Done, Memory, WriteFault}

next_number : (n : ℕ) → n + 1 ≡ suc n
next_number n = omega arith

module _ {A R X : Type 0} (m : Manner A R X) where
  -- one session more
  one_after : (server mid left : A) (listen between last : Listener) (out said after : Device (List ℕ)) (n : ℕ) → ServedSome m server listen out n mid between said → ServesNext m (suc n) mid left between last said after (Ok true)
      → ServedSome m server listen out (suc n) left last after
  one_after server mid left listen between last out said after n s (served answer session says) =
      subst (ServedSome m server listen out (suc n) left last) (sym says.written) (one_more n mid left between last said answer says.text s session says.shows)

  pub one_so_far : (server mid left : A) (listen between last : Listener) (out said after : Device (List ℕ)) (n : ℕ) → ServedSome m server listen out n mid between said → ServesNext m (n + 1) mid left between last said after (Ok true)
      → ServedSome m server listen out (n + 1) left last after
  one_so_far server mid left listen between last out said after n s h =
      subst (λ k. ServedSome m server listen out k left last after) (sym (next_number n))
      (one_after server mid left listen between last out said after n s (subst (λ k. ServesNext m k mid left between last said after (Ok true)) (next_number n) h))

  -- all were served
  pub all_served : (server left : A) (count n : ℕ) (listen last : Listener) (before after : Device (List ℕ)) → n ≡ count → ServedSome m server listen before n left last after → ServesSessions m server left count listen last before after (Ok tt)
  all_served server left count n listen last before after e s = sessions.all (subst (λ k. ServedSome m server listen before k left last after) e s)

  -- what was served is the same where the server and the output are
  same_so_far : (server mid left : A) (listen between : Listener) (out said after : Device (List ℕ)) (n : ℕ) → left ≡ mid → after ≡ said → ServedSome m server listen out n mid between said → ServedSome m server listen out n left between after
  same_so_far server mid left listen between out said after n l o s =
      subst (λ x. ServedSome m server listen out n x between after) (sym l) (subst (ServedSome m server listen out n mid between) (sym o) s)

  -- no session came any more
  pub fewer_served : (server mid left : A) (count n : ℕ) (listen between last : Listener) (before said after : Device (List ℕ)) → n < count → ServedSome m server listen before n mid between said
      → ServesNext m (n + 1) mid left between last said after (Ok false) → ServesSessions m server left count listen last before after (Ok tt)
  fewer_served server mid left count n listen between last before said after few s (none_comes gives same out) =
      sessions.fewer n between few (same_so_far server mid left listen between before said after n same out s) gives

  -- a session wasn't served to its line
  cut_after : (server mid left : A) (count n : ℕ) (stop : SessionsStop X) (listen between last : Listener) (before said after : Device (List ℕ)) → n < count → ServedSome m server listen before n mid between said
      → ServesNext m (suc n) mid left between last said after (Err stop) → ServesSessions m server left count listen last before after (Err stop)
  cut_after server mid left count n stop listen between last before said after few s (not_given status fails same shown) =
      sessions.fault n between said status few (same_so_far server mid left listen between before said said n same refl s) fails shown
  cut_after server mid left count n stop listen between last before said after few s (starved_to_give gives same out) =
      sessions.starved_to_give n between few (same_so_far server mid left listen between before said after n same out s) gives
  cut_after server mid left count n stop listen between last before said after few s (served_last answer x session ends_so) =
      sessions.one_last n mid between said answer x few s session ends_so

  pub cut_serving : (server mid left : A) (count n : ℕ) (stop : SessionsStop X) (listen between last : Listener) (before said after : Device (List ℕ)) → n < count → ServedSome m server listen before n mid between said
      → ServesNext m (n + 1) mid left between last said after (Err stop) → ServesSessions m server left count listen last before after (Err stop)
  cut_serving server mid left count n stop listen between last before said after few s h =
      cut_after server mid left count n stop listen between last before said after few s (subst (λ k. ServesNext m k mid left between last said after (Err stop)) (next_number n) h)

  -- what was said of a session that was given and served
  pub next_served : (number : ℕ) (server left : A) (listen given last : Listener) (first : Back) (answer : R) (before after : Device (List ℕ)) → GivesSession first listen given → ServesEnds m answer first server left given last
      → SaysLine (m.shown number answer) before after → ServesNext m number server left listen last before after (Ok true)
  next_served number server left listen given last first answer before after gives s says = served answer (record { first = first; given = given; gives = gives; served = s }) says

  pub last_served : (number : ℕ) (server left : A) (listen given last : Listener) (first : Back) (answer : R) (stop : SessionsStop X) (before after : Device (List ℕ)) → GivesSession first listen given → ServesEnds m answer first server left given last
      → ServesLast (m.shown number answer) before after stop → ServesNext m number server left listen last before after (Err stop)
  last_served number server left listen given last first answer stop before after gives s ends_so = served_last answer stop (record { first = first; given = given; gives = gives; served = s }) ends_so

-- ---- the line of a session

not_starved : {X : Type 0} (number : ℕ) (answer : Result session.Served ServeStop) → is_starved answer ≡ false → shown_answer {X = X} number answer ≡ InLine (shown_session number answer)
not_starved number answer e = ap (λ b. line_unless b (shown_session number answer)) e

pub session_starved : {X : Type 0} (number : ℕ) (answer : Result session.Served ServeStop) (before : Device (List ℕ)) → is_starved answer ≡ true → SaysSession {X = X} (shown_answer number answer) (Err (stops.Said Memory)) before before
session_starved number answer before e = starved (ap (λ b. line_unless b (shown_session number answer)) e) refl

pub line_wanting : {X : Type 0} (number : ℕ) (answer : Result session.Served ServeStop) (before : Device (List ℕ)) → is_starved answer ≡ false → SaysSession {X = X} (shown_answer number answer) (Err (stops.Said Memory)) before before
line_wanting number answer before e = line_starved (shown_session number answer) (not_starved number answer e) refl

pub session_said : {X : Type 0} (number : ℕ) (answer : Result session.Served ServeStop) (text : List ℕ) (before after : Device (List ℕ)) → is_starved answer ≡ false → text ≡ line (shown_session number answer) → after ≡ with_bytes before text → SaysLine {X = X} (shown_answer number answer) before after
session_said number answer text before after e t w = record { text = shown_session number answer; shows = not_starved number answer e; written = w ∙ ap (with_bytes before) t }

pub session_cut : {X : Type 0} (number : ℕ) (answer : Result session.Served ServeStop) (text : List ℕ) (before after : Device (List ℕ)) → is_starved answer ≡ false → text ≡ line (shown_session number answer) → WrotePrefix (failed before) after text
    → SaysSession {X = X} (shown_answer number answer) (Err (stops.Said WriteFault)) before after
session_cut number answer text before after e t w = line_cut (shown_session number answer) (not_starved number answer e) (subst (WrotePrefix (failed before) after) t w)

-- a request stopped whoever answers
pub session_halted : {X : Type 0} (number : ℕ) (answer : Result session.Served (HubServeStop X)) (stop : X) (before : Device (List ℕ)) → answer ≡ Err (Answers stop) → ServesLast (shown_hub_answer number answer) before before (stops.Answers stop)
session_halted number answer stop before e = stopped stop (ap (shown_hub_answer number) e) refl

-- ---- one kind of server, seen as another one

-- Each session is served so too, by another answer: of one that has a line the line is the same, and one that is the last since memory
-- was wanting is such still.
pub record SeenAs {A R S X Y : Type 0} (m : Manner A R X) (k : Manner A S Y) (r : R → S) : Type 0 where
  pub serves : (x y : A) (first last : Back) (answer : R) → m.serves x y first last answer → k.serves x y first last (r answer)
  pub lines : (number : ℕ) (answer : R) (text : List ℕ) → m.shown number answer ≡ InLine text → k.shown number (r answer) ≡ InLine text
  pub starves : (number : ℕ) (answer : R) → m.shown number answer ≡ Starved → k.shown number (r answer) ≡ Starved

module _ {A R S X Y : Type 0} (m : Manner A R X) (k : Manner A S Y) (r : R → S) (seen : SeenAs m k r) where
  session_seen : (answer : R) (server left : A) (before after : Listener) → ServesSession m answer server left before after → ServesSession k (r answer) server left before after
  session_seen answer server left before after s = record {
    first = s.first;
    given = s.given;
    gives = s.gives;
    served = record {
      last = s.served.last;
      serves = seen.serves server left s.first s.served.last answer s.served.serves;
      back = s.served.back;
    };
  }

  some_seen : (server : A) (listen : Listener) (out : Device (List ℕ)) (n : ℕ) (left : A) (last : Listener) (said : Device (List ℕ)) → ServedSome m server listen out n left last said → ServedSome k server listen out n left last said
  some_seen server listen out n left last said sessions.none = sessions.none
  some_seen server listen out n left last said (one_more i mid it before after so_far answer text s session shown) =
      one_more i mid it before after so_far (r answer) text (some_seen server listen out i mid before so_far s) (session_seen answer mid it before after session) (seen.lines (suc i) answer text shown)

  pub all_seen : (server left : A) (count : ℕ) (listen last : Listener) (before after : Device (List ℕ)) → ServesSessions m server left count listen last before after (Ok tt) → ServesSessions k server left count listen last before after (Ok tt)
  all_seen server left count listen last before after (sessions.all some) = sessions.all (some_seen server listen before count left last after some)
  all_seen server left count listen last before after (sessions.fewer n mid few some gives) = sessions.fewer n mid few (some_seen server listen before n left mid after some) gives

  last_seen : (number : ℕ) (answer : R) (said after : Device (List ℕ)) (status : Status) → ServesLast (m.shown number answer) said after (stops.Said status) → ServesLast (k.shown number (r answer)) said after (stops.Said status)
  last_seen number answer said after status (line_cut text e w) = line_cut text (seen.lines number answer text e) w
  last_seen number answer said after status (line_starved text e o) = line_starved text (seen.lines number answer text e) o
  last_seen number answer said after status (starved e o) = starved (seen.starves number answer e) o

  pub stop_seen : (server left : A) (count : ℕ) (status : Status) (listen last : Listener) (before after : Device (List ℕ)) → ServesSessions m server left count listen last before after (Err (stops.Said status)) → ServesSessions k server left count listen last before after (Err (stops.Said status))
  stop_seen server left count status listen last before after (sessions.fault n mid said x few some fails e) = sessions.fault n mid said x few (some_seen server listen before n left mid said some) fails e
  stop_seen server left count status listen last before after (sessions.starved_to_give n mid few some gives) = sessions.starved_to_give n mid few (some_seen server listen before n left mid after some) gives
  stop_seen server left count status listen last before after (sessions.one_last n mid between said answer x few some session ends_so) =
      sessions.one_last n mid between said (r answer) (stops.Said status) few (some_seen server listen before n mid between said some) (session_seen answer mid left between last session) (last_seen (suc n) answer said after status ends_so)

  halted : (number : ℕ) (answer : R) (said after : Device (List ℕ)) (stop : X) → ((n : ℕ) (x : R) → m.shown n x ≡ Stopped stop → k.shown n (r x) ≡ Starved) → ServesLast (m.shown number answer) said after (stops.Answers stop) → ServesLast (k.shown number (r answer)) said after (stops.Said Memory)
  halted number answer said after stop h (stopped x e o) = starved (h number answer e) o

  -- where a stop is want of memory
  pub halt_seen : (server left : A) (count : ℕ) (stop : X) (listen last : Listener) (before after : Device (List ℕ)) → ((n : ℕ) (x : R) → m.shown n x ≡ Stopped stop → k.shown n (r x) ≡ Starved)
      → ServesSessions m server left count listen last before after (Err (stops.Answers stop)) → ServesSessions k server left count listen last before after (Err (stops.Said Memory))
  halt_seen server left count stop listen last before after h (sessions.one_last n mid between said answer x few some session ends_so) =
      sessions.one_last n mid between said (r answer) (stops.Said Memory) few (some_seen server listen before n mid between said some) (session_seen answer mid left between last session) (halted (suc n) answer said after stop h ends_so)

-- ---- a hub over a host is a server over this host

-- want of memory of a host is want of memory in its session
abbrev host_answer : {X : Type 0} → Result session.Served (HubServeStop X) → Result session.Served ServeStop
host_answer (Ok s) = Ok s
host_answer (Err (Serve stop)) = Err stop
host_answer (Err (Answers stop)) = Err (record { requests = 0; cause = causes.Memory })

module _ {X : Type 0} (a : answerers.Ghosts Hosted X) (services : (h : Hosted) → a.service h ≡ mirror_service h.service) (tables : (h : Hosted) → a.table h ≡ h.table) where
  host_serves : (x y : Hosted) (first last : Back) (answer : Result session.Served (HubServeStop X)) → ServesAnswers a x y first last answer
      → ses.Serves (ses.ends (a.service x) (a.table x) first.source first.sink) (ses.ends (a.service y) (a.table y) last.source last.sink) (host_answer answer)
  host_serves x y first last (Ok s) h = h.serves
  host_serves x y first last (Err (Serve stop)) h = h.serves
  host_serves x y first last (Err (Answers stop)) h = h.stops.none_failed

  as_host : (x : Hosted) (b : Back) → ses.ends (a.service x) (a.table x) b.source b.sink ≡ ses.host_ends x b.source b.sink
  as_host x b = ap (λ s. ses.ends s (a.table x) b.source b.sink) (services x) ∙ ap (λ t. ses.ends (mirror_service x.service) t b.source b.sink) (tables x)

  lines_so : (number : ℕ) (answer : Result session.Served (HubServeStop X)) (text : List ℕ) → (hub_manner a).shown number answer ≡ InLine text → host_manner.shown number (host_answer answer) ≡ InLine text
  lines_so number (Ok s) text e = cc e
  lines_so number (Err (Serve stop)) text e = by_want (is_want stop.cause) e
    where
      by_want : (b : Bool) → line_unless {X = X} b (shown_session number (Err stop)) ≡ InLine text → line_unless {X = ⊥} b (shown_session number (Err stop)) ≡ InLine text
      by_want true e = absurd (cc e)
      by_want false e = cc e
  lines_so number (Err (Answers stop)) text e = absurd (cc e)

  starves_so : (number : ℕ) (answer : Result session.Served (HubServeStop X)) → (hub_manner a).shown number answer ≡ Starved → host_manner.shown number (host_answer answer) ≡ Starved
  starves_so number (Ok s) e = absurd (cc e)
  starves_so number (Err (Serve stop)) e = by_want (is_want stop.cause) e
    where
      by_want : (b : Bool) → line_unless {X = X} b (shown_session number (Err stop)) ≡ Starved → line_unless {X = ⊥} b (shown_session number (Err stop)) ≡ Starved
      by_want true e = refl
      by_want false e = absurd (cc e)
  starves_so number (Err (Answers stop)) e = absurd (cc e)

  host_seen : SeenAs (hub_manner a) host_manner host_answer
  host_seen = record {
    serves = λ x y first last answer h.
        subst (λ e. ses.Serves e (ses.host_ends y last.source last.sink) (host_answer answer)) (as_host x first)
        (subst (λ e. ses.Serves (ses.ends (a.service x) (a.table x) first.source first.sink) e (host_answer answer)) (as_host y last) (host_serves x y first last answer h));
    lines = lines_so;
    starves = starves_so;
  }

  stopped_so : (stop : X) (number : ℕ) (answer : Result session.Served (HubServeStop X)) → (hub_manner a).shown number answer ≡ Stopped stop → host_manner.shown number (host_answer answer) ≡ Starved
  stopped_so stop number (Ok s) e = absurd (cc e)
  stopped_so stop number (Err (Serve x)) e = absurd (by_want (is_want x.cause) e)
    where
      by_want : (b : Bool) → line_unless {X = X} b (shown_session number (Err x)) ≡ Stopped stop → ⊥
      by_want true e = cc e
      by_want false e = cc e
  stopped_so stop number (Err (Answers x)) e = refl

  pub host_to_end : (host made left : Hosted) (count : ℕ) (result : Status) (listen last : Listener) (before said after : Device (List ℕ)) → made ≡ host → ServesSessions (hub_manner a) made left count listen last before said (Ok tt)
      → (table : List Object) → table ≡ left.table → ends.Ends Done (shown_table 0 table) result said after → ServesHost host count result listen last before after
  host_to_end host made left count result listen last before said after m s table t shown =
      subst (λ h. ServesHost h count result listen last before after) m
      (to_end left said (all_seen (hub_manner a) host_manner host_answer host_seen made left count listen last before said s) (subst (λ x. ends.Ends Done (shown_table 0 x) result said after) t shown))

  pub host_to_stop : (host made left : Hosted) (count : ℕ) (status : Status) (listen last : Listener) (before after : Device (List ℕ)) → made ≡ host → ServesSessions (hub_manner a) made left count listen last before after (Err (stops.Said status))
      → ServesHost host count status listen last before after
  host_to_stop host made left count status listen last before after m s =
      subst (λ h. ServesHost h count status listen last before after) m
      (to_stop left (stop_seen (hub_manner a) host_manner host_answer host_seen made left count status listen last before after s))

  pub host_halts : (host made left : Hosted) (count : ℕ) (stop : X) (listen last : Listener) (before after : Device (List ℕ)) → made ≡ host → ServesSessions (hub_manner a) made left count listen last before after (Err (stops.Answers stop))
      → ServesHost host count Memory listen last before after
  host_halts host made left count stop listen last before after m s =
      subst (λ h. ServesHost h count Memory listen last before after) m
      (to_stop left (halt_seen (hub_manner a) host_manner host_answer host_seen made left count stop listen last before after (stopped_so stop) s))

  -- whichever way it ended
  pub host_ends : (host made left : Hosted) (count : ℕ) (answer : Result (Unit {0}) (SessionsStop X)) (result : Status) (listen last : Listener) (before said after : Device (List ℕ)) → made ≡ host
      → ServesSessions (hub_manner a) made left count listen last before said answer → (table : List Object) → table ≡ left.table → EndsHost answer table result said after
      → ServesHost host count result listen last before after
  host_ends host made left count (Ok done) result listen last before said after m s table t shown = host_to_end host made left count result listen last before said after m s table t shown
  host_ends host made left count (Err (stops.Said status)) result listen last before said after m s table t (is, same) =
      subst (λ o. ServesHost host count result listen last before o) (sym same)
      (subst (λ r. ServesHost host count r listen last before said) (sym is) (host_to_stop host made left count status listen last before said m s))
  host_ends host made left count (Err (stops.Answers stop)) result listen last before said after m s table t (is, same) =
      subst (λ o. ServesHost host count result listen last before o) (sym same)
      (subst (λ r. ServesHost host count r listen last before said) (sym is) (host_halts host made left count stop listen last before said m s))

-- ---- the hub

-- The hub has had so many sessions, of which none is open; it isn't over.
pub record IsFree {A : Type 0} (number : ℕ) (hub : HubSeen A) : Type 0 where
  pub opened : hub.opened ≡ number
  pub seats : hub.seats ≡ []
  pub going : hub.over ≡ false

-- a hub that was made is new
pub made_new : {A : Type 0} (hub : HubSeen A) (answers : A) → hub ≡ new_hub answers → hub ≡ new_hub hub.answers
made_new hub answers e = e ∙ ap new_hub (sym (ap (λ h. h.answers) e))

pub new_is_free : {A : Type 0} (hub : HubSeen A) → hub ≡ new_hub hub.answers → IsFree 0 hub
new_is_free hub e = record { opened = ap (λ h. h.opened) e; seats = ap (λ h. h.seats) e; going = ap (λ h. h.over) e }

pub still_free : {A : Type 0} (number : ℕ) (before now : HubSeen A) → IsFree number before → LeavesBy true before now → IsFree (number + 1) now
still_free number before now f e = record {
  opened = ap (λ h. h.opened) e ∙ ap (λ n. n + 1) f.opened;
  seats = ap (λ h. h.seats) e ∙ f.seats;
  going = ap (λ h. h.over) e ∙ f.going;
}

-- one session more may be opened
pub may_open : {A : Type 0} (number : ℕ) (hub : HubSeen A) → IsFree number hub → number < 2 ^ 32 → refusal_of hub Open ≡ None
may_open number hub f few = by_over hub.over f.going
  where
    by_over : (b : Bool) → b ≡ false → (if b then Some Over else refusal_by hub Open) ≡ None
    by_over true e = absurd (cc e)
    by_over false e =
        let numbers : nat_le most_sessions hub.opened ≡ false = lt-leb most_sessions hub.opened (omega (arith, f.opened)) in
        let crowd : nat_le most_open (length hub.seats) ≡ false = lt-leb most_open (length hub.seats) (let none = ap length f.seats in omega (arith, none)) in
        rw (numbers, crowd) refl

-- a session whose line was written whole was served to its end or a fault
pub done_leaves : {A X : Type 0} (number : ℕ) (answer : Result session.Served (HubServeStop X)) (before now : HubSeen A) (out said : Device (List ℕ)) → SaysLine (shown_hub_answer number answer) out said → LeavesHub before now answer → LeavesBy true before now
done_leaves {X = X} number (Ok s) before now out said says l = l
done_leaves {X = X} number (Err (Serve stop)) before now out said says l = by_cause stop.cause says.shows l
  where
    by_cause : (cause : ServeCause) → line_unless {X = X} (is_want cause) (shown_session number (Err stop)) ≡ InLine says.text → LeavesBy (is_no_want cause) before now → LeavesBy true before now
    by_cause causes.ReadFault e l = l
    by_cause causes.WriteFault e l = l
    by_cause (causes.Cut at) e l = l
    by_cause (causes.BadFrame at) e l = l
    by_cause causes.SessionSpent e l = l
    by_cause causes.Memory e l = absurd (cc e)
done_leaves {X = X} number (Err (Answers stop)) before now out said says l = absurd (cc says.shows)

-- a listener whose parts are these
pub came_back_so : (ends : Back) (before : Listener) (told : Option Listening) (faults : ℕ) → told ≡ option_map (with_back ends) before.told → faults ≡ before.faults → record { told = told; faults = faults } ≡ came_back ends before
came_back_so ends before told faults t f = ap (λ x. record { told = x; faults = faults }) t ∙ ap (λ n. record { told = option_map (with_back ends) before.told; faults = n }) f

pub starts_so : (address : List ℕ) (before : Listener) (told : Option Listening) (faults : ℕ) (r : Result Unit Failed) → IfSome before.told (λ l. is_ok r ≡ is_some (started l address)) → told ≡ option_map (after_start address) before.told → faults ≡ risen_on_err r before.faults
    → Starts address (is_ok r) before (record { told = told; faults = faults })
starts_so address before told faults r a t f = record {
  as_told = a;
  after_is = ap (λ x. record { told = x; faults = faults }) t ∙ ap (λ n. record { told = option_map (after_start address) before.told; faults = n }) (f ∙ by_answer r);
}
  where
    by_answer : (o : Result Unit Failed) → risen_on_err o before.faults ≡ cond (is_ok o) before.faults (risen before.faults)
    by_answer (Ok u) = refl
    by_answer (Err e) = refl

-- a session is out once it was given
pub session_is_out : (first : Back) (before after : Listener) → GivesSession first before after → HasSessionOut after.told
session_is_out first before after g = by_told before.told after.told g.gives
  where
    by_told : (b a : Option Listening) → GivesWhereTold (Ok (Some first)) b a → HasSessionOut a
    by_told b None h = tt
    by_told None (Some l) h = absurd h
    by_told (Some x) (Some l) h = rw (ap (λ y. y.out) h.1.is) (omega arith)

-- a server listens over an output that is the same
pub listens_moved : (host : Hosted) (v : Serving) (result : Status) (listen after_it : Listener) (before same after : Device (List ℕ)) → same ≡ before → ListensAs host v result listen after_it same after → ListensAs host v result listen after_it before after
listens_moved host v result listen after_it before same after e h = subst (λ o. ListensAs host v result listen after_it o after) e h

-- a server whose address was started serves
pub begins_so : (host made : Hosted) (v : Serving) (result : Status) (listen begun last : Listener) (before after : Device (List ℕ)) → made ≡ host → Starts v.address true listen begun → ServesHost made v.count result begun last before after
    → ListensAs host v result listen last before after
begins_so host made v result listen begun last before after e starts serves = begins begun starts (subst (λ h. ServesHost h v.count result begun last before after) e serves)

-- what is asked of a server is the same
pub serves_so : (v u : Serving) (result : Status) (listen last : Listener) (before after : Scene) → v ≡ u → ServesAs v result listen last before after → ServesAs u result listen last before after
serves_so v u result listen last before after e h = subst (λ x. ServesAs x result listen last before after) e h
