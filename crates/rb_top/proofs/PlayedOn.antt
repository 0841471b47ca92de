-- Events that are played one after the other, each of which is shown.
use Rattle.std.proofs.Common.{◌≡◌, ◌<◌, ◌≤◌, ◌+◌, ℕ, suc, List, [], ◌∷◌, ◌++◌, length, drop, get_or, Option, Result, Ok, Err, ap, sym, ◌∙◌, refl, subst, inl, inr, arith, append_assoc}
use Rattle.std.proofs.Math.Seq.{drop-cons}
use Rattle.std.proofs.lemmas.List.{append-nil, drop_all, length-append}
use Rattle.rb_trees.specs.declared.services.Object.{Object}
use Rattle.rb_trees.specs.mirror.Services.{Service, mirror_service}
use Rattle.rb_meaning.specs.Shown.{line, shown_table}
use Rattle.rb_meaning_frames.specs.Histories.{Event, RepliesGoOn, Track, after, after_all}
use Rattle.rb_base.specs.Devices.{Device, failed}
use Rattle.rb_base.specs.Directories.{read_once}
use Rattle.rb_base.specs.Sinks.{with_bytes, WrotePrefix}
use Rattle.rb_base.proofs.Fronts.{HasFront}
use Rattle.rb_base.proofs.Pieces.{both_whole, bytes_none}
use Rattle.rb_exec.specs.Hosted.{Hosted}
use Rattle.rb_session.specs.declared.answerers.Answers as answerers
use Rattle.rb_hub.specs.Hubs.{HubSeen, new_hub}
use Rattle.rb_hub.specs.Serial.{ComeOut, ComesOut, IsSerial, no_event, refusal_at}
use Rattle.rb_hub.specs.Standing.{GoesOn, PlaysOne, Stands}
use Rattle.rb_hub.proofs.Serially.{comes_more, history_replies}
use Rattle.rb_hub.specs.declared.events.HubRefusal.{HubRefusal}
use Rattle.rb_hub.specs.declared.events.Out.{Out}
use Rattle.rb_hub_lines.specs.Lines.{BreaksAtLine}
use Rattle.rb_hub_lines.specs.Shown.{out_lines, shown_out}
use Rattle.rb_top.specs.Commands.{EndsUnread}
use Rattle.rb_top.specs.Ends.{Ends, Tells, fault_line, too_long_line}
use Rattle.rb_top.specs.HubRuns as runs
use Rattle.rb_top.specs.HubRuns.{Played, PlayedSome, PlaysEach, PlaysFrom, PlaysHub, PlaysNext, PlaysOn, PlaysText, Shows, outs_in, served_there, step_lines}
use Rattle.rb_top.specs.Loads.{Unread}
use Rattle.rb_top.specs.Printing.{Prints, stopped, stopped_status}
use Rattle.rb_top.specs.Runs.{Served}
use Rattle.rb_top.specs.Scene.{Scene}
use Rattle.rb_top.specs.Unusable.{NoText, text_fault, text_too_long}
use Rattle.rb_top.specs.declared.loading.TextStop.{TextStop}
use Rattle.rb_top.specs.declared.loading.TextStop.TheVariants as texts
use Rattle.rb_top.specs.declared.printing.PrintStop.{PrintStop}
use Rattle.rb_top.specs.declared.printing.PrintStop.TheVariants as print
use Rattle.rb_top.specs.declared.status.Status.{Status}
use Rattle.rb_top.specs.declared.status.Status.TheVariants.{Done, EventRefused, FileFault, FileTooLong, Memory}
use Rattle.rb_top.proofs.Printed.{stops_next, wrote_all, wrote_none}
use Rattle.rb_top.proofs.Telling.{starves, tells}

-- ---- the lines of what comes out

pub next_line : (given : List Out) (k : ℕ) (d : Out) → k < length given → out_lines (drop k given) ≡ line (shown_out (get_or given k d)) ++ out_lines (drop (k + 1) given)
next_line given k d h =
    let next : k + 1 ≡ suc k = omega arith in
    rw next (ap out_lines (drop-cons given k d h))

-- the item at a place is the one that is read there
pub next_out : (given : List Out) (k : ℕ) (item : Out) → k < length given → item ≡ get_or given k item → out_lines (drop k given) ≡ line (shown_out item) ++ out_lines (drop (k + 1) given)
next_out given k item h e = next_line given k item h ∙ ap (λ x. line (shown_out x) ++ out_lines (drop (k + 1) given)) (sym e)

pub no_more_said : (given : List Out) (k : ℕ) → length given ≤ k → out_lines (drop k given) ≡ []
no_more_said given k h = ap out_lines (drop_all k given h)

pub none_said : (given : List Out) (out : Device (List ℕ)) → HasFront out out (out_lines given) (out_lines given)
none_said given out = record { front = []; whole = refl; is = sym (bytes_none out) }

-- ---- one event

module _ {X : Type 0} (a : answerers.Ghosts Hosted X) (services : (h : Hosted) → a.service h ≡ mirror_service h.service) (tables : (h : Hosted) → a.table h ≡ h.table) where
  comes_out : (past : List Track) (event : Event) (before now : Hosted) (given : List Out) → ComesOut (a.service before) (a.table before) (a.table now) past event given
      → ComesOut (mirror_service before.service) before.table now.table past event given
  comes_out past event before now given c =
      subst (λ s. ComesOut s before.table now.table past event given) (services before)
      (subst (λ t. ComesOut (a.service before) t now.table past event given) (tables before)
      (subst (λ t. ComesOut (a.service before) (a.table before) t past event given) (tables now) c))

  plays_on : (past : List Track) (number : ℕ) (event : Event) (before now : HubSeen Hosted) (given : List Out) (Says : List ℕ → Type 0) → GoesOn a past event before now given → Says (step_lines number (refusal_at past event) given) → PlaysOn past number event before now Says
  plays_on past number event before now given Says g s = record {
    given = given;
    stands = g.stands;
    service = sym (services now.answers) ∙ g.service ∙ services before.answers;
    outs = comes_out past event before.answers now.answers given g.outs;
    says = s;
  }

  by_print : (past : List Track) (number : ℕ) (event : Event) (before now : HubSeen Hosted) (given : List Out) (r : Result (Unit {0}) PrintStop) (out out' : Device (List ℕ)) → GoesOn a past event before now given → Prints (step_lines number (refusal_at past event) given) r out out'
      → PlaysNext past number event before now r out out'
  by_print past number event before now given (Ok u) out out' g p = plays_on past number event before now given (λ text. out' ≡ with_bytes out text) g p
  by_print past number event before now given (Err stop) out out' g p = inl (plays_on past number event before now given (λ text. WrotePrefix (stopped stop out) out' text) g p)

  pub played_so : (number : ℕ) (event : Event) (before now : HubSeen Hosted) (old new : List Out) (refusal : Option HubRefusal) (r : Result (Unit {0}) PrintStop) (out out' : Device (List ℕ)) → old ≡ [] → PlaysOne a event before now old new (Ok refusal)
      → Prints (step_lines number refusal new) r out out' → PlaysFrom number event before now r out out'
  played_so number event before now old new refusal r out out' none p said = λ past stands.
      let went = p.goes past stands in
      by_print past number event before now p.given r out out' went.0
      (subst (λ x. Prints (step_lines number x p.given) r out out') went.1
      (subst (λ x. Prints (step_lines number refusal x) r out out') (p.gains ∙ ap (λ o. o ++ p.given) none) said))

-- ---- one serial history

come_out : (service : Service) (table left : List Object) (events : List Event) (text : List ℕ) (shows : Shows service table events text left) → ComeOut service table [] events (outs_in shows) left
come_out service table _ _ _ runs.no_event = no_event table []
come_out service table _ _ _ (runs.one_more events event text between left given shows comes) =
    comes_more service table between left [] events event (outs_in shows) given (come_out service table between events text shows) comes

pub is_serial : RepliesGoOn → (service : Service) (table left : List Object) (events : List Event) (text : List ℕ) (shows : Shows service table events text left) → IsSerial service table left events (outs_in shows)
is_serial law service table left events text shows =
    let all = come_out service table left events text shows in
    record { replies = history_replies service table left [] events (outs_in shows) law all; all = all }

-- ---- many events

-- The first of all events were played and shown, and these are left.
pub record SoFar (served : Served) (all left : List Event) (number : ℕ) (hub : HubSeen Hosted) (before out : Device (List ℕ)) : Type 0 where
  pub front : List Event
  pub parts : all ≡ front ++ left
  pub count : number ≡ length front
  pub text : List ℕ
  pub shows : Shows served.0 served.1 front text hub.answers.table
  pub written : out ≡ with_bytes before text
  pub stands : Stands (after_all [] front) hub
  pub service : mirror_service hub.answers.service ≡ served.0

pub none_so_far : (all : List Event) (hub : HubSeen Hosted) (out : Device (List ℕ)) → hub ≡ new_hub hub.answers → SoFar (served_there hub.answers) all all 0 hub out out
none_so_far all hub out e = record {
  front = [];
  parts = refl;
  count = refl;
  text = [];
  shows = runs.no_event;
  written = sym (bytes_none out);
  stands = record { opened = ap (λ h. h.opened) e; seated = ap (λ h. h.seats) e; going = ap (λ h. h.over) e };
  service = refl;
}

-- one event more leads on from where those before it led
leads_on : (past : List Track) (events : List Event) (event : Event) → after_all past (events ++ event ∷ []) ≡ after (after_all past events) event
leads_on past [] event = refl
leads_on past (e ∷ events) event = leads_on (after past e) events event

-- the sums of two ways to part events
parts_on : (all front left rest : List Event) (event : Event) → all ≡ front ++ left → left ≡ event ∷ rest → all ≡ (front ++ event ∷ []) ++ rest
parts_on all front left rest event p l = p ∙ ap (λ x. front ++ x) l ∙ sym (append_assoc front (event ∷ []) rest)

pub one_more : (served : Served) (all left rest : List Event) (event : Event) (number : ℕ) (hub now : HubSeen Hosted) (before out out' : Device (List ℕ)) → SoFar served all left number hub before out → left ≡ event ∷ rest → PlaysFrom (number + 1) event hub now (Ok tt) out out'
    → SoFar served all rest (number + 1) now before out'
one_more served all left rest event number hub now before out out' s l plays =
    let on = plays (after_all [] s.front) s.stands in
    let next : number + 1 ≡ suc (length s.front) = omega (arith, s.count) in
    record {
      front = s.front ++ event ∷ [];
      parts = parts_on all s.front left rest event s.parts l;
      count = omega (arith, s.count, length-append s.front (event ∷ []));
      text = s.text ++ step_lines (suc (length s.front)) (refusal_at (after_all [] s.front) event) on.given;
      shows = runs.one_more s.front event s.text hub.answers.table now.answers.table on.given s.shows (subst (λ x. ComesOut x hub.answers.table now.answers.table (after_all [] s.front) event on.given) s.service on.outs);
      written = both_whole before out out' s.text (step_lines (suc (length s.front)) (refusal_at (after_all [] s.front) event) on.given) s.written (subst (λ n. out' ≡ with_bytes out (step_lines n (refusal_at (after_all [] s.front) event) on.given)) next on.says);
      stands = subst (λ p. Stands p now) (sym (leads_on [] s.front event)) on.stands;
      service = on.service ∙ s.service;
    }

pub stops_here : RepliesGoOn → (served : Served) (all left rest : List Event) (event : Event) (number : ℕ) (stop : PrintStop) (hub now : HubSeen Hosted) (before out out' : Device (List ℕ)) → SoFar served all left number hub before out → left ≡ event ∷ rest → PlaysFrom (number + 1) event hub now (Err stop) out out'
    → PlayedSome served all stop before out'
stops_here law served all left rest event number stop hub now before out out' s l plays = by_case stop (plays (after_all [] s.front) s.stands)
  where
    next_is : number + 1 ≡ suc (length s.front)
    next_is = omega (arith, s.count)

    by_case : (stop : PrintStop) → PlaysNext (after_all [] s.front) (number + 1) event hub now (Err stop) out out' → PlayedSome served all stop before out'
    by_case stop (inl on) =
        let shows = runs.one_more s.front event s.text hub.answers.table now.answers.table on.given s.shows (subst (λ x. ComesOut x hub.answers.table now.answers.table (after_all [] s.front) event on.given) s.service on.outs) in
        record {
          front = s.front ++ event ∷ [];
          rest = rest;
          parts = parts_on all s.front left rest event s.parts l;
          text = s.text ++ step_lines (suc (length s.front)) (refusal_at (after_all [] s.front) event) on.given;
          left = now.answers.table;
          shows = shows;
          serial = is_serial law served.0 served.1 now.answers.table (s.front ++ event ∷ []) (s.text ++ step_lines (suc (length s.front)) (refusal_at (after_all [] s.front) event) on.given) shows;
          written = stops_next stop before out out' s.text (step_lines (suc (length s.front)) (refusal_at (after_all [] s.front) event) on.given) s.written
              (subst (λ n. WrotePrefix (stopped stop out) out' (step_lines n (refusal_at (after_all [] s.front) event) on.given)) next_is on.says);
        }
    by_case stop (inr w) = record {
      front = s.front;
      rest = left;
      parts = s.parts;
      text = s.text;
      left = hub.answers.table;
      shows = s.shows;
      serial = is_serial law served.0 served.1 hub.answers.table s.front s.text s.shows;
      written = subst (λ x. WrotePrefix (stopped x before) out' s.text) (sym w.0) (wrote_all before out' s.text (w.1 ∙ s.written));
    }

pub all_played : RepliesGoOn → (served : Served) (all left : List Event) (number : ℕ) (hub : HubSeen Hosted) (before out : Device (List ℕ)) → SoFar served all left number hub before out → left ≡ [] → Played served all hub.answers.table before out
all_played law served all left number hub before out s l =
    let shows = subst (λ x. Shows served.0 served.1 x s.text hub.answers.table) (sym (s.parts ∙ ap (λ x. s.front ++ x) l ∙ append-nil s.front)) s.shows in
    record { text = s.text; shows = shows; serial = is_serial law served.0 served.1 hub.answers.table all s.text shows; written = s.written }

-- without memory for a host nothing is played
pub none_played : RepliesGoOn → (served : Served) (events : List Event) (out : Device (List ℕ)) → PlaysHub served events Memory out out
none_played law served events out =
    runs.cut_off print.Memory
    (record { front = []; rest = events; parts = refl; text = []; left = served.1; shows = runs.no_event; serial = is_serial law served.0 served.1 served.1 [] [] runs.no_event; written = wrote_none out [] }) refl

-- the hub that plays is over the host that was made
pub hub_ended : (served made : Served) (events : List Event) (left : List Object) (table : List Object) (result : Status) (before said after : Device (List ℕ)) → made ≡ served → Played made events left before said → table ≡ left
    → Ends Done (shown_table 0 table) result said after → PlaysHub served events result before after
hub_ended served made events left table result before said after m played t shown =
    runs.to_end left said (subst (λ s. Played s events left before said) m played) (subst (λ x. Ends Done (shown_table 0 x) result said after) t shown)

pub hub_stopped : (served made : Served) (events : List Event) (stop : PrintStop) (result : Status) (before after : Device (List ℕ)) → made ≡ served → PlayedSome made events stop before after → result ≡ stopped_status stop → PlaysHub served events result before after
hub_stopped served made events stop result before after m played r = runs.cut_off stop (subst (λ s. PlayedSome s events stop before after) m played) r

-- a line that is no event's was told
pub refused_so : (text : List ℕ) (served : Served) (n m : ℕ) (result : Status) (before after : Device (List ℕ)) → BreaksAtLine text n → Ends (EventRefused m) (runs.bad_line m) result before after → n ≡ m → PlaysText text served result before after
refused_so text served n m result before after b said e = runs.breaks m (subst (BreaksAtLine text) e b) said

-- ---- the files

pub text_unread : (name : List ℕ) (stop : TextStop) (result : Status) (before after : Scene) → Unread stop name before.files after.files → EndsUnread stop name result before.out after.out → Tells (NoText before.files name) result before after
text_unread name texts.FileFault result before after u e = tells (NoText before.files name) (FileFault name) result (fault_line name) (failed (read_once before.files)) before after (text_fault u.0) u.1 e
text_unread name texts.TooLong result before after u e = tells (NoText before.files name) (FileTooLong name) result (too_long_line name) (read_once before.files) before after (text_too_long u.0) u.1 e
text_unread name texts.Memory result before after u e = starves (NoText before.files name) result before after 1 e u
