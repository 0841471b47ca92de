-- How a session goes on and ends, piece by piece.
use Rattle.std.proofs.Common.{◌≡◌, ◌+◌, ◌-◌, ◌<◌, ◌≤◌, zero, suc, arith, refl, ap, sym, ◌∙◌, subst, ℕ, Bool, true, false, List, [], ◌∷◌, ◌++◌, length, take, length-append, Option, Some, None, Result, Ok, Err}
use Rattle.std.proofs.lemmas.List.{length-take-le}
use Rattle.rb_base.specs.Devices.{Device, failed}
use Rattle.rb_base.specs.Sinks.{with_bytes, WrotePrefix}
use Rattle.rb_base.specs.Sources.{told_before, before_giving, IsAtEnd}
use Rattle.rb_meaning_bytes.specs.formats.Fields.{IsBytes}
use Rattle.rb_meaning_frames.specs.Laws.{EachIsDividedOnce}
use Rattle.rb_meaning_frames.specs.Streams.{most_requests}
use Rattle.rb_meaning_frames.specs.Reading.{Standing, Whole, Waiting, Breaking, standing, requests_of, rest_of, StreamsAreRead, FrontsAreRead}
use Rattle.rb_meaning_frames.specs.Histories.{Track, is_waiting, goes_on, asked_by, new_requests, RepliesInOrder}
use Rattle.rb_session.specs.Answering.{InTurn}
use Rattle.rb_session.specs.declared.answerers.Answers as answerers
use Rattle.rb_session.specs.declared.serving.ServeCause.TheVariants as causes
use Rattle.rb_session.specs.Serving.{Ends}
use Rattle.rb_hub.specs.Serial.{end_by, end_at}
use Rattle.rb_hub.specs.Hubs.{HubSeen, StopsAt}
use Rattle.rb_hub.specs.Serving.{hub_ends, IsRead, most_read, ServesUnlessStopped}
use Rattle.rb_hub.specs.Passing.{track, StandsWith, IsLast, IsNew, Passes, PassesOn, Shuts, ServesNew, says_none, stopped_at, answer_of, answer_by, MayLeave, LeavesLast}
use Rattle.rb_hub.specs.declared.events.End.{End}
use Rattle.rb_hub.specs.declared.passing.Passed.{Passed}
use Rattle.rb_hub.specs.declared.passing.PassStop.{PassStop}
use Rattle.rb_hub.specs.declared.passing.PassStop.TheVariants.{WriteFault, Memory, Answers}
use Rattle.rb_hub.proofs.Dividing as dividing
use Rattle.rb_hub.proofs.Dividing.{is_read}
use Rattle.rb_hub.proofs.Last.{came_at, came_so, short_so, most_bytes}
use Rattle.rb_hub.proofs.Written.{bytes_twice, fails_next}
use Rattle.rb_hub.proofs.Led.{led_append}
use Rattle.rb_hub.proofs.SoFar.{SoFar, AllWritten, Laws, giving_none, none_so_far, one_piece, led_on}
use Rattle.rb_hub.proofs.ServedTo.{at_end, hub_ended, read_failed, write_failed, starved, halted, ended_answered, read_answered, write_answered, starved_answered, halted_answered, ended_new}

-- the laws of streams and of histories
pub record AllLaws : Type 0 where
  pub laws : Laws
  pub once : EachIsDividedOnce
  pub streams : StreamsAreRead
  pub fronts : FrontsAreRead

read_so : AllLaws → (stream : List ℕ) → IsBytes stream → dividing.IsRead stream
read_so laws stream bytes = is_read laws.once laws.streams laws.fronts stream bytes

-- ---- so far, wherever the hub stood

-- the requests that came led so far
abbrev pub LedTo : {A X : Type 0} → answerers.Ghosts A X → HubSeen A → HubSeen A → List (List ℕ) → Type 0
LedTo a hub now payloads = InTurn a.does hub.answers payloads now.answers

-- the session is open, and was served so far
abbrev pub Going : {A X : Type 0} → answerers.Ghosts A X → ℕ → HubSeen A → HubSeen A → Ends → Ends → ℕ → Type 0
Going a number hub now first last requests =
    (past : List Track) → number ≡ length past → StandsWith past (track [] true) hub
    → (stream : List ℕ) × SoFar past now first last stream true requests (AllWritten first last) (LedTo a hub now)

pub not_begun : {A X : Type 0} (a : answerers.Ghosts A X) (number : ℕ) (hub : HubSeen A) (first : Ends) → StreamsAreRead → FrontsAreRead → Going a number hub hub first first 0
not_begun a number hub first law fronts past is s = ([], none_so_far past hub first (LedTo a hub hub) law fronts s refl)

pub is_last : {A X : Type 0} (a : answerers.Ghosts A X) (number : ℕ) (hub now : HubSeen A) (first last : Ends) (requests : ℕ) → IsNew number hub → Going a number hub now first last requests → IsLast number true now
is_last a number hub now first last requests new going =
    let s = going new.0 new.1 new.2 in (new.0, s.0, new.1, s.1.stands)

-- The session wasn't closed, or was: the ends are those before, but for what the source tells.
moved : {A : Type 0} {Led : List (List ℕ) → Type 0} (past : List Track) (hub : HubSeen A) (first mid last : Ends) (stream : List ℕ) (requests : ℕ) → SoFar past hub first mid stream true requests (AllWritten first mid) Led → mid.source ≡ before_giving [] last.source
    → last.sink ≡ mid.sink → last.table ≡ mid.table → last.service ≡ mid.service → SoFar past hub first last stream true requests (AllWritten first last) Led
moved past hub first mid last stream requests s source sink table service = record {
  pieces = s.pieces;
  joined_is = s.joined_is;
  reads = s.reads;
  bytes = s.bytes;
  goes = s.goes;
  stands = s.stands;
  gave = s.gave ∙ ap (before_giving stream) (source ∙ giving_none last.source);
  leads = s.leads;
  asked = s.asked;
  replies = s.replies;
  answered = subst (λ t. RepliesInOrder first.service first.table (asked_by (length past) (requests_of stream)) s.replies t) (sym table) s.answered;
  service = service ∙ s.service;
  wrote = sink ∙ s.wrote;
  led = s.led;
  count = s.count;
}

-- ---- the source has ended, or a read failed

-- a call that took nothing
gave_none : (mid last : Device (List ℕ)) (buffer : List ℕ) (count : ℕ) → count ≡ 0 → mid ≡ before_giving (take count buffer) last → mid ≡ before_giving [] last
gave_none mid last buffer count none is = is ∙ ap (λ n. before_giving (take n buffer) last) none

ended_there : (mid last : Device (List ℕ)) → mid ≡ before_giving [] last → IsAtEnd mid.told → IsAtEnd last.told
ended_there mid last is ended = subst IsAtEnd (ap (λ (d : Device (List ℕ)). d.told) (is ∙ giving_none last)) ended

-- what closing the last session does, and how it ends
abbrev pub Closing : {A : Type 0} → ℕ → HubSeen A → HubSeen A → End → Type 0
Closing number before now end =
    (past : List Track) (stream : List ℕ) → number ≡ length past → StandsWith past (track stream true) before → Shuts past stream before now × (end ≡ end_at (rest_of stream) stream)

pub source_ended : {A X : Type 0} (a : answerers.Ghosts A X) (number requests count : ℕ) (buffer : List ℕ) (hub between now : HubSeen A) (first : Ends) (source source' sink : Device (List ℕ)) (end : End) → AllLaws
    → Going a number hub between first (hub_ends a between source sink) requests → Closing number between now end → count ≡ 0 → source ≡ before_giving (take count buffer) source' → IsAtEnd source.told
    → a.service now.answers ≡ a.service between.answers
    → (past : List Track) → number ≡ length past → StandsWith past (track [] true) hub → ServesNew {X = X} a past hub now first (hub_ends a now source' sink) (answer_of requests end)
source_ended {A} {X} a number requests count buffer hub between now first source source' sink end laws going closing none gave finished service past is new =
    let g = going past is new in
    let stream = g.0 in
    let s = g.1 in
    let closed = closing past stream is s.stands in
    let took = gave_none source source' buffer count none gave in
    let so = moved past between first (hub_ends a between source sink) (hub_ends a now source' sink) stream requests s took refl (ap a.table closed.0.same) service in
    let served = at_end X past between first (hub_ends a now source' sink) stream requests so (read_so laws stream s.bytes) (ended_there source source' took finished) in
    ended_new {A = A} {X = X} a past hub now first (hub_ends a now source' sink) requests end
    (subst (λ e. ServesUnlessStopped {X = X} first (hub_ends a now source' sink) (answer_of requests e)) (sym closed.1) served)
    (ended_answered a past between hub.answers between.answers now.answers first (hub_ends a now source' sink) stream true requests end so closed.0.same)
    (led_on past between now first (hub_ends a now source' sink) stream true requests (AllWritten first (hub_ends a now source' sink)) laws.laws so closed.0.stands)

pub read_fault : {A X : Type 0} (a : answerers.Ghosts A X) (number requests : ℕ) (hub between now : HubSeen A) (first : Ends) (source source' sink : Device (List ℕ)) (end : End) → AllLaws
    → Going a number hub between first (hub_ends a between source sink) requests → Closing number between now end → source' ≡ failed source
    → (past : List Track) → number ≡ length past → StandsWith past (track [] true) hub → ServesNew {X = X} a past hub now first (hub_ends a now source' sink) (stopped_at requests causes.ReadFault)
read_fault {A} {X} a number requests hub between now first source source' sink end laws going closing fails past is new =
    let g = going past is new in
    let stream = g.0 in
    let s = g.1 in
    let closed = closing past stream is s.stands in
    let mid = hub_ends a between source sink in
    let l = led_on past between now first mid stream true requests (AllWritten first mid) laws.laws s closed.0.stands in
    record {
      serves = read_failed X past between first mid (hub_ends a now source' sink) stream requests s (read_so laws stream s.bytes) fails refl (ap a.table closed.0.same);
      stops = tt;
      answers = read_answered a past between hub.answers between.answers now.answers first mid (hub_ends a now source' sink) stream requests s fails refl closed.0.same;
      leads = record {
        pieces = l.pieces;
        stream = l.stream;
        joined_is = l.joined_is;
        reads = l.reads;
        gave = l.gave ∙ ap (λ (d : Device (List ℕ)). told_before l.stream d.told) (sym fails);
        stands = l.stands;
        leads = l.leads;
        replies = l.replies;
        asked = l.asked;
        answered = subst (λ t. RepliesInOrder first.service first.table (asked_by (length past) (requests_of l.stream)) l.replies t) (sym (ap a.table closed.0.same)) l.answered;
      };
      over = λ e. absurd (cc e);
    }

-- ---- a piece more

-- what a piece does, from any stream
abbrev pub Passing : {A X : Type 0} → answerers.Ghosts A X → ℕ → List ℕ → HubSeen A → HubSeen A → Device (List ℕ) → Device (List ℕ) → Result Passed (PassStop X) → Type 0
Passing a number piece before now old new answer =
    (past : List Track) (stream : List ℕ) → number ≡ length past → StandsWith past (track stream true) before → PassesOn a past stream piece before now old new answer

bytes_on : (xs ys : List ℕ) → IsBytes xs → IsBytes ys → IsBytes (xs ++ ys)
bytes_on [] ys b d i = d i
bytes_on (x ∷ xs) ys b d zero = b zero
bytes_on (x ∷ xs) ys b d (suc i) = bytes_on xs ys (λ k. b (suc k)) d i

-- a read that gave something
pub was_read : (buffer : List ℕ) (count : ℕ) → (count ≡ 0 → ⊥) → count ≤ length buffer → length buffer ≤ most_read → IsRead (take count buffer)
was_read buffer count some within few =
    let size = length-take-le count buffer within in
    record { some = omega (arith, some); few = omega arith }

-- so far, with a piece more
grown : {A X : Type 0} (a : answerers.Ghosts A X) (past : List Track) (hub between now : HubSeen A) (first : Ends) (source source' sink sink' : Device (List ℕ)) (stream : List ℕ) (requests : ℕ) (piece : List ℕ) (passed : Passed) (frames : List ℕ) (Wrote : List ℕ → Type 0)
    → AllLaws → (s : SoFar past between first (hub_ends a between source sink) stream true requests (AllWritten first (hub_ends a between source sink)) (LedTo a hub between)) → IsRead piece → IsBytes piece → source ≡ before_giving piece source'
    → a.service now.answers ≡ a.service between.answers → Passes a past stream piece between now passed frames → ((front : List ℕ) → sink ≡ with_bytes first.sink front → Wrote (front ++ frames))
    → SoFar past now first (hub_ends a now source' sink') (stream ++ piece) (goes_on (stream ++ piece)) (requests + passed.replies) Wrote (LedTo a hub now)
grown a past hub between now first source source' sink sink' stream requests piece passed frames Wrote laws s read bytes gave service p writes =
    one_piece a past between now first (hub_ends a between source sink) (hub_ends a now source' sink') stream requests piece passed frames Wrote (LedTo a hub between) (LedTo a hub now) laws.laws s
    refl refl service refl read (bytes_on stream piece s.bytes bytes) gave p writes
    (λ payloads led. led_append a.does hub.answers between.answers now.answers payloads (new_requests stream piece) led p.led)

writes_on : (first sink sink' : Device (List ℕ)) (frames front : List ℕ) → sink' ≡ with_bytes sink frames → sink ≡ with_bytes first front → sink' ≡ with_bytes first (front ++ frames)
writes_on first sink sink' frames front wrote was = wrote ∙ ap (λ d. with_bytes d frames) was ∙ bytes_twice first front frames

says_goes : (s : Standing) (stream : List ℕ) → says_none (end_by s stream) ≡ is_waiting s
says_goes Waiting stream = refl
says_goes (Whole size) stream = refl
says_goes (Breaking at) stream = refl

-- whether the session goes on, by what was said
goes_by : (stream : List ℕ) (end : Option End) → end ≡ end_by (standing (rest_of stream)) stream → goes_on stream ≡ says_none end
goes_by stream end is = sym (ap says_none is ∙ says_goes (standing (rest_of stream)) stream)

pub still_going : {A X : Type 0} (a : answerers.Ghosts A X) (number requests : ℕ) (piece : List ℕ) (hub between now : HubSeen A) (first : Ends) (source source' sink sink' : Device (List ℕ)) (passed : Passed) → AllLaws
    → Going a number hub between first (hub_ends a between source sink) requests → Passing {X = X} a number piece between now sink sink' (Ok passed) → passed.end ≡ None → IsRead piece → IsBytes piece
    → source ≡ before_giving piece source' → a.service now.answers ≡ a.service between.answers → Going a number hub now first (hub_ends a now source' sink') (requests + passed.replies)
still_going {A} {X} a number requests piece hub between now first source source' sink sink' passed laws going passing none read bytes gave service past is new =
    let g = going past is new in
    let stream = g.0 in
    let s = g.1 in
    let p = passing past stream is s.stands in
    let last = hub_ends a now source' sink' in
    let goes = goes_by (stream ++ piece) passed.end p.1.end_is ∙ ap says_none none in (
      stream ++ piece,
      subst (λ b. SoFar past now first last (stream ++ piece) b (requests + passed.replies) (AllWritten first last) (LedTo a hub now)) goes
          (grown a past hub between now first source source' sink sink' stream requests piece passed p.0 (AllWritten first last) laws s read bytes gave service p.1
          (λ front was. writes_on first.sink sink sink' p.0 front p.2 was)),
    )

pub has_ended : {A X : Type 0} (a : answerers.Ghosts A X) (number requests : ℕ) (piece : List ℕ) (hub between now : HubSeen A) (first : Ends) (source source' sink sink' : Device (List ℕ)) (passed : Passed) (end : End) → AllLaws
    → Going a number hub between first (hub_ends a between source sink) requests → Passing {X = X} a number piece between now sink sink' (Ok passed) → passed.end ≡ Some end → IsRead piece → IsBytes piece
    → source ≡ before_giving piece source' → a.service now.answers ≡ a.service between.answers
    → (past : List Track) → number ≡ length past → StandsWith past (track [] true) hub → ServesNew {X = X} a past hub now first (hub_ends a now source' sink') (answer_of (requests + passed.replies) end)
has_ended {A} {X} a number requests piece hub between now first source source' sink sink' passed end laws going passing some read bytes gave service past is new =
    let g = going past is new in
    let stream = g.0 in
    let s = g.1 in
    let p = passing past stream is s.stands in
    let last = hub_ends a now source' sink' in
    let whole = stream ++ piece in
    let count = requests + passed.replies in
    let over : goes_on whole ≡ false = goes_by whole passed.end p.1.end_is ∙ ap says_none some in
    let so = grown a past hub between now first source source' sink sink' stream requests piece passed p.0 (AllWritten first last) laws s read bytes gave service p.1
    (λ front was. writes_on first.sink sink sink' p.0 front p.2 was) in
    ended_new {A = A} {X = X} a past hub now first last count end
    (hub_ended X past now first last whole (goes_on whole) count end so (read_so laws whole so.bytes) (sym p.1.end_is ∙ some))
    (ended_answered a past now hub.answers now.answers now.answers first last whole (goes_on whole) count end so refl)
    (led_on past now now first last whole (goes_on whole) count (AllWritten first last) laws.laws so (subst (λ b. StandsWith past (track whole b) now) over p.1.stands))

pub no_end : (o : Option End) → ((end : End) → o ≡ Some end → ⊥) → o ≡ None
no_end None h = refl
no_end (Some end) h = absurd (h end refl)

-- ---- counting

-- no session has more requests than may be
pub counts_so : {A : Type 0} {Led : List (List ℕ) → Type 0} (past : List Track) (hub : HubSeen A) (first last : Ends) (stream : List ℕ) (is_open : Bool) (requests : ℕ) (Wrote : List ℕ → Type 0) → AllLaws → (s : SoFar past hub first last stream is_open requests Wrote Led) → requests ≤ most_requests
counts_so past hub first last stream is_open requests Wrote laws s =
    let few = (read_so laws stream s.bytes).few in
    let count = s.count in
    omega arith

pub few_passed : {A X : Type 0} (a : answerers.Ghosts A X) (number requests : ℕ) (piece : List ℕ) (hub between now : HubSeen A) (first : Ends) (source source' sink sink' : Device (List ℕ)) (passed : Passed) → AllLaws → IsNew number hub
    → Going a number hub between first (hub_ends a between source sink) requests → Passing {X = X} a number piece between now sink sink' (Ok passed) → IsRead piece → IsBytes piece
    → source ≡ before_giving piece source' → a.service now.answers ≡ a.service between.answers → requests + passed.replies ≤ most_requests
few_passed {A} {X} a number requests piece hub between now first source source' sink sink' passed laws new going passing read bytes gave service =
    let g = going new.0 new.1 new.2 in
    let stream = g.0 in
    let s = g.1 in
    let p = passing new.0 stream new.1 s.stands in
    let last = hub_ends a now source' sink' in
    counts_so new.0 now first last (stream ++ piece) (goes_on (stream ++ piece)) (requests + passed.replies) (AllWritten first last) laws
    (grown a new.0 hub between now first source source' sink sink' stream requests piece passed p.0 (AllWritten first last) laws s read bytes gave service p.1
    (λ front was. writes_on first.sink sink sink' p.0 front p.2 was))

-- how many bytes may come still
pub smaller : {A X : Type 0} (a : answerers.Ghosts A X) (number requests : ℕ) (piece : List ℕ) (hub between now : HubSeen A) (first : Ends) (source sink sink' : Device (List ℕ)) (passed : Passed) → IsNew number hub
    → Going a number hub between first (hub_ends a between source sink) requests → Passing {X = X} a number piece between now sink sink' (Ok passed) → passed.end ≡ None → IsRead piece
    → most_bytes - came_at number now.seats < most_bytes - came_at number between.seats
smaller {A} {X} a number requests piece hub between now first source sink sink' passed new going passing none read =
    let past = new.0 in
    let g = going past new.1 new.2 in
    let stream = g.0 in
    let s = g.1 in
    let p = passing past stream new.1 s.stands in
    let whole = stream ++ piece in
    let goes = goes_by whole passed.end p.1.end_is ∙ ap says_none none in
    let stands = subst (λ b. StandsWith past (track whole b) now) goes p.1.stands in
    let before = came_so number past stream between new.1 s.stands in
    let after = came_so number past whole now new.1 stands in
    let bound = short_so number past stream between new.1 s.stands in
    let some = read.some in
    omega (arith, length-append stream piece)

-- ---- a piece that wasn't passed on whole

pub may_leave : {A X : Type 0} (a : answerers.Ghosts A X) (number requests : ℕ) (piece : List ℕ) (hub between now : HubSeen A) (first : Ends) (source source' sink sink' : Device (List ℕ)) (stop : PassStop X) → AllLaws → IsNew number hub
    → Going a number hub between first (hub_ends a between source sink) requests → Passing a number piece between now sink sink' (Err stop) → IsRead piece → IsBytes piece
    → source ≡ before_giving piece source' → a.service now.answers ≡ a.service between.answers → MayLeave number requests now stop
may_leave a number requests piece hub between now first source source' sink sink' (WriteFault passed) laws new going passing read bytes gave service =
    let past = new.0 in
    let g = going past new.1 new.2 in
    let stream = g.0 in
    let s = g.1 in
    let p = passing past stream new.1 s.stands in
    let last = hub_ends a now source' sink' in
    let whole = stream ++ piece in
    let Failed : List ℕ → Type 0 = λ frames. WrotePrefix (failed first.sink) sink' frames in (
      (past, whole, new.1, subst (λ b. StandsWith past (track whole b) now) (goes_by whole passed.end p.1.end_is) p.1.stands),
      counts_so past now first last whole (goes_on whole) (requests + passed.replies) Failed laws
          (grown a past hub between now first source source' sink sink' stream requests piece passed p.0 Failed laws s read bytes gave service p.1
          (λ front was. fails_next first.sink sink sink' front p.0 was p.2)),
    )
may_leave a number requests piece hub between now first source source' sink sink' Memory laws new going passing read bytes gave service = tt
may_leave a number requests piece hub between now first source source' sink sink' (Answers stop) laws new going passing read bytes gave service = tt

pub has_stopped : {A X : Type 0} (a : answerers.Ghosts A X) (number requests : ℕ) (piece : List ℕ) (hub between mid now : HubSeen A) (first : Ends) (source source' sink sink' : Device (List ℕ)) (stop : PassStop X) → AllLaws
    → Going a number hub between first (hub_ends a between source sink) requests → Passing a number piece between mid sink sink' (Err stop) → LeavesLast number mid now stop → IsRead piece → IsBytes piece
    → source ≡ before_giving piece source' → a.service mid.answers ≡ a.service between.answers → a.service now.answers ≡ a.service mid.answers
    → (past : List Track) → number ≡ length past → StandsWith past (track [] true) hub → ServesNew a past hub now first (hub_ends a now source' sink') (answer_by requests stop)
has_stopped {A} {X} a number requests piece hub between mid now first source source' sink sink' (WriteFault passed) laws going passing leaves read bytes gave service service' past is new =
    let g = going past is new in
    let stream = g.0 in
    let s = g.1 in
    let p = passing past stream is s.stands in
    let whole = stream ++ piece in
    let count = requests + passed.replies in
    let goes = goes_by whole passed.end p.1.end_is in
    let shut = leaves past whole is (subst (λ b. StandsWith past (track whole b) mid) goes p.1.stands) in
    let last = hub_ends a now source' sink' in
    let same : hub_ends a mid source' sink' ≡ last = sym (ap (λ (x : A). record { service = a.service x; table = a.table x; source = source'; sink = sink' }) shut.same) in
    let Failed : Ends → List ℕ → Type 0 = λ e frames. WrotePrefix (failed first.sink) e.sink frames in
    let at_mid = grown a past hub between mid first source source' sink sink' stream requests piece passed p.0 (Failed (hub_ends a mid source' sink')) laws s read bytes gave service p.1
    (λ front was. fails_next first.sink sink sink' front p.0 was p.2) in
    let so = subst (λ e. SoFar past mid first e whole (goes_on whole) count (Failed e) (LedTo a hub mid)) same at_mid in
    let some = p.3 in
    record {
      serves = write_failed X past mid first last whole (goes_on whole) count so (read_so laws whole so.bytes) (omega arith);
      stops = tt;
      answers = write_answered a past mid hub.answers mid.answers now.answers first last whole (goes_on whole) count so shut.same;
      leads = led_on past mid now first last whole (goes_on whole) count (Failed last) laws.laws so shut.stands;
      over = λ e. absurd (cc e);
    }
has_stopped {A} {X} a number requests piece hub between mid now first source source' sink sink' Memory laws going passing leaves read bytes gave service service' past is new =
    let g = going past is new in
    let stream = g.0 in
    let s = g.1 in
    let p = passing past stream is s.stands in
    record {
      serves = starved past between first (hub_ends a between source sink) (hub_ends a now source' sink') stream requests piece s gave p.0;
      stops = tt;
      answers = starved_answered a past between hub.answers between.answers mid.answers now.answers first (hub_ends a between source sink) (hub_ends a now source' sink') stream requests piece laws.laws.stay s
          gave p.0 p.2 (ap (λ (h : HubSeen A). h.answers) leaves);
      leads = tt;
      over = λ e. ap (λ (h : HubSeen A). h.over) leaves ∙ p.1;
    }
has_stopped {A} {X} a number requests piece hub between mid now first source source' sink sink' (Answers stop) laws going passing leaves read bytes gave service service' past is new =
    let g = going past is new in
    let stream = g.0 in
    let s = g.1 in
    let p = passing past stream is s.stands in
    let last = hub_ends a now source' sink' in
    let stops = subst (λ (h : HubSeen A). StopsAt a between.answers h.answers (asked_by (length past) (new_requests stream piece)) p.2 stop) (sym leaves) p.3 in
    record {
      serves = tt;
      stops = halted a past between now.answers first (hub_ends a between source sink) last stream requests piece p.2 stop s refl refl read gave p.0 stops;
      answers = halted_answered a past between hub.answers between.answers now.answers first (hub_ends a between source sink) last stream requests piece p.2 stop laws.laws.stay s gave p.0 stops;
      leads = tt;
      over = λ e. ap (λ (h : HubSeen A). h.over) leaves ∙ p.1;
    }
