-- Sessions over whoever keeps requests.
use Rattle.std.proofs.Common.{◌≡◌, ◌<◌, ◌≤◌, ◌+◌, suc, arith, refl, ap, sym, ◌∙◌, subst, ℕ, Bool, true, false, List, [], ◌∷◌, ◌++◌, length, take, append_assoc, append-nil, length-append, inl, inr, Option, Result, Ok, Err}
use Rattle.std.specs.Prelude.{if◌then◌else◌}
use Rattle.rb_trees.specs.mirror.Services.{mirror_service}
use Rattle.rb_meaning_frames.specs.Reading.{requests_of}
use Rattle.rb_base.specs.Counts.{risen}
use Rattle.rb_base.specs.Devices.{Device}
use Rattle.rb_base.specs.Listening.{Back}
use Rattle.rb_disk.specs.Images.{DiskRecord}
use Rattle.rb_session.specs.Answering.{InTurn}
use Rattle.rb_session.specs.Serving as ses
use Rattle.rb_session.specs.declared.answerers.Answers as answerers
use Rattle.rb_session.specs.declared.serving.Served.{Served}
use Rattle.rb_session.specs.declared.serving.ServeCause.{ServeCause}
use Rattle.rb_session.specs.declared.serving.ServeCause.TheVariants as causes
use Rattle.rb_session.specs.declared.serving.ServeStop.{ServeStop}
use Rattle.rb_hub.specs.Serving.{AnswersStream, CountsRequests, ServesUnlessStopped, StopsNext, WhereDone, is_no_want}
use Rattle.rb_hub.specs.declared.serving.HubServeStop.{HubServeStop}
use Rattle.rb_hub.specs.declared.serving.HubServeStop.TheVariants as served
use Rattle.rb_journal.specs.Keeping.{AnswersKept, SeenKept, StopsKept}
use Rattle.rb_journal.specs.declared.stops.JournalStop.{JournalStop}
use Rattle.rb_journal.specs.declared.stops.JournalStop.TheVariants as stops
use Rattle.rb_top.specs.KeepParts.{IsReady, ServesKeptTo}
use Rattle.rb_top.specs.KeepRuns.{Counting, EachImageHolds, IsServingStop, answered_for, counted, faults_by, faults_in, kept_at, kept_manner, uncounted}
use Rattle.rb_top.specs.Manners.{ServesAnswers, answers_at, hub_manner, is_want, line_unless, shown_hub_answer}
use Rattle.rb_top.specs.Sessions as sessions
use Rattle.rb_top.specs.Sessions.{InLine, Listener, ServedSome, ServesLast, ServesSession, ServesSessions, Starved, Stopped, line_cut, line_starved, starved, stopped}
use Rattle.rb_top.specs.SessionLines.{shown_session}
use Rattle.rb_top.specs.declared.sessions.SessionsStop.{SessionsStop}
use Rattle.rb_top.specs.declared.sessions.SessionsStop.TheVariants as ends
use Rattle.rb_top.specs.declared.status.Status.{Status}
use Rattle.rb_top.specs.declared.status.Status.TheVariants.{Memory}
use Rattle.rb_top.proofs.KeptRequests.{Laws, images_after, images_at_stop, take_front, turns_append, turns_as}

-- how a session over whoever keeps requests was served
abbrev pub KeptAnswer : Type 0
KeptAnswer = Result Served (HubServeStop JournalStop)

-- ---- which requests of a session count

count_by : (b : Bool) (count : ℕ) (requests front rest : List (List ℕ)) → requests ≡ front ++ rest → WhereDone b (count ≡ length front)
    → (more : List (List ℕ)) × ((if b then take count requests else requests) ≡ front ++ more)
count_by true count requests front rest parts is = ([], ap (take count) parts ∙ ap (λ n. take n (front ++ rest)) is ∙ take_front front rest ∙ sym (append-nil front))
count_by false count requests front rest parts is = (rest, parts)

-- Those that were answered count first.
counted_front : (answer : KeptAnswer) (requests front rest : List (List ℕ)) → requests ≡ front ++ rest → CountsRequests answer (length front) → (more : List (List ℕ)) × (counted answer requests ≡ front ++ more)
counted_front (Ok s) requests front rest parts is = count_by true s.requests requests front rest parts is
counted_front (Err (served.Serve stop)) requests front rest parts is = count_by (is_no_want stop.cause) stop.requests requests front rest parts is
counted_front (Err (served.Answers stop)) requests front rest parts is = (rest, parts)

line_wants : (cause : ServeCause) (number : ℕ) (stop : ServeStop) (text : List ℕ) → line_unless {X = JournalStop} (is_want cause) (shown_session number (Err stop)) ≡ InLine text → is_no_want cause ≡ true
line_wants causes.ReadFault number stop text e = refl
line_wants causes.WriteFault number stop text e = refl
line_wants (causes.Cut at) number stop text e = refl
line_wants (causes.BadFrame at) number stop text e = refl
line_wants causes.SessionSpent number stop text e = refl
line_wants causes.Memory number stop text e = absurd (cc e)

count_line : (b : Bool) (count : ℕ) (requests front rest : List (List ℕ)) → b ≡ true → requests ≡ front ++ rest → WhereDone b (count ≡ length front)
    → (if b then take count requests else requests) ≡ front
count_line true count requests front rest line parts is = ap (take count) parts ∙ ap (λ n. take n (front ++ rest)) is ∙ take_front front rest
count_line false count requests front rest line parts is = absurd (cc line)

-- Of a session with a line just those count.
counted_line : (number : ℕ) (answer : KeptAnswer) (text : List ℕ) (requests front rest : List (List ℕ)) → shown_hub_answer number answer ≡ InLine text → requests ≡ front ++ rest → CountsRequests answer (length front)
    → counted answer requests ≡ front
counted_line number (Ok s) text requests front rest line parts is = count_line true s.requests requests front rest refl parts is
counted_line number (Err (served.Serve stop)) text requests front rest line parts is =
    count_line (is_no_want stop.cause) stop.requests requests front rest (line_wants stop.cause number stop text line) parts is
counted_line number (Err (served.Answers stop)) text requests front rest line parts is = absurd (cc line)

-- ---- whoever keeps requests, after a session

-- where no request stopped it
line_goes : {D : Type 0} (MayStop : SeenKept D → List ℕ → JournalStop → SeenKept D → Type 0) (number : ℕ) (answer : KeptAnswer) (text : List ℕ) (between after : SeenKept D) (rest : List (List ℕ)) → shown_hub_answer number answer ≡ InLine text
    → StopsNext MayStop answer between rest after → after ≡ between
line_goes MayStop number (Ok s) text between after rest line same = same
line_goes MayStop number (Err (served.Serve stop)) text between after rest line same = same
line_goes MayStop number (Err (served.Answers stop)) text between after rest line same = absurd (cc line)

stops_as : {D : Type 0} (MayStop Other : SeenKept D → List ℕ → JournalStop → SeenKept D → Type 0) → ((x : SeenKept D) (payload : List ℕ) (stop : JournalStop) (y : SeenKept D) → MayStop x payload stop y → Other x payload stop y)
    → (answer : KeptAnswer) (between after : SeenKept D) (rest : List (List ℕ)) → StopsNext MayStop answer between rest after → StopsNext Other answer between rest after
stops_as MayStop Other go (Ok s) between after rest h = h
stops_as MayStop Other go (Err (served.Serve stop)) between after rest h = h
stops_as MayStop Other go (Err (served.Answers stop)) between after [] h = h
stops_as MayStop Other go (Err (served.Answers stop)) between after (next ∷ rest) h = go between next stop after h

module _ {D : Type 0} (told : D → Option DiskRecord) (faults : D → ℕ) where
  -- the journal stays going, and no call of the disk fails, while requests are answered
  stays_one : (x y : SeenKept D) (payload : List ℕ) → AnswersKept told faults x payload y → x.journal.is_closed ≡ false → (y.journal.is_closed ≡ false) × (faults y.journal.disk ≡ faults x.journal.disk)
  stays_one x y payload (inl kept) going = (kept.appended.2, kept.appended.4)
  stays_one x y payload (inr same) going = (ap (λ (k : SeenKept D). k.journal.is_closed) same.1 ∙ going, ap (λ (k : SeenKept D). faults k.journal.disk) same.1)

  stays : (x y : SeenKept D) (payloads : List (List ℕ)) → InTurn (AnswersKept told faults) x payloads y → x.journal.is_closed ≡ false → (y.journal.is_closed ≡ false) × (faults y.journal.disk ≡ faults x.journal.disk)
  stays x y [] same going = (ap (λ (k : SeenKept D). k.journal.is_closed) same ∙ going, ap (λ (k : SeenKept D). faults k.journal.disk) same)
  stays x y (payload ∷ payloads) led going =
      let one = stays_one x led.0 payload led.1 going in
      let rest = stays led.0 y payloads led.2 one.0 in
      (rest.0, rest.1 ∙ one.1)

  -- what may stop it, and the faults that the disk counts then
  serving_stop : (x y : SeenKept D) (payload : List ℕ) (stop : JournalStop) → StopsKept told faults x payload stop y → x.journal.is_closed ≡ false → faults x.journal.disk ≡ 0
      → (IsServingStop {A = Unit {0}} (Err (ends.Answers stop))) × (faults y.journal.disk ≡ faults_by stop)
  serving_stop x y payload stops.DiskFault h going none = (tt, h.appended.4 ∙ ap risen none)
  serving_stop x y payload stops.Closed h going none = absurd (cc (sym h.appended.0 ∙ going))
  serving_stop x y payload stops.Full h going none = (tt, ap (λ j. faults j.disk) h.appended.2 ∙ none)
  serving_stop x y payload stops.NotAJournal h going none = absurd h
  serving_stop x y payload (stops.BadRecord number) h going none = absurd h
  serving_stop x y payload stops.Memory (inl same) going none = (tt, ap (λ (k : SeenKept D). faults k.journal.disk) same ∙ none)
  serving_stop x y payload stops.Memory (inr kept) going none = (tt, kept.appended.4 ∙ none)

  -- ---- sessions of a hub over whoever keeps requests

  module _ (a : answerers.Ghosts (SeenKept D) JournalStop) (services : (k : SeenKept D) → a.service k ≡ mirror_service k.host.service) (tables : (k : SeenKept D) → a.table k ≡ k.host.table)
      (does : (x : SeenKept D) (payload : List ℕ) (y : SeenKept D) → a.does x payload y → AnswersKept told faults x payload y)
      (halts : (x : SeenKept D) (payload : List ℕ) (stop : JournalStop) (y : SeenKept D) → a.stops x payload stop y → StopsKept told faults x payload stop y) where
    as_kept : (x : SeenKept D) (b : Back) → answers_at a x b ≡ kept_at x b
    as_kept x b = ap (λ s. ses.ends s (a.table x) b.source b.sink) (services x) ∙ ap (λ t. ses.ends (mirror_service x.host.service) t b.source b.sink) (tables x)

    abbrev Stream : SeenKept D → SeenKept D → Back → Back → KeptAnswer → Type 0
    Stream x y first last answer = AnswersStream (AnswersKept told faults) (StopsKept told faults) x y (kept_at x first) (kept_at y last) answer

    stream_by : (x y : SeenKept D) (first last : ses.Ends) (answer : KeptAnswer) → AnswersStream a.does a.stops x y first last answer → AnswersStream (AnswersKept told faults) (StopsKept told faults) x y first last answer
    stream_by x y first last answer s = record {
      stream = s.stream;
      gave = s.gave;
      replied = s.replied;
      unreplied = s.unreplied;
      rest = s.rest;
      parts = s.parts;
      between = s.between;
      led = turns_as a.does (AnswersKept told faults) does x s.between (s.replied ++ s.unreplied) s.led;
      stops = stops_as a.stops (StopsKept told faults) halts answer s.between y s.rest s.stops;
      counts = s.counts;
      replies = s.replies;
      table = s.table;
      answered = s.answered;
      wrote = s.wrote;
    }

    stream_kept : (x y : SeenKept D) (first last : Back) (answer : KeptAnswer) → ServesAnswers a x y first last answer → Stream x y first last answer
    stream_kept x y first last answer h =
        subst (λ e. AnswersStream (AnswersKept told faults) (StopsKept told faults) x y e (kept_at y last) answer) (as_kept x first)
        (subst (λ e. AnswersStream (AnswersKept told faults) (StopsKept told faults) x y (answers_at a x first) e answer) (as_kept y last)
        (stream_by x y (answers_at a x first) (answers_at a y last) answer h.answers))

    serves_kept : (x y : SeenKept D) (first last : Back) (answer : KeptAnswer) → ServesAnswers a x y first last answer → ServesUnlessStopped (kept_at x first) (kept_at y last) answer
    serves_kept x y first last answer h =
        subst (λ e. ServesUnlessStopped e (kept_at y last) answer) (as_kept x first) (subst (λ e. ServesUnlessStopped (answers_at a x first) e answer) (as_kept y last) h.serves)

    -- the count after a session
    abbrev counting_on : (c : Counting D) (y : SeenKept D) (first last : Back) (answer : KeptAnswer) → Stream c.kept y first last answer → Counting D
    counting_on c y first last answer s = record { kept = y; requests = c.requests ++ counted answer (requests_of s.stream); replied = length c.requests + length s.replied }

    -- a session was served, and this is the stream of its requests
    record Counted (c : Counting D) (y : SeenKept D) (answer : KeptAnswer) (before after : Listener) : Type 0 where
      first : Back
      last : Back
      stream : Stream c.kept y first last answer
      next : Counting D
      next_is : next ≡ counting_on c y first last answer stream
      served : ServesSession (kept_manner told faults) answer c next before after

    session_counted : (c : Counting D) (y : SeenKept D) (answer : KeptAnswer) (before after : Listener) → ServesSession (hub_manner a) answer c.kept y before after → Counted c y answer before after
    session_counted c y answer before after h =
        let s = stream_kept c.kept y h.first h.served.last answer h.served.serves in
        record {
          first = h.first;
          last = h.served.last;
          stream = s;
          next = counting_on c y h.first h.served.last answer s;
          next_is = refl;
          served = record {
            first = h.first;
            given = h.given;
            gives = h.gives;
            served = record {
              last = h.served.last;
              serves = record { serves = serves_kept c.kept y h.first h.served.last answer h.served.serves; answers = s; requests = refl; replied = refl };
              back = h.served.back;
            };
          };
        }

    -- sessions with lines were served, and their requests were answered in turn
    record SomeCounted (server : SeenKept D) (listen : Listener) (out : Device (List ℕ)) (n : ℕ) (left : SeenKept D) (last : Listener) (said : Device (List ℕ)) : Type 0 where
      c : Counting D
      is : c.kept ≡ left
      some : ServedSome (kept_manner told faults) (uncounted server) listen out n c last said
      led : InTurn (AnswersKept told faults) server c.requests c.kept
      few : c.replied ≤ length c.requests

    line_led : (server : SeenKept D) (c : Counting D) (y : SeenKept D) (number : ℕ) (answer : KeptAnswer) (text : List ℕ) (first last : Back) (s : Stream c.kept y first last answer) → shown_hub_answer number answer ≡ InLine text
        → InTurn (AnswersKept told faults) server c.requests c.kept → InTurn (AnswersKept told faults) server (c.requests ++ counted answer (requests_of s.stream)) y
    line_led server c y number answer text first last s line led =
        let done = s.replied ++ s.unreplied in
        subst (λ xs. InTurn (AnswersKept told faults) server (c.requests ++ xs) y) (sym (counted_line number answer text (requests_of s.stream) done s.rest line s.parts s.counts))
        (subst (λ k. InTurn (AnswersKept told faults) server (c.requests ++ done) k) (sym (line_goes (StopsKept told faults) number answer text s.between y s.rest line s.stops))
        (turns_append (AnswersKept told faults) server c.kept s.between c.requests done led s.led))

    line_few : (c : Counting D) (y : SeenKept D) (number : ℕ) (answer : KeptAnswer) (text : List ℕ) (first last : Back) (s : Stream c.kept y first last answer) → shown_hub_answer number answer ≡ InLine text
        → length c.requests + length s.replied ≤ length (c.requests ++ counted answer (requests_of s.stream))
    line_few c y number answer text first last s line =
        let done = s.replied ++ s.unreplied in
        omega (
          arith,
          length-append c.requests (counted answer (requests_of s.stream)),
          length-append s.replied s.unreplied,
          ap length (counted_line number answer text (requests_of s.stream) done s.rest line s.parts s.counts),
        )

    some_counted : (server : SeenKept D) (listen : Listener) (out : Device (List ℕ)) (n : ℕ) (left : SeenKept D) (last : Listener) (said : Device (List ℕ)) → ServedSome (hub_manner a) server listen out n left last said
        → SomeCounted server listen out n left last said
    some_counted server listen out n left last said sessions.none = record { c = uncounted server; is = refl; some = sessions.none; led = refl; few = omega arith }
    some_counted server listen out n left last said (sessions.one_more i mid it before after so_far answer text s session shown) =
        let k = some_counted server listen out i mid before so_far s in
        let h = session_counted k.c it answer before after (subst (λ x. ServesSession (hub_manner a) answer x it before after) (sym k.is) session) in
        record {
          c = h.next;
          is = ap (λ (x : Counting D). x.kept) h.next_is;
          some = sessions.one_more i k.c h.next before after so_far answer text k.some h.served shown;
          led = subst (λ (x : Counting D). InTurn (AnswersKept told faults) server x.requests x.kept) (sym h.next_is) (line_led server k.c it (suc i) answer text h.first h.last h.stream shown k.led);
          few = subst (λ (x : Counting D). x.replied ≤ length x.requests) (sym h.next_is) (line_few k.c it (suc i) answer text h.first h.last h.stream shown);
        }

    -- ---- how serving ends

    module _ (laws : Laws told faults) where
      -- sessions with lines, and no other
      some_kept : (server left : SeenKept D) (count : ℕ) (answer : Result (Unit {0}) (SessionsStop JournalStop)) (listen middle last : Listener) (out said after : Device (List ℕ)) (n : ℕ) → IsReady faults server
          → (k : SomeCounted server listen out n left middle said) → ServesSessions (kept_manner told faults) (uncounted server) k.c count listen last out after answer
          → answered_for answer k.c ≤ length k.c.requests → faults_in answer ≡ 0 → IsServingStop answer
          → ServesKeptTo told faults server left count answer listen last out after
      some_kept server left count answer listen middle last out said after n ready k s few none fine = record {
        left = k.c;
        is = k.is;
        sessions = s;
        faults_are = ap (λ (x : SeenKept D). faults x.journal.disk) (sym k.is) ∙ (stays server k.c.kept k.c.requests k.led ready.is_open).1 ∙ ready.no_fault ∙ sym none;
        stops = fine;
        keeps = λ payloads keeps.
            subst (λ (x : SeenKept D). EachImageHolds told x.journal.disk payloads k.c.requests (answered_for answer k.c)) k.is
            (subst (λ xs. EachImageHolds told k.c.kept.journal.disk payloads xs (answered_for answer k.c)) (append-nil k.c.requests)
            (images_after told faults laws server k.c.kept payloads k.c.requests [] (answered_for answer k.c) few k.led keeps));
      }

      -- the last session, which no request stopped
      last_kept : (server y : SeenKept D) (count : ℕ) (answer : KeptAnswer) (status : SessionsStop JournalStop) (listen middle last : Listener) (out said after : Device (List ℕ)) (n : ℕ) (mid : SeenKept D) → IsReady faults server
          → (k : SomeCounted server listen out n mid middle said) → (h : Counted k.c y answer middle last) → y ≡ h.stream.between
          → ServesSessions (kept_manner told faults) (uncounted server) h.next count listen last out after (Err status) → answered_for {D = D} (Err status) h.next ≡ h.next.replied → faults_in {A = Unit {0}} (Err status) ≡ 0
          → IsServingStop {A = Unit {0}} (Err status) → ServesKeptTo told faults server y count (Err status) listen last out after
      last_kept server y count answer status listen middle last out said after n mid ready k h same s least none fine =
          let done = h.stream.replied ++ h.stream.unreplied in
          let all = k.c.requests ++ done in
          let more = counted_front answer (requests_of h.stream.stream) done h.stream.rest h.stream.parts h.stream.counts in
          let led = turns_append (AnswersKept told faults) server k.c.kept h.stream.between k.c.requests done k.led h.stream.led in
          let requests : h.next.requests ≡ all ++ more.0 = ap (λ (x : Counting D). x.requests) h.next_is ∙ ap (λ xs. k.c.requests ++ xs) more.1 ∙ sym (append_assoc k.c.requests done more.0) in
          let replied = ap (λ (x : Counting D). x.replied) h.next_is in
          record {
            left = h.next;
            is = ap (λ (x : Counting D). x.kept) h.next_is;
            sessions = s;
            faults_are = ap (λ (x : SeenKept D). faults x.journal.disk) same ∙ (stays server h.stream.between all led ready.is_open).1 ∙ ready.no_fault ∙ sym none;
            stops = fine;
            keeps = λ payloads keeps.
                subst (λ xs. EachImageHolds told y.journal.disk payloads xs (answered_for {D = D} (Err status) h.next)) (sym requests)
                (subst (λ (x : SeenKept D). EachImageHolds told x.journal.disk payloads (all ++ more.0) (answered_for {D = D} (Err status) h.next)) (sym same)
                (images_after told faults laws server h.stream.between payloads all more.0 (answered_for {D = D} (Err status) h.next)
                (omega (arith, least, replied, length-append k.c.requests done, length-append h.stream.replied h.stream.unreplied)) led keeps));
          }

      -- the last session, of which a request met a stop
      halted_by : (server y : SeenKept D) (count : ℕ) (stop : JournalStop) (listen middle last : Listener) (out said after : Device (List ℕ)) (n : ℕ) (mid : SeenKept D) (next : List ℕ) (rest : List (List ℕ)) → IsReady faults server
          → (k : SomeCounted server listen out n mid middle said) → (h : Counted k.c y (Err (served.Answers stop)) middle last) → h.stream.rest ≡ next ∷ rest → StopsKept told faults h.stream.between next stop y
          → ServesSessions (kept_manner told faults) (uncounted server) h.next count listen last out after (Err (ends.Answers stop)) → ServesKeptTo told faults server y count (Err (ends.Answers stop)) listen last out after
      halted_by server y count stop listen middle last out said after n mid next rest ready k h is met s =
          let done = h.stream.replied ++ h.stream.unreplied in
          let all = k.c.requests ++ done in
          let led = turns_append (AnswersKept told faults) server k.c.kept h.stream.between k.c.requests done k.led h.stream.led in
          let requests : h.next.requests ≡ all ++ next ∷ rest = ap (λ (x : Counting D). x.requests) h.next_is ∙ ap (λ xs. k.c.requests ++ xs) h.stream.parts
          ∙ ap (λ xs. k.c.requests ++ (done ++ xs)) is ∙ sym (append_assoc k.c.requests done (next ∷ rest)) in
          let replied = ap (λ (x : Counting D). x.replied) h.next_is in
          let still = stays server h.stream.between all led ready.is_open in
          let fine = serving_stop h.stream.between y next stop met still.0 (still.1 ∙ ready.no_fault) in
          record {
            left = h.next;
            is = ap (λ (x : Counting D). x.kept) h.next_is;
            sessions = s;
            faults_are = fine.1;
            stops = fine.0;
            keeps = λ payloads keeps.
                subst (λ xs. EachImageHolds told y.journal.disk payloads xs h.next.replied) (sym requests)
                (images_at_stop told faults laws server h.stream.between y payloads all rest next stop h.next.replied
                (omega (arith, replied, length-append k.c.requests done, length-append h.stream.replied h.stream.unreplied)) led met keeps);
          }

      halted_kept : (server y : SeenKept D) (count : ℕ) (stop : JournalStop) (listen middle last : Listener) (out said after : Device (List ℕ)) (n : ℕ) (mid : SeenKept D) → IsReady faults server
          → (k : SomeCounted server listen out n mid middle said) → (h : Counted k.c y (Err (served.Answers stop)) middle last)
          → ServesSessions (kept_manner told faults) (uncounted server) h.next count listen last out after (Err (ends.Answers stop)) → ServesKeptTo told faults server y count (Err (ends.Answers stop)) listen last out after
      halted_kept server y count stop listen middle last out said after n mid ready k h s = go h.stream.rest refl h.stream.stops
        where
          go : (rest : List (List ℕ)) → h.stream.rest ≡ rest → StopsNext (StopsKept told faults) (Err (served.Answers stop)) h.stream.between rest y → ServesKeptTo told faults server y count (Err (ends.Answers stop)) listen last out after
          go [] is met = absurd met
          go (next ∷ rest) is met = halted_by server y count stop listen middle last out said after n mid next rest ready k h is met s

      -- whichever session was the last
      one_last_kept : (server y : SeenKept D) (count : ℕ) (answer : KeptAnswer) (stop : SessionsStop JournalStop) (listen middle last : Listener) (out said after : Device (List ℕ)) (n : ℕ) (mid : SeenKept D) → IsReady faults server → n < count
          → (k : SomeCounted server listen out n mid middle said) → (h : Counted k.c y answer middle last) → ServesLast (shown_hub_answer (suc n) answer) said after stop → ServesKeptTo told faults server y count (Err stop) listen last out after
      one_last_kept server y count (Ok s) (ends.Said status) listen middle last out said after n mid ready few k h ends_so =
          last_kept server y count (Ok s) (ends.Said status) listen middle last out said after n mid ready k h h.stream.stops (sessions.one_last n k.c middle said (Ok s) (ends.Said status) few k.some h.served ends_so) refl refl tt
      one_last_kept server y count (Err (served.Serve x)) (ends.Said status) listen middle last out said after n mid ready few k h ends_so =
          last_kept server y count (Err (served.Serve x)) (ends.Said status) listen middle last out said after n mid ready k h h.stream.stops
          (sessions.one_last n k.c middle said (Err (served.Serve x)) (ends.Said status) few k.some h.served ends_so) refl refl tt
      one_last_kept server y count (Err (served.Answers x)) (ends.Said status) listen middle last out said after n mid ready few k h ends_so = absurd (never status ends_so)
        where
          never : (answered : Status) → ServesLast {X = JournalStop} (Stopped x) said after (ends.Said answered) → ⊥
          never answered (line_cut text e w) = cc e
          never answered (line_starved text e o) = cc e
          never answered (starved e o) = cc e
      one_last_kept server y count (Ok s) (ends.Answers x) listen middle last out said after n mid ready few k h (stopped z e o) = absurd (cc e)
      one_last_kept server y count (Err (served.Serve x)) (ends.Answers z) listen middle last out said after n mid ready few k h (stopped w e o) = absurd (by_want (is_want x.cause) e)
        where
          by_want : (b : Bool) → line_unless {X = JournalStop} b (shown_session (suc n) (Err x)) ≡ Stopped z → ⊥
          by_want true e = cc e
          by_want false e = cc e
      one_last_kept server y count (Err (served.Answers x)) (ends.Answers z) listen middle last out said after n mid ready few k h (stopped w e o) =
          let same : x ≡ z = cc e in
          subst (λ st. ServesKeptTo told faults server y count (Err (ends.Answers st)) listen last out after) same
          (halted_kept server y count x listen middle last out said after n mid ready k h
          (sessions.one_last n k.c middle said (Err (served.Answers x)) (ends.Answers x) few k.some h.served (stopped x refl o)))

      pub served_kept : (server left : SeenKept D) (count : ℕ) (answer : Result (Unit {0}) (SessionsStop JournalStop)) (listen last : Listener) (out after : Device (List ℕ)) → IsReady faults server
          → ServesSessions (hub_manner a) server left count listen last out after answer → ServesKeptTo told faults server left count answer listen last out after
      served_kept server left count answer listen last out after ready (sessions.all some) =
          let k = some_counted server listen out count left last after some in
          some_kept server left count (Ok tt) listen last last out after after count ready k (sessions.all k.some) (omega arith) refl tt
      served_kept server left count answer listen last out after ready (sessions.fewer n middle few some gives) =
          let k = some_counted server listen out n left middle after some in
          some_kept server left count (Ok tt) listen middle last out after after n ready k (sessions.fewer n middle few k.some gives) (omega arith) refl tt
      served_kept server left count answer listen last out after ready (sessions.fault n middle said status few some fails e) =
          let k = some_counted server listen out n left middle said some in
          some_kept server left count (Err (ends.Said status)) listen middle last out said after n ready k (sessions.fault n middle said status few k.some fails e) k.few refl tt
      served_kept server left count answer listen last out after ready (sessions.starved_to_give n middle few some gives) =
          let k = some_counted server listen out n left middle after some in
          some_kept server left count (Err (ends.Said Memory)) listen middle last out after after n ready k (sessions.starved_to_give n middle few k.some gives) k.few refl tt
      served_kept server left count answer listen last out after ready (sessions.one_last n mid middle said x stop few some session ends_so) =
          let k = some_counted server listen out n mid middle said some in
          let h = session_counted k.c left x middle last (subst (λ z. ServesSession (hub_manner a) x z left middle last) (sym k.is) session) in
          one_last_kept server left count x stop listen middle last out said after n mid ready few k h ends_so
