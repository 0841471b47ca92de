-- How a session that was served ends.
use Rattle.std.proofs.Common.{◌≡◌, ◌+◌, ◌-◌, ◌≤◌, arith, refl, ap, sym, ◌∙◌, subst, ℕ, Bool, true, false, List, [], ◌∷◌, ◌++◌, length, length-append, append_assoc, append-nil, inl, inr, Option, Some, None, Result, Err}
use Rattle.std.proofs.lemmas.List.{take_all}
use Rattle.rb_trees.specs.declared.services.Object.{Object}
use Rattle.rb_trees.specs.mirror.Services.{Service}
use Rattle.rb_base.specs.Devices.{Device, failed}
use Rattle.rb_base.specs.Sinks.{told_more, with_bytes, WrotePrefix}
use Rattle.rb_base.specs.Sources.{told_before, before_giving, IsAtEnd}
use Rattle.rb_meaning_frames.specs.Streams.{request_frames, most_requests, IsCutRequest, BreaksRequest, Waits, BeginsWhole, Rest, Empty, Cut, Broken, IsRest}
use Rattle.rb_meaning_frames.specs.Reading.{Standing, Whole, Waiting, Breaking, standing, requests_of, rest_of, StreamsAreRead, RequestsStay}
use Rattle.rb_meaning_frames.specs.Served.{RepliesTo, no_more, one_more}
use Rattle.rb_meaning_frames.specs.Histories.{Track, is_waiting, goes_on, Asked, asked_by, new_requests, Replied, RepliesInOrder, none_asked, one_asked}
use Rattle.rb_session.specs.Answering.{InTurn, SomeInTurn}
use Rattle.rb_session.specs.declared.answerers.Answers as answerers
use Rattle.rb_session.specs.declared.serving.Served.{Served}
use Rattle.rb_session.specs.declared.serving.ServeCause.TheVariants as causes
use Rattle.rb_session.specs.Serving.{Ends, Took, Wrote, FailedWrite, NoneFailed, Serves, StopsBy, with_read_fault}
use Rattle.rb_session.specs.Serving as sessions
use Rattle.rb_hub.specs.Serial.{end_by, end_at}
use Rattle.rb_hub.specs.Hubs.{HubSeen, payloads_of, StopsAt}
use Rattle.rb_hub.specs.Delivering.{frames_of}
use Rattle.rb_hub.specs.Serving.{ServesUnlessStopped, IfStopped, IfDone, WhereDone, is_done, StopsServing, CountsRequests, StopsNext, WroteFront, AnswersStream}
use Rattle.rb_hub.specs.Serving as hubs
use Rattle.rb_hub.specs.Passing.{Leads, ServesNew, stopped_at, answer_of}
use Rattle.rb_hub.specs.declared.events.End.{End}
use Rattle.rb_hub.specs.declared.events.End.TheVariants as ends
use Rattle.rb_hub.specs.declared.events.Out.{Out}
use Rattle.rb_hub.specs.declared.serving.HubServeStop.{HubServeStop}
use Rattle.rb_hub.specs.declared.serving.HubServeStop.TheVariants as stops
use Rattle.rb_hub.proofs.Led.{led_append, payloads_by, payloads_parts}
use Rattle.rb_hub.proofs.Written.{bytes_none}
use Rattle.rb_hub.proofs.Dividing.{RestBy}
use Rattle.rb_hub.proofs.Dividing as dividing
use Rattle.rb_hub.proofs.SoFar.{SoFar, AllWritten, nothing, giving_twice, giving_none}

-- ---- replies in order, without their session

replies_to : (service : Service) (table left : List Object) (asked : List Asked) (replies : List Replied) → RepliesInOrder service table asked replies left
    → RepliesTo service table (payloads_of asked) (frames_of replies) left
replies_to service _ _ _ _ (none_asked table) = no_more table
replies_to service _ left _ _ (one_asked table between after asked reply kind more replies h rest) =
    one_more table between after asked.payload reply kind (payloads_of more) (frames_of replies) h (replies_to service between after more replies rest)

answered_to : (service : Service) (table left : List Object) (number : ℕ) (payloads : List (List ℕ)) (replies : List Replied) → RepliesInOrder service table (asked_by number payloads) replies left
    → RepliesTo service table payloads (frames_of replies) left
answered_to service table left number payloads replies h =
    subst (λ ps. RepliesTo service table ps (frames_of replies) left) (payloads_by number payloads) (replies_to service table left (asked_by number payloads) replies h)

-- ---- what was taken and written

took : {A : Type 0} {Led : List (List ℕ) → Type 0} (past : List Track) (hub : HubSeen A) (first last : Ends) (stream : List ℕ) (is_open : Bool) (requests : ℕ) (Says : List ℕ → Type 0) → (s : SoFar past hub first last stream is_open requests Says Led)
    → dividing.IsRead stream → Took first last stream (rest_of stream) requests (frames_of s.replies)
took past hub first last stream is_open requests Says s r = record {
  gave = s.gave;
  takes = record {
    payloads = requests_of stream;
    cuts = record { requests = r.requests; is = r.is };
    count_is = s.count;
    answers = answered_to first.service first.table last.table (length past) (requests_of stream) s.replies s.answered;
  };
}

wrote_all : {A : Type 0} {Led : List (List ℕ) → Type 0} (past : List Track) (hub : HubSeen A) (first last : Ends) (stream : List ℕ) (is_open : Bool) (requests : ℕ) (Says : List ℕ → List ℕ → Type 0) → (s : SoFar past hub first last stream is_open requests (AllWritten first last) Led)
    → dividing.IsRead stream → Says stream (rest_of stream) → Wrote first last requests Says
wrote_all past hub first last stream is_open requests Says s r says = record {
  given = stream;
  rest = rest_of stream;
  replies = frames_of s.replies;
  took = took past hub first last stream is_open requests (AllWritten first last) s r;
  wrote = s.wrote;
  says = says;
}

-- ---- what follows the requests

waits_by : (s : Standing) (count : ℕ) (rest : List ℕ) → is_waiting s ≡ true → RestBy s count rest → Waits rest
waits_by Waiting count rest goes h = h
waits_by (Whole size) count rest goes h = absurd (cc goes)
waits_by (Breaking at) count rest goes h = absurd (cc goes)

waits_so : (stream : List ℕ) → goes_on stream ≡ true → dividing.IsRead stream → Waits (rest_of stream)
waits_so stream goes r = waits_by (standing (rest_of stream)) (length (requests_of stream)) (rest_of stream) goes r.rest

-- what stands last
waits_last : (rest : List ℕ) → Waits rest → (kind : Rest) × IsRest rest kind
waits_last rest (inl none) = (Empty, none)
waits_last rest (inr cut) = (Cut, cut)

last_by : (s : Standing) (count : ℕ) (rest : List ℕ) → RestBy s count rest → sessions.IsLast count rest
last_by Waiting count rest h = inl (waits_last rest h)
last_by (Breaking at) count rest h = inl (Broken at, h)
last_by (Whole size) count rest h = inr h

-- the rest is no longer than the stream
rest_short : (stream : List ℕ) → (r : dividing.IsRead stream) → length (rest_of stream) ≤ length stream
rest_short stream r = omega (arith, ap length r.is, length-append (request_frames (requests_of stream)) (rest_of stream))

-- ---- the source has ended

pub at_end : {A : Type 0} {Led : List (List ℕ) → Type 0} (X : Type 0) (past : List Track) (hub : HubSeen A) (first last : Ends) (stream : List ℕ) (requests : ℕ) → (s : SoFar past hub first last stream true requests (AllWritten first last) Led) → dividing.IsRead stream
    → IsAtEnd last.source.told → ServesUnlessStopped {X = X} first last (answer_of requests (end_at (rest_of stream) stream))
at_end X past hub first last stream requests s r finished = go (rest_of stream) refl
  where
    waits : Waits (rest_of stream)
    waits = waits_so stream s.goes r

    cut_by : (rest : List ℕ) (byte : ℕ) (more : List ℕ) → rest ≡ byte ∷ more → Waits rest → IsCutRequest rest
    cut_by rest byte more is (inl none) = absurd (cc (sym none ∙ is))
    cut_by rest byte more is (inr cut) = cut

    go : (rest : List ℕ) → rest_of stream ≡ rest → ServesUnlessStopped {X = X} first last (answer_of requests (end_at rest stream))
    go [] is = wrote_all past hub first last stream true requests (λ given rest. IsAtEnd last.source.told × (rest ≡ [])) s r (finished, is)
    go (byte ∷ more) is =
        wrote_all past hub first last stream true requests (λ given rest. IsAtEnd last.source.told × IsCutRequest rest × (length stream ≡ length given)) s r
        (finished, cut_by (rest_of stream) byte more is waits, refl)

-- ---- the hub ended the session

pub hub_ended : {A : Type 0} {Led : List (List ℕ) → Type 0} (X : Type 0) (past : List Track) (hub : HubSeen A) (first last : Ends) (stream : List ℕ) (is_open : Bool) (requests : ℕ) (end : End) → (s : SoFar past hub first last stream is_open requests (AllWritten first last) Led)
    → dividing.IsRead stream → end_by (standing (rest_of stream)) stream ≡ Some end → ServesUnlessStopped {X = X} first last (answer_of requests end)
hub_ended X past hub first last stream is_open requests end s r is = go (standing (rest_of stream)) is r.rest
  where
    some_of : (x y : End) → Some x ≡ Some y → x ≡ y
    some_of x y e = ap (λ (o : Option End). elim o as (λ _. End) [ None ↦ x | Some z ↦ z ]) e

    go : (k : Standing) → end_by k stream ≡ Some end → RestBy k (length (requests_of stream)) (rest_of stream) → ServesUnlessStopped {X = X} first last (answer_of requests end)
    go Waiting e h = absurd (cc e)
    go (Breaking at) e h =
        let short = rest_short stream r in
        subst (λ x. ServesUnlessStopped {X = X} first last (answer_of requests x)) (some_of (ends.BadFrame (length stream - length (rest_of stream) + at)) end e)
        (wrote_all past hub first last stream is_open requests
        (λ given rest. (offset : ℕ) × (length stream - length (rest_of stream) + at + length rest ≡ length given + offset) × BreaksRequest offset rest) s r
        (at, omega arith, h))
    go (Whole size) e h =
        subst (λ x. ServesUnlessStopped {X = X} first last (answer_of requests x)) (some_of ends.Spent end e)
        (wrote_all past hub first last stream is_open requests (λ given rest. (requests ≡ most_requests) × BeginsWhole rest) s r (s.count ∙ h.0, h.1))

-- ---- a call failed

-- a read failed
pub read_failed : {A : Type 0} {Led : List (List ℕ) → Type 0} (X : Type 0) (past : List Track) (hub : HubSeen A) (first mid last : Ends) (stream : List ℕ) (requests : ℕ) → (s : SoFar past hub first mid stream true requests (AllWritten first mid) Led) → dividing.IsRead stream
    → last.source ≡ failed mid.source → last.sink ≡ mid.sink → last.table ≡ mid.table → ServesUnlessStopped {X = X} first last (stopped_at requests causes.ReadFault)
read_failed X past hub first mid last stream requests s r source sink table =
    let payloads = requests_of stream in
    record {
      given = stream;
      rest = rest_of stream;
      replies = frames_of s.replies;
      took = record {
        gave = ap failed s.gave ∙ ap (before_giving stream) (sym source);
        takes = record {
          payloads = payloads;
          cuts = record { requests = r.requests; is = r.is };
          count_is = s.count;
          answers = subst (λ t. RepliesTo first.service first.table payloads (frames_of s.replies) t) (sym table)
              (answered_to first.service first.table mid.table (length past) payloads s.replies s.answered);
        };
      };
      wrote = sink ∙ s.wrote;
      says = waits_so stream s.goes r;
    }

-- a write failed
pub write_failed : {A : Type 0} {Led : List (List ℕ) → Type 0} (X : Type 0) (past : List Track) (hub : HubSeen A) (first last : Ends) (stream : List ℕ) (is_open : Bool) (requests : ℕ) → (s : SoFar past hub first last stream is_open requests (λ frames. WrotePrefix (failed first.sink) last.sink frames) Led)
    → dividing.IsRead stream → 1 ≤ requests → ServesUnlessStopped {X = X} first last (stopped_at requests causes.WriteFault)
write_failed X past hub first last stream is_open requests s r some = record {
  given = stream;
  rest = rest_of stream;
  replies = frames_of s.replies;
  took = took past hub first last stream is_open requests (λ frames. WrotePrefix (failed first.sink) last.sink frames) s r;
  wrote = s.wrote;
  some = some;
  last = subst (λ n. sessions.IsLast n (rest_of stream)) (sym s.count) (last_by (standing (rest_of stream)) (length (requests_of stream)) (rest_of stream) r.rest);
}

-- ---- nothing more is answered

-- memory was wanting
pub starved : {A : Type 0} {Led : List (List ℕ) → Type 0} (past : List Track) (hub : HubSeen A) (first mid last : Ends) (stream : List ℕ) (requests : ℕ) (piece : List ℕ) → SoFar past hub first mid stream true requests (AllWritten first mid) Led
    → mid.source ≡ before_giving piece last.source → last.sink ≡ mid.sink → NoneFailed first last
starved past hub first mid last stream requests piece s gave sink = record {
  source = sym (ap (λ d. d.faults) s.gave ∙ ap (λ d. d.faults) gave);
  sink = ap (λ d. d.faults) sink ∙ ap (λ d. d.faults) s.wrote;
}

-- a request stopped whoever answers
pub halted : {A X : Type 0} {Led : List (List ℕ) → Type 0} (a : answerers.Ghosts A X) (past : List Track) (between : HubSeen A) (after : A) (first mid last : Ends) (stream : List ℕ) (requests : ℕ) (piece : List ℕ) (given : List Out) (stop : X)
    → (s : SoFar past between first mid stream true requests (AllWritten first mid) Led) → mid.service ≡ a.service between.answers → mid.table ≡ a.table between.answers → hubs.IsRead piece
    → mid.source ≡ before_giving piece last.source → last.sink ≡ mid.sink → StopsAt a between.answers after (asked_by (length past) (new_requests stream piece)) given stop
    → StopsServing a after first last stop
halted a past between after first mid last stream requests piece given stop s service table read gave sink h =
    let number = length past in
    let fresh = new_requests stream piece in
    let served : a.service between.answers ≡ first.service = sym service ∙ s.service in
    record {
      stream = stream;
      piece = piece;
      read = read;
      gave = s.gave ∙ ap (before_giving stream) gave ∙ giving_twice stream piece last.source;
      replies = frames_of s.replies;
      table = mid.table;
      answered = answered_to first.service first.table mid.table number (requests_of stream) s.replies s.answered;
      wrote = sink ∙ s.wrote;
      front = payloads_of h.front;
      next = h.next.payload;
      rest = payloads_of h.rest;
      parts = payloads_parts number fresh h.front (h.next ∷ h.rest) h.parts;
      unwritten = frames_of h.gives.replies;
      between = h.between;
      more = subst (λ t. RepliesTo first.service t (payloads_of h.front) (frames_of h.gives.replies) (a.table h.between)) (sym table)
          (subst (λ x. RepliesTo x (a.table between.answers) (payloads_of h.front) (frames_of h.gives.replies) (a.table h.between)) served
          (replies_to (a.service between.answers) (a.table between.answers) (a.table h.between) h.front h.gives.replies h.gives.answered));
      service = h.gives.service ∙ served;
      stops = h.stops;
      none_failed = starved past between first mid last stream requests piece s gave sink;
    }

-- ---- whom the requests led to

front_of_all : (first last : Device (List ℕ)) (frames : List ℕ) → last ≡ with_bytes first frames → WroteFront first last frames
front_of_all first last frames wrote =
    (length frames, ap (λ (d : Device (List ℕ)). d.told) wrote ∙ ap (told_more first.told) (sym (take_all (length frames) frames (omega arith))))

front_of_some : (first last : Device (List ℕ)) (frames : List ℕ) → WrotePrefix (failed first) last frames → WroteFront first last frames
front_of_some first last frames w = (w.count, ap (λ (d : Device (List ℕ)). d.told) w.is)

-- all requests of the stream were answered
answered_all : {A X : Type 0} (a : answerers.Ghosts A X) (past : List Track) (hub : HubSeen A) (before between after : A) (first mid last : Ends) (stream : List ℕ) (is_open : Bool) (requests : ℕ) (Says : List ℕ → Type 0)
    (answer : Result Served (HubServeStop X)) → (s : SoFar past hub first mid stream is_open requests Says (λ payloads. InTurn a.does before payloads between)) → first.source.told ≡ told_before stream last.source.told
    → StopsNext a.stops answer between [] after → CountsRequests answer requests → WroteFront first.sink last.sink (frames_of s.replies) → AnswersStream a.does a.stops before after first last answer
answered_all a past hub before between after first mid last stream is_open requests Says answer s gave stops counts wrote =
    let payloads = requests_of stream in
    let same : payloads ≡ payloads ++ [] = sym (append-nil payloads) in
    record {
      stream = stream;
      gave = gave;
      replied = payloads;
      unreplied = [];
      rest = [];
      parts = same ∙ sym (append-nil (payloads ++ []));
      between = between;
      led = subst (λ ps. InTurn a.does before ps between) same s.led;
      stops = stops;
      counts = subst (CountsRequests answer) (s.count ∙ ap length same) counts;
      replies = frames_of s.replies;
      table = mid.table;
      answered = answered_to first.service first.table mid.table (length past) payloads s.replies s.answered;
      wrote = wrote;
    }

-- all were, and the session ended so
stops_none : {A X : Type 0} (MayStop : A → List ℕ → X → A → Type 0) (requests : ℕ) (end : End) (between after : A) → after ≡ between → StopsNext MayStop (answer_of requests end) between [] after
stops_none MayStop requests ends.Whole between after same = same
stops_none MayStop requests (ends.Cut at) between after same = same
stops_none MayStop requests (ends.BadFrame at) between after same = same
stops_none MayStop requests ends.Spent between after same = same

counts_all : (X : Type 0) (requests : ℕ) (end : End) → CountsRequests {X = X} (answer_of requests end) requests
counts_all X requests ends.Whole = refl
counts_all X requests (ends.Cut at) = refl
counts_all X requests (ends.BadFrame at) = refl
counts_all X requests ends.Spent = refl

pub ended_answered : {A X : Type 0} (a : answerers.Ghosts A X) (past : List Track) (hub : HubSeen A) (before between after : A) (first last : Ends) (stream : List ℕ) (is_open : Bool) (requests : ℕ) (end : End)
    → SoFar past hub first last stream is_open requests (AllWritten first last) (λ payloads. InTurn a.does before payloads between) → after ≡ between
    → AnswersStream a.does a.stops before after first last (answer_of requests end)
ended_answered {A} {X} a past hub before between after first last stream is_open requests end s same =
    answered_all a past hub before between after first last last stream is_open requests (AllWritten first last) (answer_of requests end) s (ap (λ (d : Device (List ℕ)). d.told) s.gave)
    (stops_none a.stops requests end between after same) (counts_all X requests end) (front_of_all first.sink last.sink (frames_of s.replies) s.wrote)

-- all were, and a read failed
pub read_answered : {A X : Type 0} (a : answerers.Ghosts A X) (past : List Track) (hub : HubSeen A) (before between after : A) (first mid last : Ends) (stream : List ℕ) (requests : ℕ)
    → SoFar past hub first mid stream true requests (AllWritten first mid) (λ payloads. InTurn a.does before payloads between) → last.source ≡ failed mid.source → last.sink ≡ mid.sink → after ≡ between
    → AnswersStream a.does a.stops before after first last (stopped_at requests causes.ReadFault)
read_answered a past hub before between after first mid last stream requests s source sink same =
    answered_all a past hub before between after first mid last stream true requests (AllWritten first mid) (stopped_at requests causes.ReadFault) s
    (ap (λ (d : Device (List ℕ)). d.told) s.gave ∙ ap (λ (d : Device (List ℕ)). told_before stream d.told) (sym source)) same refl
    (front_of_all first.sink last.sink (frames_of s.replies) (sink ∙ s.wrote))

-- all were, and a write failed
pub write_answered : {A X : Type 0} (a : answerers.Ghosts A X) (past : List Track) (hub : HubSeen A) (before between after : A) (first last : Ends) (stream : List ℕ) (is_open : Bool) (requests : ℕ)
    → SoFar past hub first last stream is_open requests (λ frames. WrotePrefix (failed first.sink) last.sink frames) (λ payloads. InTurn a.does before payloads between) → after ≡ between
    → AnswersStream a.does a.stops before after first last (stopped_at requests causes.WriteFault)
write_answered a past hub before between after first last stream is_open requests s same =
    answered_all a past hub before between after first last last stream is_open requests (λ frames. WrotePrefix (failed first.sink) last.sink frames) (stopped_at requests causes.WriteFault) s
    (ap (λ (d : Device (List ℕ)). d.told) s.gave) same refl (front_of_some first.sink last.sink (frames_of s.replies) s.wrote)

-- of the requests of a piece the first were answered
answered_some : {A X : Type 0} (a : answerers.Ghosts A X) (past : List Track) (hub : HubSeen A) (before within between after : A) (first mid last : Ends) (stream : List ℕ) (requests : ℕ) (piece : List ℕ) (front rest : List (List ℕ))
    (answer : Result Served (HubServeStop X)) → RequestsStay → SoFar past hub first mid stream true requests (AllWritten first mid) (λ payloads. InTurn a.does before payloads within) → mid.source ≡ before_giving piece last.source
    → last.sink ≡ mid.sink → new_requests stream piece ≡ front ++ rest → InTurn a.does within front between → StopsNext a.stops answer between rest after
    → CountsRequests answer (length (requests_of stream ++ front)) → AnswersStream a.does a.stops before after first last answer
answered_some a past hub before within between after first mid last stream requests piece front rest answer stay s gave sink parts led stops counts =
    let payloads = requests_of stream in
    record {
      stream = stream ++ piece;
      gave = ap (λ (d : Device (List ℕ)). d.told) (s.gave ∙ ap (before_giving stream) gave ∙ giving_twice stream piece last.source);
      replied = payloads;
      unreplied = front;
      rest = rest;
      parts = stay stream piece ∙ ap (λ ps. payloads ++ ps) parts ∙ sym (append_assoc payloads front rest);
      between = between;
      led = led_append a.does before within between payloads front s.led led;
      stops = stops;
      counts = counts;
      replies = frames_of s.replies;
      table = mid.table;
      answered = answered_to first.service first.table mid.table (length past) payloads s.replies s.answered;
      wrote = front_of_all first.sink last.sink (frames_of s.replies) (sink ∙ s.wrote);
    }

-- memory was wanting then
pub starved_answered : {A X : Type 0} (a : answerers.Ghosts A X) (past : List Track) (hub : HubSeen A) (before within between after : A) (first mid last : Ends) (stream : List ℕ) (requests : ℕ) (piece : List ℕ)
    → RequestsStay → SoFar past hub first mid stream true requests (AllWritten first mid) (λ payloads. InTurn a.does before payloads within) → mid.source ≡ before_giving piece last.source → last.sink ≡ mid.sink
    → SomeInTurn a.does within (new_requests stream piece) between → after ≡ between → AnswersStream a.does a.stops before after first last (stopped_at requests causes.Memory)
starved_answered a past hub before within between after first mid last stream requests piece stay s gave sink some same =
    answered_some a past hub before within between after first mid last stream requests piece some.front some.rest (stopped_at requests causes.Memory) stay s gave sink some.parts some.led same tt

-- the next one stopped whoever answers
pub halted_answered : {A X : Type 0} (a : answerers.Ghosts A X) (past : List Track) (hub : HubSeen A) (before within after : A) (first mid last : Ends) (stream : List ℕ) (requests : ℕ) (piece : List ℕ) (given : List Out) (stop : X)
    → RequestsStay → SoFar past hub first mid stream true requests (AllWritten first mid) (λ payloads. InTurn a.does before payloads within) → mid.source ≡ before_giving piece last.source → last.sink ≡ mid.sink
    → StopsAt a within after (asked_by (length past) (new_requests stream piece)) given stop → AnswersStream a.does a.stops before after first last (Err (stops.Answers stop))
halted_answered a past hub before within after first mid last stream requests piece given stop stay s gave sink h =
    answered_some a past hub before within h.between after first mid last stream requests piece (payloads_of h.front) (h.next.payload ∷ payloads_of h.rest) (Err (stops.Answers stop)) stay s gave sink
    (payloads_parts (length past) (new_requests stream piece) h.front (h.next ∷ h.rest) h.parts) h.gives.led h.stops tt

-- nothing was read
pub none_answered : {A X : Type 0} (Answered : A → List ℕ → A → Type 0) (MayStop : A → List ℕ → X → A → Type 0) (before after : A) (first last : Ends) → StreamsAreRead → after ≡ before
    → last.source ≡ first.source → last.sink ≡ first.sink → AnswersStream Answered MayStop before after first last (stopped_at 0 causes.Memory)
none_answered Answered MayStop before after first last law same source sink = record {
  stream = [];
  gave = ap (λ (d : Device (List ℕ)). d.told) (sym (giving_none last.source ∙ source));
  replied = [];
  unreplied = [];
  rest = [];
  parts = nothing law;
  between = before;
  led = refl;
  stops = same;
  counts = tt;
  replies = [];
  table = first.table;
  answered = no_more first.table;
  wrote = (0, ap (λ (d : Device (List ℕ)). d.told) (sink ∙ sym (bytes_none first.sink)));
}

-- ---- what is answered

done_by : (X : Type 0) (requests : ℕ) (end : End) → is_done {X = X} (answer_of requests end) ≡ true
done_by X requests ends.Whole = refl
done_by X requests (ends.Cut at) = refl
done_by X requests (ends.BadFrame at) = refl
done_by X requests ends.Spent = refl

unstopped : {X : Type 0} (requests : ℕ) (end : End) (Says : X → Type 0) → IfStopped {X = X} (answer_of requests end) Says
unstopped requests ends.Whole Says = tt
unstopped requests (ends.Cut at) Says = tt
unstopped requests (ends.BadFrame at) Says = tt
unstopped requests ends.Spent Says = tt

where_done : (b : Bool) (Holds : Type 0) → Holds → WhereDone b Holds
where_done true Holds h = h
where_done false Holds h = tt

-- it ended so
pub ended_new : {A X : Type 0} (a : answerers.Ghosts A X) (past : List Track) (before now : HubSeen A) (first last : Ends) (requests : ℕ) (end : End) → ServesUnlessStopped {X = X} first last (answer_of requests end)
    → AnswersStream a.does a.stops before.answers now.answers first last (answer_of requests end) → Leads past now first last → ServesNew {X = X} a past before now first last (answer_of requests end)
ended_new {A} {X} a past before now first last requests end serves answers leads = record {
  serves = serves;
  stops = unstopped requests end (StopsServing a now.answers first last);
  answers = answers;
  leads = where_done (is_done {X = X} (answer_of requests end)) (Leads past now first last) leads;
  over = λ e. absurd (cc (sym (done_by X requests end) ∙ e));
}
