-- The session that was opened last.
use Rattle.std.proofs.Common.{◌≡◌, ◌<◌, ◌≤◌, ◌+◌, ◌*◌, suc, arith, refl, ap, sym, ◌∙◌, subst, ℕ, Bool, true, false, All, List, [], ◌∷◌, ◌++◌, length, length-append, mul-le-mul_right, inl, inr, Option, Some, None, Result, Ok, Err}
use Rattle.std.specs.Prelude.{if◌then◌else◌, map}
use Rattle.rb_trees.specs.declared.services.Object.{Object}
use Rattle.rb_trees.specs.mirror.Services.{Service}
use Rattle.rb_meaning.specs.Replies.{header_length}
use Rattle.rb_meaning_frames.specs.Frames.{header_bytes, frame_bytes, request_kind}
use Rattle.rb_meaning_frames.specs.Streams.{IsRequest, request_frames, most_requests}
use Rattle.rb_meaning_frames.specs.Reading.{Division, StreamsAreRead, rest_of}
use Rattle.rb_meaning_frames.specs.Histories.{Open, Piece, Close, Track, new_track, track_of, changed, goes_on, heard, closed, after, Replied, RepliesInOrder, none_asked}
use Rattle.rb_session.specs.declared.answerers.Answers as answerers
use Rattle.rb_session.specs.Taking.{longest_frame}
use Rattle.rb_session.specs.Sessions.{SessionSeen, came}
use Rattle.rb_hub.specs.Seats.{session_of}
use Rattle.rb_hub.specs.Serial.{end_at, ended, ended_by_close, unknown_in, last_out, reply_out}
use Rattle.rb_hub.specs.Hubs.{HubSeen, Does, Steps, refusal_of}
use Rattle.rb_hub.specs.Standing.{Follows, IsSeated, AreSeated, Stands, EachGoesOn}
use Rattle.rb_hub.specs.Delivering.{end_in}
use Rattle.rb_hub.specs.Passing.{track, StandsWith, IsLast, Opens, Shuts}
use Rattle.rb_hub.specs.declared.seats.Seat.{Seat}
use Rattle.rb_hub.specs.declared.events.End.{End}
use Rattle.rb_hub.specs.declared.events.Out.{Out}
use Rattle.rb_hub.specs.declared.events.Out.TheVariants.{Ended}
use Rattle.rb_hub.specs.declared.events.HubStop.{HubStop}
use Rattle.rb_hub.specs.declared.events.HubStop.TheVariants.{Refused, Memory, Answers}
use Rattle.rb_hub.proofs.Seated.{seen, IsShut, unseen}
use Rattle.rb_hub.proofs.Whole.{follows_read}
use Rattle.rb_hub.proofs.Hearing.{waits_short}
use Rattle.rb_hub.proofs.Onward.{not_over, opens}

-- ---- where it stands

pub track_last : (past : List Track) (t : Track) → track_of (length past) (past ++ t ∷ []) ≡ Some t
track_last [] t = refl
track_last (s ∷ past) t = track_last past t

pub changed_last : (past : List Track) (t : Track) (change : Track → Track) → changed (length past) change (past ++ t ∷ []) ≡ past ++ change t ∷ []
changed_last [] t change = refl
changed_last (s ∷ past) t change = ap (λ ps. s ∷ ps) (changed_last past t change)

pub after_piece : (past : List Track) (stream piece : List ℕ)
    → after (past ++ track stream true ∷ []) (Piece (length past) piece) ≡ past ++ track (stream ++ piece) (goes_on (stream ++ piece)) ∷ []
after_piece past stream piece = changed_last past (track stream true) (heard piece)

pub after_close : (past : List Track) (stream : List ℕ) (is_open : Bool) → after (past ++ track stream is_open ∷ []) (Close (length past)) ≡ past ++ track stream false ∷ []
after_close past stream is_open = changed_last past (track stream is_open) closed

-- ---- the session of an open track

-- what the hub has of it
pub record HasLast {A : Type 0} (number : ℕ) (stream : List ℕ) (hub : HubSeen A) : Type 0 where
  pub session : SessionSeen
  pub found : session_of number hub.seats ≡ Some session
  pub follows : Follows stream session

some_of : {X : Type 0} (x y d : X) → Some x ≡ Some y → x ≡ y
some_of {X} x y d e = ap (λ (o : Option X). elim o as (λ _. X) [ None ↦ d | Some z ↦ z ]) e

has_by : {A : Type 0} (past : List Track) (stream : List ℕ) (hub : HubSeen A) (o : Option SessionSeen) → StandsWith past (track stream true) hub → session_of (length past) hub.seats ≡ o
    → HasLast (length past) stream hub
has_by past stream hub None s is =
    let shut = unseen 0 (length past) (length past) (past ++ track stream true ∷ []) hub.seats (omega arith) s.seated is in
    absurd (cc (subst IsShut (track_last past (track stream true)) shut))
has_by past stream hub (Some session) s is =
    let found = seen 0 (length past) (length past) (past ++ track stream true ∷ []) hub.seats session (omega arith) s.seated is in
    let same : found.t ≡ track stream true = some_of found.t (track stream true) found.t (sym found.at ∙ track_last past (track stream true)) in
    record { session = session; found = is; follows = subst (λ (t : Track). Follows t.stream session) same found.follows }

pub has_last : {A : Type 0} (number : ℕ) (past : List Track) (stream : List ℕ) (hub : HubSeen A) → number ≡ length past → StandsWith past (track stream true) hub → HasLast number stream hub
has_last number past stream hub is s =
    subst (λ n. HasLast n stream hub) (sym is) (has_by past stream hub (session_of (length past) hub.seats) s refl)

-- ---- how much came of it

abbrev pub came_in : Option SessionSeen → ℕ
came_in None = 0
came_in (Some session) = came session

-- how many bytes came of the session with this number
abbrev pub came_at : ℕ → List Seat → ℕ
came_at number seats = came_in (session_of number seats)

pub came_so : {A : Type 0} (number : ℕ) (past : List Track) (stream : List ℕ) (hub : HubSeen A) → number ≡ length past → StandsWith past (track stream true) hub → came_at number hub.seats ≡ length stream
came_so number past stream hub is s =
    let h = has_last number past stream hub is s in ap came_in h.found ∙ h.follows.came_is

length-frame : (payload : List ℕ) → length (frame_bytes request_kind payload) ≡ header_length + length payload
unfolding header_bytes
length-frame payload = length-append (header_bytes request_kind (length payload)) payload

frames_short : (ps : List (List ℕ)) → All IsRequest ps → length (request_frames ps) ≤ length ps * longest_frame
frames_short [] all = omega arith
frames_short (p ∷ ps) all =
    let one = all 0 p (omega arith) in
    let more = frames_short ps (λ i d lt. all (suc i) d (omega arith)) in
    omega (arith, length-append (frame_bytes request_kind p) (request_frames ps), length-frame p)

-- no more than this may come
abbrev pub most_bytes : ℕ
most_bytes = (most_requests + 1) * longest_frame

stream_short : (stream : List ℕ) (session : SessionSeen) → Follows stream session → length stream < most_bytes
stream_short stream session f =
    let front = frames_short f.payloads f.requests in
    let rest = waits_short session.rest f.waits in
    let few = mul-le-mul_right longest_frame f.few in
    omega (arith, ap length f.is, length-append (request_frames f.payloads) session.rest)

pub short_so : {A : Type 0} (number : ℕ) (past : List Track) (stream : List ℕ) (hub : HubSeen A) → number ≡ length past → StandsWith past (track stream true) hub → length stream < most_bytes
short_so number past stream hub is s = let h = has_last number past stream hub is s in stream_short stream h.session h.follows

-- ---- it is opened

pub opened_last : {A X : Type 0} (a : answerers.Ghosts A X) (past : List Track) (before now : HubSeen A) (given : List Out) → EachGoesOn a → refusal_of before Open ≡ None → now.over ≡ false
    → Does a Open before now given → Stands past before → Opens past before now
opened_last a past before now given law none going d s =
    let g = law.done past Open before now given s none going d in
    let may = opens past before s (sym (not_over before Open s.going) ∙ none) in
    record {
      stands = subst (λ ps. Stands ps now) (ap (λ b. if b then past ++ new_track ∷ [] else past) may) g.stands;
      same = d.1;
    }

-- no request is answered by it
pub opening_answers : {A X : Type 0} (a : answerers.Ghosts A X) (before now : HubSeen A) (old new : List Out) (answer : Result Unit (HubStop X)) → Steps a Open before now old new answer → now.answers ≡ before.answers
opening_answers a before now old new (Ok u) s = s.1.2.1
opening_answers {A} a before now old new (Err (Refused refusal)) s = ap (λ (h : HubSeen A). h.answers) s.0
opening_answers a before now old new (Err Memory) s = s.1.2.1
opening_answers a before now old new (Err (Answers stop)) s = absurd s.1.2

-- ---- it is closed

-- a session that is open isn't refused
pub known_last : {A X : Type 0} (a : answerers.Ghosts A X) (number : ℕ) (hub : HubSeen A) → EachGoesOn a → IsLast number true hub → refusal_of hub (Close number) ≡ None
known_last a number hub law last =
    let past = last.0 in
    let t = track last.1 true in
    law.refuses (past ++ t ∷ []) (Close number) hub last.3 ∙ ap (λ n. unknown_in (track_of n (past ++ t ∷ []))) last.2 ∙ ap unknown_in (track_last past t)

no_replies : (service : Service) (table left : List Object) (replies : List Replied) → RepliesInOrder service table [] replies left → replies ≡ []
no_replies service _ _ _ (none_asked table) = refl

-- what came out is how it ends
end_said : (number requests : ℕ) (past : List Track) (stream : List ℕ) (end : End) (outs : List Out) → number ≡ length past
    → Ended number requests end ∷ [] ≡ outs ++ last_out (past ++ track stream true ∷ []) (Close number) → outs ≡ [] → end ≡ end_at (rest_of stream) stream
end_said number requests past stream end outs is said none =
    let t = track stream true in
    let here : track_of number (past ++ t ∷ []) ≡ Some t = ap (λ n. track_of n (past ++ t ∷ [])) is ∙ track_last past t in
    let all : Ended number requests end ∷ [] ≡ ended number stream (Some (end_at (rest_of stream) stream)) =
    said ∙ ap (λ os. os ++ last_out (past ++ t ∷ []) (Close number)) none ∙ ap (ended_by_close number) here in
    some_of end (end_at (rest_of stream) stream) end (ap end_in all)

pub closed_last : {A X : Type 0} (a : answerers.Ghosts A X) (number requests : ℕ) (past : List Track) (stream : List ℕ) (end : End) (before now : HubSeen A) → EachGoesOn a → refusal_of before (Close number) ≡ None
    → now.over ≡ false → Does a (Close number) before now (Ended number requests end ∷ []) → number ≡ length past → StandsWith past (track stream true) before
    → Shuts past stream before now × (end ≡ end_at (rest_of stream) stream)
closed_last a number requests past stream end before now law none going d is s =
    let t = track stream true in
    let g = law.done (past ++ t ∷ []) (Close number) before now (Ended number requests end ∷ []) s none going d in (
      record {
        stands = subst (λ ps. Stands ps now) (ap (λ n. after (past ++ t ∷ []) (Close n)) is ∙ after_close past stream true) g.stands;
        same = d.1;
      },
      end_said number requests past stream end (map reply_out g.outs.replies) is g.outs.is
          (ap (map reply_out) (no_replies (a.service before.answers) (a.table before.answers) (a.table now.answers) g.outs.replies g.outs.answered)),
    )

-- ---- where a hub stands, it has one shape

same_session : StreamsAreRead → (stream : List ℕ) (s t : SessionSeen) → Follows stream s → Follows stream t → t ≡ s
same_session law stream s t f g =
    let same = sym (follows_read law stream t g) ∙ follows_read law stream s f in
    let rest : t.rest ≡ s.rest = ap (λ (d : Division). d.rest) same in
    let count : length g.payloads ≡ length f.payloads = ap (λ (d : Division). length d.payloads) same in
    let requests : t.requests ≡ s.requests = g.count ∙ count ∙ sym f.count in
    let f_came = f.came_is in
    let g_came = g.came_is in
    let offset : t.offset ≡ s.offset = omega (arith, ap length rest) in
    let stop : t.stop ≡ s.stop = g.fresh ∙ sym f.fresh in
    ap (λ x. record { rest = x; offset = t.offset; requests = t.requests; stop = t.stop }) rest
    ∙ ap (λ x. record { rest = s.rest; offset = x; requests = t.requests; stop = t.stop }) offset
    ∙ ap (λ x. record { rest = s.rest; offset = s.offset; requests = x; stop = t.stop }) requests
    ∙ ap (λ x. record { rest = s.rest; offset = s.offset; requests = s.requests; stop = x }) stop

same_seat : StreamsAreRead → (n : ℕ) (t : Track) (seat seat' : Seat) → IsSeated n t seat → IsSeated n t seat' → seat' ≡ seat
same_seat law n t seat seat' h h' =
    let number : seat'.number ≡ seat.number = h'.number_is ∙ sym h.number_is in
    let session = same_session law t.stream seat.session seat'.session h.follows h'.follows in
    ap (λ x. record { number = x; session = seat'.session }) number ∙ ap (λ x. record { number = seat.number; session = x }) session

not_both : (b : Bool) → b ≡ true → b ≡ false → ⊥
not_both b is isnt = cc (sym is ∙ isnt)

-- a session more that isn't open has no seat
one_seating : StreamsAreRead → (n : ℕ) (past : List Track) (t : Track) (seats seats' : List Seat) → t.is_open ≡ false → AreSeated n past seats → AreSeated n (past ++ t ∷ []) seats' → seats' ≡ seats
one_seating law n [] t seats [] shut none h = sym none
one_seating law n [] t seats (x ∷ xs) shut none (inl h) = absurd (not_both t.is_open h.0.is_open shut)
one_seating law n [] t seats (x ∷ xs) shut none (inr h) = absurd (cc h.1)
one_seating law n (s ∷ past) t [] [] shut h h' = refl
one_seating law n (s ∷ past) t [] (x ∷ xs) shut h (inl h') = absurd (not_both s.is_open h'.0.is_open h.0)
one_seating law n (s ∷ past) t [] (x ∷ xs) shut h (inr h') = one_seating law (suc n) past t [] (x ∷ xs) shut h.1 h'.1
one_seating law n (s ∷ past) t (y ∷ ys) [] shut (inl h) h' = absurd (not_both s.is_open h.0.is_open h'.0)
one_seating law n (s ∷ past) t (y ∷ ys) [] shut (inr h) h' = one_seating law (suc n) past t (y ∷ ys) [] shut h.1 h'.1
one_seating law n (s ∷ past) t (y ∷ ys) (x ∷ xs) shut (inl h) (inl h') =
    ap (λ z. z ∷ xs) (same_seat law n s y x h.0 h'.0) ∙ ap (λ zs. y ∷ zs) (one_seating law (suc n) past t ys xs shut h.1 h'.1)
one_seating law n (s ∷ past) t (y ∷ ys) (x ∷ xs) shut (inl h) (inr h') = absurd (not_both s.is_open h.0.is_open h'.0)
one_seating law n (s ∷ past) t (y ∷ ys) (x ∷ xs) shut (inr h) (inl h') = absurd (not_both s.is_open h'.0.is_open h.0)
one_seating law n (s ∷ past) t (y ∷ ys) (x ∷ xs) shut (inr h) (inr h') = one_seating law (suc n) past t (y ∷ ys) (x ∷ xs) shut h.1 h'.1

-- so the hub is as before, but for one number more that was given
pub one_more_opened : {A : Type 0} (past : List Track) (stream : List ℕ) (before now : HubSeen A) → StreamsAreRead → Stands past before → StandsWith past (track stream false) now
    → now ≡ record before { answers = now.answers; opened = before.opened + 1 }
one_more_opened past stream before now law s n =
    let t = track stream false in
    let was = s.opened in
    let is = n.opened in
    let opened : now.opened ≡ before.opened + 1 = omega (arith, length-append past (t ∷ [])) in
    let seats = one_seating law 0 past t before.seats now.seats refl s.seated n.seated in
    let over : now.over ≡ before.over = n.going ∙ sym s.going in
    ap (λ x. record now { opened = x }) opened
    ∙ ap (λ x. record { answers = now.answers; opened = before.opened + 1; seats = x; over = now.over }) seats
    ∙ ap (λ x. record { answers = now.answers; opened = before.opened + 1; seats = before.seats; over = x }) over
