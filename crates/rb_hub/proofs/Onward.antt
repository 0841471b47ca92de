-- A step, by whole streams.
use Rattle.std.proofs.Common.{◌≡◌, refl, ap, sym, ◌∙◌, subst, arith, ℕ, true, false, List, [], ◌∷◌, ◌++◌, length, length-append, zero, suc, inl, inr, Option, Some, None, Result}
use Rattle.std.specs.Prelude.{if◌then◌else◌, nat_le, nat_lt, map}
use Rattle.std.proofs.lemmas.Bool.{cases_Bool, leb-false, leb-true, lt-ltb, le-ltb, and_from, and_left, and_right}
use Rattle.rb_meaning_frames.specs.Reading.{StreamsAreRead, FrontsAreRead, standing, rest_of}
use Rattle.rb_meaning_frames.specs.Histories.{Event, Open, Piece, Close, Track, new_track, goes_on, heard, closed, track_of, changed, open_count, may_open, most_open, most_sessions, Asked, asked_by, new_requests, brought_to, brought, RepliesInOrder, none_asked}
use Rattle.rb_session.specs.Answering.{InTurn}
use Rattle.rb_session.specs.declared.answerers.Answers as answerers
use Rattle.rb_session.specs.declared.sessions.SessionStop.{SessionStop}
use Rattle.rb_session.specs.Sessions.{SessionSeen, new_session}
use Rattle.rb_hub.specs.Serial.{unknown_in, refusal_at, reply_out, end_by, end_at, ended, ended_by_piece, ended_by_close, last_out, ComesOut}
use Rattle.rb_hub.specs.Seats.{session_of}
use Rattle.rb_hub.specs.Hubs.{HubSeen, payloads_of, LeavesAt, GivesSome, DoesNone, StopsAt, Hears, Does, DoesPart, HaltsBy, refusal_of, refusal_by, unknown, end_of, said, seats_after}
use Rattle.rb_hub.specs.Standing.{Follows, AreSeated, Stands, GoesOn, EachGoesOn}
use Rattle.rb_hub.specs.declared.seats.Seat.{Seat}
use Rattle.rb_hub.specs.declared.events.End.{End}
use Rattle.rb_hub.specs.declared.events.Out.{Out}
use Rattle.rb_hub.specs.declared.events.Out.TheVariants.{Opened}
use Rattle.rb_hub.specs.declared.events.HubRefusal.{HubRefusal}
use Rattle.rb_hub.specs.declared.events.HubRefusal.TheVariants.{UnknownSession, Crowded, Numbers, Over}
use Rattle.rb_hub.proofs.Seated.{seen, IsShut, unseen, unchanged, stays, leaves, joins, counted}
use Rattle.rb_hub.proofs.Whole.{follows_none, close_is, IsPiece, is_piece}
use Rattle.rb_hub.proofs.Replied.{gives_none}

-- ---- refusals

pub not_over : {A : Type 0} (hub : HubSeen A) (event : Event) → hub.over ≡ false → refusal_of hub event ≡ refusal_by hub event
not_over hub event going = ap (λ b. if b then Some Over else refusal_by hub event) going

numbers : {A : Type 0} (hub : HubSeen A) → nat_le most_sessions hub.opened ≡ true → refusal_by hub Open ≡ Some Numbers
numbers hub is = ap (λ b. if b then Some Numbers else (if nat_le most_open (length hub.seats) then Some Crowded else None)) is

no_numbers : {A : Type 0} (hub : HubSeen A) → nat_le most_sessions hub.opened ≡ false → refusal_by hub Open ≡ (if nat_le most_open (length hub.seats) then Some Crowded else None)
no_numbers hub is = ap (λ b. if b then Some Numbers else (if nat_le most_open (length hub.seats) then Some Crowded else None)) is

-- ---- a session that is open or not

known_by : (o : Option Track) (t : Track) → o ≡ Some t → t.is_open ≡ true → None ≡ unknown_in o
known_by o t is going = sym (ap unknown_in is ∙ ap (λ b. if b then None else Some UnknownSession) going)

shut_by : (o : Option Track) → IsShut o → Some UnknownSession ≡ unknown_in o
shut_by None shut = refl
shut_by (Some t) shut = sym (ap (λ b. if b then None else Some UnknownSession) shut)

unknown_so : (number : ℕ) (past : List Track) (seats : List Seat) (o : Option SessionSeen) → AreSeated 0 past seats → session_of number seats ≡ o → unknown o ≡ unknown_in (track_of number past)
unknown_so number past seats None s is = shut_by (track_of number past) (unseen 0 number number past seats (omega arith) s is)
unknown_so number past seats (Some session) s is =
    let found = seen 0 number number past seats session (omega arith) s is in known_by (track_of number past) found.t found.at found.is_open

refuses : {A : Type 0} (past : List Track) (event : Event) (hub : HubSeen A) → Stands past hub → refusal_by hub event ≡ refusal_at past event
refuses past Open hub s =
    ap (λ n. if nat_le most_sessions n then Some Numbers else (if nat_le most_open (length hub.seats) then Some Crowded else None)) s.opened
    ∙ ap (λ n. if nat_le most_sessions (length past) then Some Numbers else (if nat_le most_open n then Some Crowded else None)) (sym (counted 0 past hub.seats s.seated))
refuses past (Piece number piece) hub s = unknown_so number past hub.seats (session_of number hub.seats) s.seated refl
refuses past (Close number) hub s = unknown_so number past hub.seats (session_of number hub.seats) s.seated refl

-- ---- whether a session more is opened

-- an event that opens a session
pub opens : {A : Type 0} (past : List Track) (hub : HubSeen A) → Stands past hub → refusal_by hub Open ≡ None → may_open past ≡ true
opens past hub s none =
    let opened = s.opened in
    let seats = counted 0 past hub.seats s.seated in
    elim (cases_Bool (nat_le most_sessions hub.opened)) [
      | inl full ↦ absurd (cc (sym (numbers hub full) ∙ none))
      | inr room ↦
          elim (cases_Bool (nat_le most_open (length hub.seats))) [
            | inl crowded ↦ absurd (cc (sym (no_numbers hub room ∙ ap (λ b. if b then Some Crowded else None) crowded) ∙ none))
            | inr some ↦
                let few = leb-false most_sessions hub.opened room in
                let less = leb-false most_open (length hub.seats) some in
                and_from (nat_lt (length past) most_sessions) (nat_lt (open_count past) most_open)
                (lt-ltb (length past) most_sessions (omega arith)) (lt-ltb (open_count past) most_open (omega arith))
          ]
    ]

-- an event that would, and may not
opens_not : {A : Type 0} (past : List Track) (hub : HubSeen A) (refusal : HubRefusal) → Stands past hub → refusal_by hub Open ≡ Some refusal → may_open past ≡ false
opens_not past hub refusal s some =
    let opened = s.opened in
    let seats = counted 0 past hub.seats s.seated in
    elim (cases_Bool (nat_le most_sessions hub.opened)) [
      | inl full ↦
          let many = leb-true most_sessions hub.opened full in
          and_left (nat_lt (length past) most_sessions) (nat_lt (open_count past) most_open) (le-ltb (length past) most_sessions (omega arith))
      | inr room ↦
          elim (cases_Bool (nat_le most_open (length hub.seats))) [
            | inl crowded ↦
                let many = leb-true most_open (length hub.seats) crowded in
                and_right (nat_lt (length past) most_sessions) (nat_lt (open_count past) most_open) (le-ltb (open_count past) most_open (omega arith))
            | inr few ↦ absurd (cc (sym (no_numbers hub room ∙ ap (λ b. if b then Some Crowded else None) few) ∙ some))
          ]
    ]

-- ---- a session that is open

pub heard_open : (piece : List ℕ) (t : Track) → t.is_open ≡ true → heard piece t ≡ record { stream = t.stream ++ piece; is_open = goes_on (t.stream ++ piece) }
heard_open piece t is = ap (λ b. if b then record { stream = t.stream ++ piece; is_open = goes_on (t.stream ++ piece) } else t) is

heard_shut : (piece : List ℕ) (t : Track) → t.is_open ≡ false → heard piece t ≡ t
heard_shut piece t is = ap (λ b. if b then record { stream = t.stream ++ piece; is_open = goes_on (t.stream ++ piece) } else t) is

closed_shut : (t : Track) → t.is_open ≡ false → closed t ≡ t
closed_shut t is = ap (λ b. record t { is_open = b }) (sym is)

-- what an event brings to an open session
brings_open : (number : ℕ) (past : List Track) (piece : List ℕ) (t : Track) → track_of number past ≡ Some t → t.is_open ≡ true
    → brought_to (track_of number past) piece ≡ new_requests t.stream piece
brings_open number past piece t at is = ap (λ o. brought_to o piece) at ∙ ap (λ b. if b then new_requests t.stream piece else []) is

brings_shut : (o : Option Track) (piece : List ℕ) → IsShut o → brought_to o piece ≡ []
brings_shut None piece shut = refl
brings_shut (Some t) piece shut = ap (λ b. if b then new_requests t.stream piece else []) shut

-- how it ends
ended_open : (number : ℕ) (past : List Track) (piece : List ℕ) (t : Track) → track_of number past ≡ Some t → t.is_open ≡ true
    → ended_by_piece number piece (track_of number past) ≡ ended number (t.stream ++ piece) (end_by (standing (rest_of (t.stream ++ piece))) (t.stream ++ piece))
ended_open number past piece t at is =
    ap (ended_by_piece number piece) at
    ∙ ap (λ b. if b then ended number (t.stream ++ piece) (end_by (standing (rest_of (t.stream ++ piece))) (t.stream ++ piece)) else []) is

ended_shut : (number : ℕ) (piece : List ℕ) (o : Option Track) → IsShut o → ended_by_piece number piece o ≡ []
ended_shut number piece None shut = refl
ended_shut number piece (Some t) shut =
    ap (λ b. if b then ended number (t.stream ++ piece) (end_by (standing (rest_of (t.stream ++ piece))) (t.stream ++ piece)) else []) shut

close_open : (number : ℕ) (past : List Track) (t : Track) → track_of number past ≡ Some t → t.is_open ≡ true
    → ended_by_close number (track_of number past) ≡ ended number t.stream (Some (end_at (rest_of t.stream) t.stream))
close_open number past t at is = ap (ended_by_close number) at ∙ ap (λ b. if b then ended number t.stream (Some (end_at (rest_of t.stream) t.stream)) else []) is

close_shut : (number : ℕ) (o : Option Track) → IsShut o → ended_by_close number o ≡ []
close_shut number None shut = refl
close_shut number (Some t) shut = ap (λ b. if b then ended number t.stream (Some (end_at (rest_of t.stream) t.stream)) else []) shut

-- ---- each event

-- no request was answered
comes_alone : {A X : Type 0} (a : answerers.Ghosts A X) (past : List Track) (event : Event) (before now : A) (given : List Out) → brought past event ≡ [] → now ≡ before
    → given ≡ last_out past event → ComesOut (a.service before) (a.table before) (a.table now) past event given
comes_alone {A} a past event before now given none same is = record {
  replies = [];
  answered = subst (λ asked. RepliesInOrder (a.service before) (a.table before) asked [] (a.table now)) (sym none)
      (subst (λ (x : A). RepliesInOrder (a.service before) (a.table before) [] [] (a.table x)) (sym same) (none_asked (a.table before)));
  is = is;
}

-- none leads to where it was
led_alone : {A X : Type 0} (a : answerers.Ghosts A X) (past : List Track) (event : Event) (before now : A) → brought past event ≡ [] → now ≡ before
    → InTurn a.does before (payloads_of (brought past event)) now
led_alone a past event before now none same = subst (λ asked. InTurn a.does before (payloads_of asked) now) (sym none) same

opened_on : {A X : Type 0} (a : answerers.Ghosts A X) (past : List Track) (before now : HubSeen A) (given : List Out) → Stands past before → refusal_by before Open ≡ None → now.over ≡ false
    → Does a Open before now given → GoesOn a past Open before now given
opened_on a past before now given s none going d =
    let may = opens past before s none in
    let opened = s.opened in
    let risen = d.0.opened_is in
    record {
      stands = record {
        opened = omega (arith, length-append past (new_track ∷ [])) ∙ sym (ap (λ b. length (if b then past ++ new_track ∷ [] else past)) may);
        seated = subst (λ ps. AreSeated 0 ps now.seats) (sym (ap (λ b. if b then past ++ new_track ∷ [] else past) may))
            (subst (AreSeated 0 (past ++ new_track ∷ [])) (sym d.0.seats_are) (joins 0 before.opened past before.seats new_session (omega arith) s.seated follows_none));
        going = going;
      };
      outs = comes_alone a past Open before.answers now.answers given refl d.1
          (d.0.is ∙ ap (λ n. Opened n ∷ []) opened ∙ sym (ap (λ b. if b then Opened (length past) ∷ [] else []) may));
      led = led_alone a past Open before.answers now.answers refl d.1;
      service = ap a.service d.1;
    }

-- where the sessions stand after a piece
seated_by : (number : ℕ) (past : List Track) (seats : List Seat) (piece : List ℕ) (payloads : List (List ℕ)) (answer : Result Unit SessionStop) (now : SessionSeen) (t : Track) (end : Option End) → AreSeated 0 past seats
    → track_of number past ≡ Some t → t.is_open ≡ true → end_of answer ≡ end → IsPiece number t.stream piece payloads answer now
    → AreSeated 0 (changed number (heard piece) past) (seats_after number now end seats)
seated_by number past seats piece payloads answer now t None s at is none p =
    stays 0 number number past seats (heard piece) t now (omega arith) s at is (ap (λ (x : Track). x.is_open) (heard_open piece t is) ∙ p.goes none)
    (subst (λ (x : Track). Follows x.stream now) (sym (heard_open piece t is)) (p.follows none))
seated_by number past seats piece payloads answer now t (Some end) s at is some p =
    leaves 0 number number past seats (heard piece) t (omega arith) s at is (ap (λ (x : Track). x.is_open) (heard_open piece t is) ∙ p.over end some)

length_changed : (number : ℕ) (change : Track → Track) (past : List Track) → length (changed number change past) ≡ length past
length_changed number change [] = refl
length_changed zero change (t ∷ past) = refl
length_changed (suc number) change (t ∷ past) = ap suc (length_changed number change past)

-- what a piece is of the whole stream of a session that is open
record IsHeard (number : ℕ) (piece : List ℕ) (past : List Track) (payloads : List (List ℕ)) (answer : Result Unit SessionStop) (now : SessionSeen) : Type 0 where
  pub t : Track
  pub at : track_of number past ≡ Some t
  pub is_open : t.is_open ≡ true
  pub piece_is : IsPiece number t.stream piece payloads answer now
  pub brings : brought past (Piece number piece) ≡ asked_by number payloads

is_heard : {A : Type 0} (number : ℕ) (piece : List ℕ) (past : List Track) (before : HubSeen A) (payloads : List (List ℕ)) (answer : Result Unit SessionStop) (now : SessionSeen) → StreamsAreRead → FrontsAreRead
    → Stands past before → Hears number piece before.seats payloads answer now → IsHeard number piece past payloads answer now
is_heard number piece past before payloads answer now law fronts s h =
    let found = seen 0 number number past before.seats h.session (omega arith) s.seated h.found in
    let t = found.t in
    let p = is_piece law fronts number t.stream piece payloads h.session now answer found.follows h.cuts h.stop h.leaves h.no_want in
    record {
      t = t;
      at = found.at;
      is_open = found.is_open;
      piece_is = p;
      brings = ap (asked_by number) (brings_open number past piece t found.at found.is_open ∙ p.brings);
    }

heard_on : {A X : Type 0} (a : answerers.Ghosts A X) (number : ℕ) (piece : List ℕ) (past : List Track) (before now : HubSeen A) (given : List Out) → StreamsAreRead → FrontsAreRead → Stands past before → now.over ≡ false
    → Does a (Piece number piece) before now given → GoesOn a past (Piece number piece) before now given
heard_on a number piece past before now given law fronts s going d =
    let does = d.0 in
    let h = is_heard number piece past before does.payloads does.answer does.now law fronts s does.hears in
    record {
      stands = record {
        opened = d.1 ∙ s.opened ∙ sym (length_changed number (heard piece) past);
        seated = subst (AreSeated 0 (changed number (heard piece) past)) (sym does.seats_are)
            (seated_by number past before.seats piece does.payloads does.answer does.now h.t (end_of does.answer) s.seated h.at h.is_open refl h.piece_is);
        going = going;
      };
      outs = record {
        replies = does.gives.replies;
        answered = subst (λ asked. RepliesInOrder (a.service before.answers) (a.table before.answers) asked does.gives.replies (a.table now.answers)) (sym h.brings) does.gives.answered;
        is = does.is ∙ ap (λ outs. outs ++ said number does.now (end_of does.answer)) does.gives.is
            ∙ ap (λ outs. map reply_out does.gives.replies ++ outs) (sym h.piece_is.ends ∙ sym (ended_open number past piece h.t h.at h.is_open));
      };
      led = subst (λ asked. InTurn a.does before.answers (payloads_of asked) now.answers) (sym h.brings) does.gives.led;
      service = does.gives.service;
    }

closed_on : {A X : Type 0} (a : answerers.Ghosts A X) (number : ℕ) (past : List Track) (before now : HubSeen A) (given : List Out) → StreamsAreRead → Stands past before → now.over ≡ false
    → Does a (Close number) before now given → GoesOn a past (Close number) before now given
closed_on a number past before now given law s going d =
    let found = seen 0 number number past before.seats d.0.session (omega arith) s.seated d.0.found in
    let t = found.t in
    record {
      stands = record {
        opened = d.2 ∙ s.opened ∙ sym (length_changed number closed past);
        seated = subst (AreSeated 0 (changed number closed past)) (sym d.0.seats_are) (leaves 0 number number past before.seats closed t (omega arith) s.seated found.at found.is_open refl);
        going = going;
      };
      outs = comes_alone a past (Close number) before.answers now.answers given refl d.1
          (d.0.is ∙ sym (close_is law number t.stream d.0.session found.follows) ∙ sym (close_open number past t found.at found.is_open));
      led = led_alone a past (Close number) before.answers now.answers refl d.1;
      service = ap a.service d.1;
    }

done : {A X : Type 0} (a : answerers.Ghosts A X) → StreamsAreRead → FrontsAreRead → (past : List Track) (event : Event) (before now : HubSeen A) (given : List Out) → Stands past before → refusal_by before event ≡ None → now.over ≡ false
    → Does a event before now given → GoesOn a past event before now given
done a law fronts past Open before now given s none going d = opened_on a past before now given s none going d
done a law fronts past (Piece number piece) before now given s none going d = heard_on a number piece past before now given law fronts s going d
done a law fronts past (Close number) before now given s none going d = closed_on a number past before now given law s going d

-- ---- a refused event

known_not : (o : Option SessionSeen) (refusal : HubRefusal) → unknown o ≡ Some refusal → o ≡ None
known_not None refusal is = refl
known_not (Some session) refusal is = absurd (cc is)

refused : {A X : Type 0} (a : answerers.Ghosts A X) (past : List Track) (event : Event) (hub : HubSeen A) (refusal : HubRefusal) → Stands past hub → refusal_by hub event ≡ Some refusal
    → GoesOn a past event hub hub []
refused a past Open hub refusal s some =
    let may = opens_not past hub refusal s some in
    record {
      stands = subst (λ ps. Stands ps hub) (sym (ap (λ b. if b then past ++ new_track ∷ [] else past) may)) s;
      outs = comes_alone a past Open hub.answers hub.answers [] refl refl (sym (ap (λ b. if b then Opened (length past) ∷ [] else []) may));
      led = led_alone a past Open hub.answers hub.answers refl refl;
      service = refl;
    }
refused a past (Piece number piece) hub refusal s some =
    let shut = unseen 0 number number past hub.seats (omega arith) s.seated (known_not (session_of number hub.seats) refusal some) in
    let none : brought past (Piece number piece) ≡ [] = ap (asked_by number) (brings_shut (track_of number past) piece shut) in
    record {
      stands = subst (λ ps. Stands ps hub) (sym (unchanged number past (heard piece) shut (heard_shut piece))) s;
      outs = comes_alone a past (Piece number piece) hub.answers hub.answers [] none refl (sym (ended_shut number piece (track_of number past) shut));
      led = led_alone a past (Piece number piece) hub.answers hub.answers none refl;
      service = refl;
    }
refused a past (Close number) hub refusal s some =
    let shut = unseen 0 number number past hub.seats (omega arith) s.seated (known_not (session_of number hub.seats) refusal some) in
    record {
      stands = subst (λ ps. Stands ps hub) (sym (unchanged number past closed shut closed_shut)) s;
      outs = comes_alone a past (Close number) hub.answers hub.answers [] refl refl (sym (close_shut number (track_of number past) shut));
      led = led_alone a past (Close number) hub.answers hub.answers refl refl;
      service = refl;
    }

-- ---- an event that wasn't done whole

left_none : {A X : Type 0} (a : answerers.Ghosts A X) (between after : A) (asked : List Asked) → after ≡ between → LeavesAt a between asked after
left_none a between after [] same = same
left_none a between after (next ∷ rest) same = inl same

some_none : {A X : Type 0} (a : answerers.Ghosts A X) (before after : A) (asked : List Asked) (given : List Out) → DoesNone before after given → GivesSome a before after asked given
some_none a before after asked given none = subst (GivesSome a before after asked) (sym none.0)
    (record { front = []; rest = asked; parts = refl; between = before; gives = gives_none a before; left = left_none a before after asked none.1 })

wanted : {A X : Type 0} (a : answerers.Ghosts A X) → StreamsAreRead → FrontsAreRead → (past : List Track) (event : Event) (before now : HubSeen A) (given : List Out) → Stands past before
    → DoesPart a event before now given → GivesSome a before.answers now.answers (brought past event) given
wanted a law fronts past Open before now given s none = some_none a before.answers now.answers [] given none
wanted a law fronts past (Close number) before now given s none = some_none a before.answers now.answers [] given none
wanted a law fronts past (Piece number piece) before now given s (inl none) = some_none a before.answers now.answers (brought past (Piece number piece)) given none
wanted a law fronts past (Piece number piece) before now given s (inr part) =
    subst (λ asked. GivesSome a before.answers now.answers asked given) (sym (is_heard number piece past before part.payloads part.answer part.now law fronts s part.hears).brings) part.says

stopped : {A X : Type 0} (a : answerers.Ghosts A X) → StreamsAreRead → FrontsAreRead → (past : List Track) (event : Event) (before now : HubSeen A) (given : List Out) (stop : X) → Stands past before
    → HaltsBy a event before now given stop → StopsAt a before.answers now.answers (brought past event) given stop
stopped a law fronts past Open before now given stop s h = absurd h
stopped a law fronts past (Close number) before now given stop s h = absurd h
stopped a law fronts past (Piece number piece) before now given stop s h =
    subst (λ asked. StopsAt a before.answers now.answers asked given stop) (sym (is_heard number piece past before h.payloads h.answer h.now law fronts s h.hears).brings) h.says

pub each_goes_on : {A X : Type 0} (a : answerers.Ghosts A X) → StreamsAreRead → FrontsAreRead → EachGoesOn a
each_goes_on a law fronts = record {
  refuses = λ past event hub s. not_over hub event s.going ∙ refuses past event hub s;
  done = λ past event before now given s none going d. done a law fronts past event before now given s (sym (not_over before event s.going) ∙ none) going d;
  refused = λ past event hub refusal s some. refused a past event hub refusal s (sym (not_over hub event s.going) ∙ some);
  wanted = wanted a law fronts;
  stopped = stopped a law fronts;
}
