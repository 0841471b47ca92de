-- A session that took a piece ends or stays.
use Rattle.std.proofs.Common.{◌≡◌, ◌<◌, ◌+◌, zero, suc, arith, refl, ap, sym, ◌∙◌, subst, ℕ, All, List, [], ◌∷◌, ◌++◌, length, get_or, take, drop, append_assoc, append-nil, add-one, inr, Option, Some, None, Result, Ok, Err}
use Rattle.std.specs.Prelude.{slice_set}
use Rattle.std.proofs.lemmas.List.Elements.{All-append, All-take, All-drop}
use Rattle.rb_meaning_frames.specs.Histories.{asked_by}
use Rattle.rb_session.specs.declared.answerers.Answers as answerers
use Rattle.rb_session.specs.declared.sessions.SessionStop.{SessionStop}
use Rattle.rb_session.specs.declared.sessions.SessionStop.TheVariants as stops
use Rattle.rb_session.specs.Sessions.{SessionSeen}
use Rattle.rb_hub.specs.Seats.{with_session, IsPlace}
use Rattle.rb_hub.specs.Hubs.{Hears, IsOpen, MayGoOn, end_of, said, seats_after, kept_by, AnswersSo, DoesPiece, HearsBy}
use Rattle.rb_hub.specs.declared.seats.Seat.{Seat}
use Rattle.rb_hub.specs.declared.events.End.{End}
use Rattle.rb_hub.specs.declared.events.Out.{Out}
use Rattle.rb_hub.specs.declared.events.HubStop.TheVariants.{Memory}
use Rattle.rb_hub.proofs.Hearing.{waits_short}

-- ---- one of a list has changed

get_set : (seats : List Seat) (place : ℕ) (seat d : Seat) → place < length seats → get_or (slice_set seats place seat) place d ≡ seat
get_set [] place seat d within = absurd (omega arith)
get_set (s ∷ seats) zero seat d within = refl
get_set (s ∷ seats) (suc place) seat d within = get_set seats place seat d (omega arith)

take_set : (seats : List Seat) (place : ℕ) (seat : Seat) → take place (slice_set seats place seat) ≡ take place seats
take_set [] zero seat = refl
take_set [] (suc place) seat = refl
take_set (s ∷ seats) zero seat = refl
take_set (s ∷ seats) (suc place) seat = ap (λ ps. s ∷ ps) (take_set seats place seat)

drop_set : (seats : List Seat) (place : ℕ) (seat : Seat) → drop (suc place) (slice_set seats place seat) ≡ drop (suc place) seats
drop_set [] place seat = refl
drop_set (s ∷ seats) zero seat = refl
drop_set (s ∷ seats) (suc place) seat = drop_set seats place seat

length_set : (seats : List Seat) (place : ℕ) (seat : Seat) → length (slice_set seats place seat) ≡ length seats
length_set [] place seat = refl
length_set (s ∷ seats) zero seat = refl
length_set (s ∷ seats) (suc place) seat = ap suc (length_set seats place seat)

open_set : (seats : List Seat) (place : ℕ) (seat : Seat) → All IsOpen seats → IsOpen seat → All IsOpen (slice_set seats place seat)
open_set [] place seat all one k d within = all k d within
open_set (s ∷ seats) zero seat all one zero d within = one
open_set (s ∷ seats) zero seat all one (suc k) d within = all (suc k) d (omega arith)
open_set (s ∷ seats) (suc place) seat all one zero d within = all zero d (omega arith)
open_set (s ∷ seats) (suc place) seat all one (suc k) d within = open_set seats place seat (λ i e lt. all (suc i) e (omega arith)) one k d (omega arith)

-- ---- the session ends or stays

seats_finished : (number place : ℕ) (seats mid : List Seat) (now : SessionSeen) (end : Option End) → IsPlace number seats place → mid ≡ with_session number now seats
    → kept_by place end mid ≡ seats_after number now end seats
seats_finished number place seats mid now None at is = is
seats_finished number place [] mid now (Some end) at is = let within = at.within in absurd (omega arith)
seats_finished number place (s ∷ seats) mid now (Some end) at is =
    let all = s ∷ seats in
    let seat = record (get_or all place s) { session = now } in
    let whole : mid ≡ slice_set all place seat = is ∙ at.changed s now in
    ap (λ ps. take place ps ++ drop (place + 1) ps) whole
    ∙ ap (λ ps. ps ++ drop (place + 1) (slice_set all place seat)) (take_set all place seat)
    ∙ ap (λ n. take place all ++ drop n (slice_set all place seat)) (add-one place)
    ∙ ap (λ ps. take place all ++ ps) (drop_set all place seat)
    ∙ ap (λ n. take place all ++ drop n all) (sym (add-one place))
    ∙ sym at.rest

session_there : (number place : ℕ) (seats mid : List Seat) (now : SessionSeen) → IsPlace number seats place → mid ≡ with_session number now seats
    → (d : Seat) → (get_or mid place d).session ≡ now
session_there number place [] mid now at is d = let within = at.within in absurd (omega arith)
session_there number place (s ∷ seats) mid now at is d =
    let seat = record (get_or (s ∷ seats) place s) { session = now } in
    ap (λ (ps : List Seat). (get_or ps place d).session) (is ∙ at.changed s now) ∙ ap (λ (x : Seat). x.session) (get_set (s ∷ seats) place seat d at.within)

place_there : (number place : ℕ) (seats mid : List Seat) (now : SessionSeen) → IsPlace number seats place → mid ≡ with_session number now seats → place < length mid
place_there number place [] mid now at is = let within = at.within in absurd (omega arith)
place_there number place (s ∷ seats) mid now at is =
    let seat = record (get_or (s ∷ seats) place s) { session = now } in
    let within = at.within in
    omega (arith, ap length (is ∙ at.changed s now), length_set (s ∷ seats) place seat)

pub still_there : {A X : Type 0} (a : answerers.Ghosts A X) (before after : A) (number place : ℕ) (piece : List ℕ) (seats mid : List Seat) (given : List Out) (end : Option End)
    → IsPlace number seats place → AnswersSo a number piece before after seats mid given end → place < length mid
still_there a before after number place piece seats mid given end at s = place_there number place seats mid s.now at s.seats_are

witness : (seats : List Seat) (place : ℕ) → place < length seats → Seat
witness [] place within = absurd (omega arith)
witness (s ∷ seats) place within = s

-- all of it was done
pub does_piece : {A X : Type 0} (a : answerers.Ghosts A X) (before after : A) (number place : ℕ) (piece : List ℕ) (seats mid last : List Seat) (end : Option End) (old between new : List Out)
    → IsPlace number seats place → (r : (given : List Out) × (between ≡ old ++ given) × AnswersSo a number piece before after seats mid given end)
    → ((d : Seat) → new ≡ between ++ said number (get_or mid place d).session end) → last ≡ kept_by place end mid
    → (given : List Out) × (new ≡ old ++ given) × DoesPiece a number piece before after seats last given
does_piece a before after number place piece seats mid last end old between new at r says kept =
    let s = r.2 in
    let d = witness seats place at.within in
    let out = said number s.now (end_of s.answer) in (
      r.0 ++ out,
      says d ∙ ap (λ x. between ++ said number x end) (session_there number place seats mid s.now at s.seats_are d) ∙ ap (λ e. between ++ said number s.now e) s.end_is
          ∙ ap (λ x. x ++ out) r.1 ∙ append_assoc old r.0 out,
      record {
        payloads = s.payloads;
        answer = s.answer;
        now = s.now;
        hears = s.hears;
        replies = r.0;
        gives = s.gives;
        is = refl;
        seats_are = kept ∙ seats_finished number place seats mid s.now end at s.seats_are ∙ ap (λ e. seats_after number s.now e seats) s.end_is;
      },
    )

-- memory was wanting for how it ends
pub does_part : {A X : Type 0} (a : answerers.Ghosts A X) (before after : A) (number : ℕ) (piece : List ℕ) (seats mid last : List Seat) (end : Option End) (old between new : List Out)
    → (r : (given : List Out) × (between ≡ old ++ given) × AnswersSo a number piece before after seats mid given end) → new ≡ between
    → (given : List Out) × (new ≡ old ++ given) × HearsBy a number piece before after seats last given (Err Memory)
does_part a before after number piece seats mid last end old between new r same =
    let s = r.2 in (
      r.0,
      same ∙ r.1,
      inr (record {
        payloads = s.payloads;
        answer = s.answer;
        now = s.now;
        hears = s.hears;
        says = record {
          front = asked_by number s.payloads;
          rest = [];
          parts = sym (append-nil (asked_by number s.payloads));
          between = after;
          gives = s.gives;
          left = refl;
        };
      }),
    )

-- a session that goes on is open
open_on : (number : ℕ) (piece : List ℕ) (seats : List Seat) (payloads : List (List ℕ)) (answer : Result Unit SessionStop) (now : SessionSeen) → Hears number piece seats payloads answer now → end_of answer ≡ None
    → (n : ℕ) → IsOpen record { number = n; session = now }
open_on number piece seats payloads (Ok u) now h none n = record { fresh = h.stop; short = waits_short now.rest h.leaves }
open_on number piece seats payloads (Err (stops.BadFrame at)) now h none n = absurd (cc none)
open_on number piece seats payloads (Err stops.SessionSpent) now h none n = absurd (cc none)
open_on number piece seats payloads (Err stops.Memory) now h none n = absurd h.no_want

keeps_open_by : (number place : ℕ) (piece : List ℕ) (seats mid : List Seat) (payloads : List (List ℕ)) (answer : Result Unit SessionStop) (now : SessionSeen) (end : Option End) → IsPlace number seats place → All IsOpen seats
    → Hears number piece seats payloads answer now → mid ≡ with_session number now seats → end ≡ end_of answer → All IsOpen (kept_by place end mid)
keeps_open_by number place piece [] mid payloads answer now end at all h is end_is = let within = at.within in absurd (omega arith)
keeps_open_by number place piece (s ∷ seats) mid payloads answer now None at all h is end_is =
    let seat = get_or (s ∷ seats) place s in
    subst (All IsOpen) (sym (is ∙ at.changed s now)) (open_set (s ∷ seats) place record seat { session = now } all (open_on number piece (s ∷ seats) payloads answer now h (sym end_is) seat.number))
keeps_open_by number place piece (s ∷ seats) mid payloads answer now (Some end) at all h is end_is =
    subst (All IsOpen) (sym (seats_finished number place (s ∷ seats) mid now (Some end) at is ∙ at.rest))
    (All-append IsOpen (take place (s ∷ seats)) (drop (place + 1) (s ∷ seats)) (All-take IsOpen place (s ∷ seats) all) (All-drop IsOpen (place + 1) (s ∷ seats) all))

pub may_go_on : {A X : Type 0} (a : answerers.Ghosts A X) (before after : A) (number place : ℕ) (piece : List ℕ) (seats mid last : List Seat) (given : List Out) (end : Option End) → IsPlace number seats place → All IsOpen seats
    → AnswersSo a number piece before after seats mid given end → last ≡ kept_by place end mid → a.ready after → MayGoOn a after last
may_go_on a before after number place piece seats mid last given end at all s kept ready = record {
  ready = ready;
  seats_open = subst (All IsOpen) (sym kept) (keeps_open_by number place piece seats mid s.payloads s.answer s.now end at all s.hears s.seats_are s.end_is);
}
