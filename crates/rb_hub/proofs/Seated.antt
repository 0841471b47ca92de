-- The open sessions, and those that were opened.
use Rattle.std.proofs.Common.{◌≡◌, ◌<◌, ◌+◌, zero, suc, arith, refl, ap, sym, ◌∙◌, subst, ℕ, true, false, List, [], ◌∷◌, ◌++◌, length, inl, inr, Option, Some, None}
use Rattle.std.specs.Prelude.{if◌then◌else◌}
use Rattle.std.proofs.lemmas.Bool.{eq-eqb, ne_eqb}
use Rattle.rb_session.specs.Sessions.{SessionSeen}
use Rattle.rb_meaning_frames.specs.Histories.{Track, new_track, track_of, changed, open_count}
use Rattle.rb_hub.specs.Seats.{session_of, with_session, without}
use Rattle.rb_hub.specs.Standing.{Follows, IsSeated, AreSeated}
use Rattle.rb_hub.specs.declared.seats.Seat.{Seat}

-- ---- a seat with this number, or another

this_session : (k : ℕ) (seat : Seat) (seats : List Seat) → seat.number ≡ k → session_of k (seat ∷ seats) ≡ Some seat.session
this_session k seat seats is = ap (λ b. if b then Some seat.session else session_of k seats) (eq-eqb seat.number k is)

other_session : (k : ℕ) (seat : Seat) (seats : List Seat) → (seat.number ≡ k → ⊥) → session_of k (seat ∷ seats) ≡ session_of k seats
other_session k seat seats isnt = ap (λ b. if b then Some seat.session else session_of k seats) (ne_eqb seat.number k isnt)

this_with : (k : ℕ) (now : SessionSeen) (seat : Seat) (seats : List Seat) → seat.number ≡ k → with_session k now (seat ∷ seats) ≡ record seat { session = now } ∷ seats
this_with k now seat seats is = ap (λ b. if b then record seat { session = now } ∷ seats else seat ∷ with_session k now seats) (eq-eqb seat.number k is)

other_with : (k : ℕ) (now : SessionSeen) (seat : Seat) (seats : List Seat) → (seat.number ≡ k → ⊥) → with_session k now (seat ∷ seats) ≡ seat ∷ with_session k now seats
other_with k now seat seats isnt = ap (λ b. if b then record seat { session = now } ∷ seats else seat ∷ with_session k now seats) (ne_eqb seat.number k isnt)

this_without : (k : ℕ) (seat : Seat) (seats : List Seat) → seat.number ≡ k → without k (seat ∷ seats) ≡ seats
this_without k seat seats is = ap (λ b. if b then seats else seat ∷ without k seats) (eq-eqb seat.number k is)

other_without : (k : ℕ) (seat : Seat) (seats : List Seat) → (seat.number ≡ k → ⊥) → without k (seat ∷ seats) ≡ seat ∷ without k seats
other_without k seat seats isnt = ap (λ b. if b then seats else seat ∷ without k seats) (ne_eqb seat.number k isnt)

-- ---- those that are left out

-- a closed session has no seat
skips : (n : ℕ) (t : Track) (past : List Track) (seats : List Seat) → t.is_open ≡ false → AreSeated (suc n) past seats → AreSeated n (t ∷ past) seats
skips n t past [] shut rest = (shut, rest)
skips n t past (seat ∷ seats) shut rest = inr (shut, rest)

-- no number before the first has a seat
beyond : (m k : ℕ) (past : List Track) (seats : List Seat) → AreSeated m past seats → k < m → session_of k seats ≡ None
beyond m k [] seats none lt = ap (session_of k) none
beyond m k (t ∷ past) [] h lt = refl
beyond m k (t ∷ past) (seat ∷ seats) (inl h) lt =
    let number = h.0.number_is in
    other_session k seat seats (λ e. omega arith) ∙ beyond (suc m) k past seats h.1 (omega arith)
beyond m k (t ∷ past) (seat ∷ seats) (inr h) lt = beyond (suc m) k past (seat ∷ seats) h.1 (omega arith)

-- ---- who is seen

-- The session with a number was opened, is open, and its stream is followed.
pub record IsSeen (i : ℕ) (past : List Track) (session : SessionSeen) : Type 0 where
  pub t : Track
  pub at : track_of i past ≡ Some t
  pub is_open : t.is_open ≡ true
  pub follows : Follows t.stream session

some_of : {X : Type 0} (x y d : X) → Some x ≡ Some y → x ≡ y
some_of {X} x y d e = ap (λ (o : Option X). elim o as (λ _. X) [ None ↦ d | Some z ↦ z ]) e

head_seen : (n k : ℕ) (t : Track) (past : List Track) (seat : Seat) (seats : List Seat) (session : SessionSeen) → k ≡ n → IsSeated n t seat
    → session_of k (seat ∷ seats) ≡ Some session → IsSeen 0 (t ∷ past) session
head_seen n k t past seat seats session is h found =
    let number = h.number_is in
    let same : seat.session ≡ session = some_of seat.session session session (sym (this_session k seat seats (omega arith)) ∙ found) in
    record { t = t; at = refl; is_open = h.is_open; follows = subst (Follows t.stream) same h.follows }

further : (i : ℕ) (t : Track) (past : List Track) (session : SessionSeen) → IsSeen i past session → IsSeen (suc i) (t ∷ past) session
further i t past session h = record { t = h.t; at = h.at; is_open = h.is_open; follows = h.follows }

pub seen : (n i k : ℕ) (past : List Track) (seats : List Seat) (session : SessionSeen) → k ≡ n + i → AreSeated n past seats → session_of k seats ≡ Some session → IsSeen i past session
seen n i k [] seats session is none found = absurd (cc (sym (ap (session_of k) none) ∙ found))
seen n i k (t ∷ past) [] session is h found = absurd (cc found)
seen n zero k (t ∷ past) (seat ∷ seats) session is (inl h) found = head_seen n k t past seat seats session (omega arith) h.0 found
seen n zero k (t ∷ past) (seat ∷ seats) session is (inr h) found = absurd (cc (sym (beyond (suc n) k past (seat ∷ seats) h.1 (omega arith)) ∙ found))
seen n (suc i) k (t ∷ past) (seat ∷ seats) session is (inl h) found =
    let number = h.0.number_is in
    further i t past session (seen (suc n) i k past seats session (omega arith) h.1 (sym (other_session k seat seats (λ e. omega arith)) ∙ found))
seen n (suc i) k (t ∷ past) (seat ∷ seats) session is (inr h) found =
    further i t past session (seen (suc n) i k past (seat ∷ seats) session (omega arith) h.1 found)

-- The session with a number isn't open, or was never opened.
abbrev pub IsShut : Option Track → Type 0
IsShut None = Unit {0}
IsShut (Some t) = t.is_open ≡ false

pub unseen : (n i k : ℕ) (past : List Track) (seats : List Seat) → k ≡ n + i → AreSeated n past seats → session_of k seats ≡ None → IsShut (track_of i past)
unseen n i k [] seats is none found = tt
unseen n zero k (t ∷ past) [] is h found = h.0
unseen n (suc i) k (t ∷ past) [] is h found = unseen (suc n) i k past [] (omega arith) h.1 refl
unseen n zero k (t ∷ past) (seat ∷ seats) is (inl h) found =
    let number = h.0.number_is in absurd (cc (sym (this_session k seat seats (omega arith)) ∙ found))
unseen n zero k (t ∷ past) (seat ∷ seats) is (inr h) found = h.0
unseen n (suc i) k (t ∷ past) (seat ∷ seats) is (inl h) found =
    let number = h.0.number_is in
    unseen (suc n) i k past seats (omega arith) h.1 (sym (other_session k seat seats (λ e. omega arith)) ∙ found)
unseen n (suc i) k (t ∷ past) (seat ∷ seats) is (inr h) found = unseen (suc n) i k past (seat ∷ seats) (omega arith) h.1 found

-- what leaves a closed session as it is leaves all
pub unchanged : (i : ℕ) (past : List Track) (change : Track → Track) → IsShut (track_of i past) → ((t : Track) → t.is_open ≡ false → change t ≡ t) → changed i change past ≡ past
unchanged i [] change shut same = refl
unchanged zero (t ∷ past) change shut same = ap (λ x. x ∷ past) (same t shut)
unchanged (suc i) (t ∷ past) change shut same = ap (λ ps. t ∷ ps) (unchanged i past change shut same)

-- ---- one session has changed

-- it is open still
pub stays : (n i k : ℕ) (past : List Track) (seats : List Seat) (change : Track → Track) (t : Track) (now : SessionSeen) → k ≡ n + i → AreSeated n past seats
    → track_of i past ≡ Some t → t.is_open ≡ true → (change t).is_open ≡ true → Follows (change t).stream now → AreSeated n (changed i change past) (with_session k now seats)
stays n i k [] seats change t now is none at going still follows = absurd (cc at)
stays n zero k (s ∷ past) [] change t now is h at going still follows =
    let same : s ≡ t = some_of s t t at in absurd (cc (sym h.0 ∙ ap (λ (x : Track). x.is_open) same ∙ going))
stays n (suc i) k (s ∷ past) [] change t now is h at going still follows = (h.0, stays (suc n) i k past [] change t now (omega arith) h.1 at going still follows)
stays n zero k (s ∷ past) (seat ∷ seats) change t now is (inl h) at going still follows =
    let number = h.0.number_is in
    let same : s ≡ t = some_of s t t at in
    subst (AreSeated n (change s ∷ past)) (sym (this_with k now seat seats (omega arith)))
    (inl (
      record {
        is_open = ap (λ (x : Track). (change x).is_open) same ∙ still;
        number_is = number;
        follows = subst (λ (x : Track). Follows (change x).stream now) (sym same) follows;
      },
      h.1,
    ))
stays n zero k (s ∷ past) (seat ∷ seats) change t now is (inr h) at going still follows =
    let same : s ≡ t = some_of s t t at in absurd (cc (sym h.0 ∙ ap (λ (x : Track). x.is_open) same ∙ going))
stays n (suc i) k (s ∷ past) (seat ∷ seats) change t now is (inl h) at going still follows =
    let number = h.0.number_is in
    subst (AreSeated n (s ∷ changed i change past)) (sym (other_with k now seat seats (λ e. omega arith)))
    (inl (h.0, stays (suc n) i k past seats change t now (omega arith) h.1 at going still follows))
stays n (suc i) k (s ∷ past) (seat ∷ seats) change t now is (inr h) at going still follows =
    skips n s (changed i change past) (with_session k now (seat ∷ seats)) h.0 (stays (suc n) i k past (seat ∷ seats) change t now (omega arith) h.1 at going still follows)

-- it has ended
pub leaves : (n i k : ℕ) (past : List Track) (seats : List Seat) (change : Track → Track) (t : Track) → k ≡ n + i → AreSeated n past seats
    → track_of i past ≡ Some t → t.is_open ≡ true → (change t).is_open ≡ false → AreSeated n (changed i change past) (without k seats)
leaves n i k [] seats change t is none at going over = absurd (cc at)
leaves n zero k (s ∷ past) [] change t is h at going over =
    let same : s ≡ t = some_of s t t at in absurd (cc (sym h.0 ∙ ap (λ (x : Track). x.is_open) same ∙ going))
leaves n (suc i) k (s ∷ past) [] change t is h at going over = (h.0, leaves (suc n) i k past [] change t (omega arith) h.1 at going over)
leaves n zero k (s ∷ past) (seat ∷ seats) change t is (inl h) at going over =
    let number = h.0.number_is in
    let same : s ≡ t = some_of s t t at in
    subst (AreSeated n (change s ∷ past)) (sym (this_without k seat seats (omega arith)))
    (skips n (change s) past seats (ap (λ (x : Track). (change x).is_open) same ∙ over) h.1)
leaves n zero k (s ∷ past) (seat ∷ seats) change t is (inr h) at going over =
    let same : s ≡ t = some_of s t t at in absurd (cc (sym h.0 ∙ ap (λ (x : Track). x.is_open) same ∙ going))
leaves n (suc i) k (s ∷ past) (seat ∷ seats) change t is (inl h) at going over =
    let number = h.0.number_is in
    subst (AreSeated n (s ∷ changed i change past)) (sym (other_without k seat seats (λ e. omega arith)))
    (inl (h.0, leaves (suc n) i k past seats change t (omega arith) h.1 at going over))
leaves n (suc i) k (s ∷ past) (seat ∷ seats) change t is (inr h) at going over =
    skips n s (changed i change past) (without k (seat ∷ seats)) h.0 (leaves (suc n) i k past (seat ∷ seats) change t (omega arith) h.1 at going over)

-- ---- one session more

pub joins : (n k : ℕ) (past : List Track) (seats : List Seat) (session : SessionSeen) → k ≡ n + length past → AreSeated n past seats → Follows [] session
    → AreSeated n (past ++ new_track ∷ []) (seats ++ record { number = k; session = session } ∷ [])
joins n k [] seats session is none follows =
    subst (λ ps. AreSeated n (new_track ∷ []) (ps ++ record { number = k; session = session } ∷ [])) (sym none)
    (inl (record { is_open = refl; number_is = omega arith; follows = follows }, refl))
joins n k (t ∷ past) [] session is h follows = inr (h.0, joins (suc n) k past [] session (omega arith) h.1 follows)
joins n k (t ∷ past) (seat ∷ seats) session is (inl h) follows = inl (h.0, joins (suc n) k past seats session (omega arith) h.1 follows)
joins n k (t ∷ past) (seat ∷ seats) session is (inr h) follows = inr (h.0, joins (suc n) k past (seat ∷ seats) session (omega arith) h.1 follows)

-- ---- how many are open

counts_open : (t : Track) (past : List Track) → t.is_open ≡ true → open_count (t ∷ past) ≡ suc (open_count past)
counts_open t past is = ap (λ b. if b then suc (open_count past) else open_count past) is

counts_shut : (t : Track) (past : List Track) → t.is_open ≡ false → open_count (t ∷ past) ≡ open_count past
counts_shut t past is = ap (λ b. if b then suc (open_count past) else open_count past) is

pub counted : (n : ℕ) (past : List Track) (seats : List Seat) → AreSeated n past seats → open_count past ≡ length seats
counted n [] seats none = sym (ap length none)
counted n (t ∷ past) [] h = counts_shut t past h.0 ∙ counted (suc n) past [] h.1
counted n (t ∷ past) (seat ∷ seats) (inl h) = counts_open t past h.0.is_open ∙ ap suc (counted (suc n) past seats h.1)
counted n (t ∷ past) (seat ∷ seats) (inr h) = counts_shut t past h.0 ∙ counted (suc n) past (seat ∷ seats) h.1
