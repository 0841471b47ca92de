-- Looking for the session with a number.
use Rattle.std.proofs.Common.{◌≡◌, ◌<◌, ◌≤◌, ◌+◌, zero, suc, arith, refl, ap, sym, ◌∙◌, ℕ, List, [], ◌∷◌, ◌++◌, length, get_or, take, drop, append_assoc, add-one}
use Rattle.std.specs.Prelude.{◌==◌, if◌then◌else◌, true, false, Some, None, slice_set}
use Rattle.std.proofs.lemmas.List.{drop_more, get_or_default}
use Rattle.std.proofs.Math.ListN.{drop_of_length-le}
use Rattle.std.proofs.Math.Seq.{take-suc}
use Rattle.rb_session.specs.Sessions.{SessionSeen}
use Rattle.rb_hub.specs.Seats.{session_of, with_session, without, IsPlace}
use Rattle.rb_hub.specs.Hubs.{unknown}
use Rattle.rb_hub.specs.declared.seats.Seat.{Seat}

-- No session before this place has the number.
pub record LiesBehind (number : ℕ) (seats : List Seat) (place : ℕ) : Type 0 where
  pub found : session_of number seats ≡ session_of number (drop place seats)
  pub changed : (now : SessionSeen) → with_session number now seats ≡ take place seats ++ with_session number now (drop place seats)
  pub rest : without number seats ≡ take place seats ++ without number (drop place seats)

take_more : (seats : List Seat) (place : ℕ) (d : Seat) → place < length seats → take (place + 1) seats ≡ take place seats ++ get_or seats place d ∷ []
take_more seats place d within = ap (λ n. take n seats) (add-one place) ∙ take-suc seats place d within

pub begins : (number : ℕ) (seats : List Seat) → LiesBehind number seats 0
begins number seats = record { found = refl; changed = λ now. refl; rest = refl }

-- one more is another
another : (number : ℕ) (seats : List Seat) (place : ℕ) (d : Seat) (rest : List Seat) → place < length seats
    → (take place seats ++ get_or seats place d ∷ rest) ≡ (take (place + 1) seats ++ rest)
another number seats place d rest within =
    sym (append_assoc (take place seats) (get_or seats place d ∷ []) rest) ∙ ap (λ ps. ps ++ rest) (sym (take_more seats place d within))

pub goes_on : (number : ℕ) (seats : List Seat) (place : ℕ) (d : Seat) → place < length seats
    → (get_or seats place d).number == number ≡ false → LiesBehind number seats place → LiesBehind number seats (place + 1)
goes_on number seats place d within other h =
    let next = drop_more seats place d within in
    let others = drop (place + 1) seats in
    let seat = get_or seats place d in
    record {
      found = h.found ∙ ap (session_of number) next ∙ ap (λ b. if b then Some seat.session else session_of number others) other;
      changed = λ now. h.changed now ∙ ap (λ ps. take place seats ++ with_session number now ps) next
          ∙ ap (λ b. take place seats ++ (if b then record seat { session = now } ∷ others else seat ∷ with_session number now others)) other
          ∙ another number seats place d (with_session number now others) within;
      rest = h.rest ∙ ap (λ ps. take place seats ++ without number ps) next
          ∙ ap (λ b. take place seats ++ (if b then others else seat ∷ without number others)) other
          ∙ another number seats place d (without number others) within;
    }

-- a list where one has changed, in two parts
set_parts : (seats : List Seat) (place : ℕ) (seat : Seat) → place < length seats → take place seats ++ seat ∷ drop (place + 1) seats ≡ slice_set seats place seat
set_parts [] place seat within = absurd (omega arith)
set_parts (s ∷ seats) zero seat within = refl
set_parts (s ∷ seats) (suc place) seat within =
    let next : suc place + 1 ≡ suc (place + 1) = omega arith in
    ap (λ n. take (suc place) (s ∷ seats) ++ seat ∷ drop n (s ∷ seats)) next ∙ ap (λ ps. s ∷ ps) (set_parts seats place seat (omega arith))

pub stands : (number : ℕ) (seats : List Seat) (place : ℕ) (d : Seat) → place < length seats
    → (get_or seats place d).number == number ≡ true → LiesBehind number seats place → IsPlace number seats place
stands number seats place d within same h =
    let next = drop_more seats place d within in
    let others = drop (place + 1) seats in
    let seat = get_or seats place d in
    record {
      within = within;
      is = λ e. h.found ∙ ap (session_of number) next ∙ ap (λ b. if b then Some seat.session else session_of number others) same
          ∙ ap (λ (x : Seat). Some x.session) (get_or_default seats place d e within);
      changed = λ e now. h.changed now ∙ ap (λ ps. take place seats ++ with_session number now ps) next
          ∙ ap (λ b. take place seats ++ (if b then record seat { session = now } ∷ others else seat ∷ with_session number now others)) same
          ∙ set_parts seats place record seat { session = now } within
          ∙ ap (λ (x : Seat). slice_set seats place record x { session = now }) (get_or_default seats place d e within);
      rest = h.rest ∙ ap (λ ps. take place seats ++ without number ps) next
          ∙ ap (λ b. take place seats ++ (if b then others else seat ∷ without number others)) same;
    }

pub none_stands : (number : ℕ) (seats : List Seat) (place : ℕ) → length seats ≤ place → LiesBehind number seats place → session_of number seats ≡ None
none_stands number seats place past h = h.found ∙ ap (session_of number) (drop_of_length-le seats past)

-- a session was found
pub known : (number : ℕ) (seats : List Seat) (place : ℕ) → IsPlace number seats place → unknown (session_of number seats) ≡ None
known number [] place at = let within = at.within in absurd (omega arith)
known number (s ∷ seats) place at = ap unknown (at.is s)
