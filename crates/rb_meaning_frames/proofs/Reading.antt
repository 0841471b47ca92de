-- A division of a stream is what it is read as.
use Rattle.std.proofs.Common.{◌≡◌, ℕ, zero, suc, ◌+◌, ◌-◌, ◌<◌, ◌≤◌, Bool, true, false, All, List, [], ◌∷◌, ◌++◌, length, take, drop, get_or, refl, ap, sym, ◌∙◌, arith, append_assoc, length-append, inl, inr, Option, None, Some}
use Rattle.std.specs.Prelude.{nat_le, if◌then◌else◌}
use Rattle.std.specs.Int.{w64, from_be_bytes, to_be_bytes}
use Rattle.std.proofs.lemmas.Bool.{cases_lt, cases_Bool, le-leb, lt-leb, leb-true}
use Rattle.std.proofs.lemmas.List.{take-append-le, drop-append-le, length-drop}
use Rattle.std.proofs.Math.Seq.{take-append_seam, drop-append_seam}
use Rattle.rb_meaning.specs.Answers.{longest_request}
use Rattle.rb_meaning.specs.Replies.{header_length, announced}
use Rattle.rb_meaning_frames.specs.Frames.{header_bytes, frame_bytes, request_kind, is_request, may_stand}
use Rattle.rb_meaning_frames.specs.Streams.{IsRequest, request_frames, BreaksRequest, Waits, BeginsWhole, most_requests}
use Rattle.rb_meaning_frames.specs.Reading.{Standing, Whole, Waiting, Breaking, first_wrong, by_payload, by_length, standing, Division, undivided, with_first, divided, IsLast, StreamsAreRead, FrontsAreRead, RequestsStay}
use Rattle.rb_meaning_frames.proofs.Headers.{length-header}
use Rattle.rb_meaning_frames.proofs.Divided.{length-frame, announced_of, at_three, first, others}

-- ---- the first wrong byte

-- bytes behind the third are never wrong
none_wrong : (n : ℕ) (bytes : List ℕ) → 3 ≤ n → first_wrong n bytes ≡ None
none_wrong n [] le = refl
none_wrong n (b ∷ bs) le = ap (λ t. if t then first_wrong (suc n) bs else Some n) (at_three n b le) ∙ none_wrong (suc n) bs (omega arith)

none_by_each : (n : ℕ) (bytes : List ℕ) → ((i : ℕ) → i < length bytes → may_stand is_request (n + i) (get_or bytes i 0) ≡ true) → first_wrong n bytes ≡ None
none_by_each n [] right = refl
none_by_each n (b ∷ bs) right =
    ap (λ t. if t then first_wrong (suc n) bs else Some n) (ap (λ k. may_stand is_request k b) (omega arith) ∙ right 0 (omega arith))
    ∙ none_by_each (suc n) bs (λ i lt. ap (λ k. may_stand is_request k (get_or bs i 0)) (omega arith) ∙ right (suc i) (omega arith))

some_by_first : (n at : ℕ) (bytes : List ℕ) → at < length bytes → may_stand is_request (n + at) (get_or bytes at 0) ≡ false
    → ((i : ℕ) → i < at → may_stand is_request (n + i) (get_or bytes i 0) ≡ true) → first_wrong n bytes ≡ Some (n + at)
some_by_first n at [] lt wrong right = absurd (omega arith)
some_by_first n zero (b ∷ bs) lt wrong right =
    ap (λ t. if t then first_wrong (suc n) bs else Some n) (ap (λ k. may_stand is_request k b) (omega arith) ∙ wrong) ∙ ap Some (omega arith)
some_by_first n (suc at) (b ∷ bs) lt wrong right =
    ap (λ t. if t then first_wrong (suc n) bs else Some n) (ap (λ k. may_stand is_request k b) (omega arith) ∙ right 0 (omega arith))
    ∙ some_by_first (suc n) at bs (omega arith) (ap (λ k. may_stand is_request k (get_or bs at 0)) (omega arith) ∙ wrong)
    (λ i less. ap (λ k. may_stand is_request k (get_or bs i 0)) (omega arith) ∙ right (suc i) (omega arith))
    ∙ ap Some (omega arith)

none_longer : (n : ℕ) (bytes more : List ℕ) → first_wrong n bytes ≡ None → 3 ≤ n + length bytes → first_wrong n (bytes ++ more) ≡ None
none_longer n [] more none le = none_wrong n more (omega arith)
none_longer n (b ∷ bs) more none le =
    elim (cases_Bool (may_stand is_request n b)) [
      | inl is ↦
          ap (λ t. if t then first_wrong (suc n) (bs ++ more) else Some n) is
          ∙ none_longer (suc n) bs more (sym (ap (λ t. if t then first_wrong (suc n) bs else Some n) is) ∙ none) (omega arith)
      | inr is ↦ absurd (cc (sym (ap (λ t. if t then first_wrong (suc n) bs else Some n) is) ∙ none))
    ]

-- ---- what stands at the front

by_none : (bytes : List ℕ) → first_wrong 0 bytes ≡ None → standing bytes ≡ by_length bytes
unfolding standing
by_none bytes none = ap (λ o. elim o as (λ _. Standing) [ None ↦ by_length bytes | Some at ↦ Breaking at ]) none

by_some : (bytes : List ℕ) (at : ℕ) → first_wrong 0 bytes ≡ Some at → standing bytes ≡ Breaking at
unfolding standing
by_some bytes at some = ap (λ o. elim o as (λ _. Standing) [ None ↦ by_length bytes | Some at ↦ Breaking at ]) some

short_waits : (bytes : List ℕ) → length bytes < header_length → by_length bytes ≡ Waiting
short_waits bytes lt =
    ap (λ t. if t then (if nat_le (announced bytes) longest_request then by_payload bytes else Breaking 3) else Waiting) (lt-leb header_length (length bytes) lt)

long_goes : (bytes : List ℕ) → header_length ≤ length bytes → by_length bytes ≡ (if nat_le (announced bytes) longest_request then by_payload bytes else Breaking 3)
long_goes bytes le =
    ap (λ t. if t then (if nat_le (announced bytes) longest_request then by_payload bytes else Breaking 3) else Waiting) (le-leb header_length (length bytes) le)

too_long : (bytes : List ℕ) → header_length ≤ length bytes → longest_request < announced bytes → by_length bytes ≡ Breaking 3
too_long bytes le lt = long_goes bytes le ∙ ap (λ t. if t then by_payload bytes else Breaking 3) (lt-leb (announced bytes) longest_request lt)

fits_goes : (bytes : List ℕ) → header_length ≤ length bytes → announced bytes ≤ longest_request → by_length bytes ≡ by_payload bytes
fits_goes bytes le fits = long_goes bytes le ∙ ap (λ t. if t then by_payload bytes else Breaking 3) (le-leb (announced bytes) longest_request fits)

less_waits : (bytes : List ℕ) → header_length ≤ length bytes → announced bytes ≤ longest_request → length bytes < header_length + announced bytes → by_length bytes ≡ Waiting
less_waits bytes le fits lt =
    fits_goes bytes le fits ∙ ap (λ t. if t then Whole (announced bytes) else Waiting) (lt-leb (header_length + announced bytes) (length bytes) lt)

all_whole : (bytes : List ℕ) → header_length ≤ length bytes → announced bytes ≤ longest_request → header_length + announced bytes ≤ length bytes → by_length bytes ≡ Whole (announced bytes)
all_whole bytes le fits long =
    fits_goes bytes le fits ∙ ap (λ t. if t then Whole (announced bytes) else Waiting) (le-leb (header_length + announced bytes) (length bytes) long)

-- a frame at the front
whole_right : (size : ℕ) (more : List ℕ) → first_wrong 0 (header_bytes request_kind size ++ more) ≡ None
unfolding header_bytes
whole_right size more = none_wrong 3 (to_be_bytes w64 size ++ more) (omega arith)

pub stands_whole : (payload more : List ℕ) → IsRequest payload → standing (frame_bytes request_kind payload ++ more) ≡ Whole (length payload)
stands_whole payload more request =
    let bytes = frame_bytes request_kind payload ++ more in
    let size : announced bytes ≡ length payload = announced_of payload more request in
    let long : length bytes ≡ 11 + length payload + length more = length-frame request_kind payload more in
    let right : first_wrong 0 bytes ≡ None =
    ap (first_wrong 0) (append_assoc (header_bytes request_kind (length payload)) payload more) ∙ whole_right (length payload) (payload ++ more) in
    by_none bytes right ∙ all_whole bytes (omega arith) (omega arith) (omega arith) ∙ ap Whole size

pub stands_begun : (bytes : List ℕ) → (w : BeginsWhole bytes) → standing bytes ≡ Whole (length w.payload)
stands_begun bytes w = ap standing w.is ∙ stands_whole w.payload w.more w.request

pub stands_waiting : (bytes : List ℕ) → Waits bytes → standing bytes ≡ Waiting
stands_waiting bytes (inl none) = ap standing none ∙ by_none [] refl ∙ short_waits [] (omega arith)
stands_waiting bytes (inr cut) =
    by_none bytes (none_by_each 0 bytes (λ i lt. ap (λ k. may_stand is_request k (get_or bytes i 0)) (omega arith) ∙ cut.right i lt))
    ∙ elim (cases_lt (length bytes) header_length) [
      | inl less ↦ short_waits bytes less
      | inr there ↦
          elim cut.short [
            | inl less ↦ absurd (omega arith)
            | inr less ↦ less_waits bytes there (cut.fits there) less
          ]
    ]

pub stands_breaking : (bytes : List ℕ) (at : ℕ) → BreaksRequest at bytes → standing bytes ≡ Breaking at
stands_breaking bytes at (inl b) =
    by_some bytes at (some_by_first 0 at bytes b.within (ap (λ k. may_stand is_request k (get_or bytes at 0)) (omega arith) ∙ b.wrong)
    (λ i lt. ap (λ k. may_stand is_request k (get_or bytes i 0)) (omega arith) ∙ b.before i lt) ∙ ap Some (omega arith))
stands_breaking bytes at (inr long) =
    by_none bytes (none_by_each 0 bytes right) ∙ too_long bytes long.there long.longer ∙ ap Breaking (sym long.at)
  where
    right : (i : ℕ) → i < length bytes → may_stand is_request (0 + i) (get_or bytes i 0) ≡ true
    right i lt =
        elim (cases_lt i 3) [
          | inl less ↦ ap (λ k. may_stand is_request k (get_or bytes i 0)) (omega arith) ∙ long.right i less
          | inr le ↦ at_three (0 + i) (get_or bytes i 0) (omega arith)
        ]

-- ---- what a whole frame is, and that it stays one

record IsStanding (bytes : List ℕ) (size : ℕ) : Type 0 where
  pub right : first_wrong 0 bytes ≡ None
  pub header : header_length ≤ length bytes
  pub is : announced bytes ≡ size
  pub fits : announced bytes ≤ longest_request
  pub long : header_length + announced bytes ≤ length bytes

whole≢ : (size : ℕ) → Waiting ≡ Whole size → ⊥
whole≢ size e = cc e

whole_by_payload : (bytes : List ℕ) (size : ℕ) (t : Bool) → nat_le (header_length + announced bytes) (length bytes) ≡ t → by_payload bytes ≡ Whole size
    → (announced bytes ≡ size) × (header_length + announced bytes ≤ length bytes)
whole_by_payload bytes size true e is =
    (size_of (sym (ap (λ t. if t then Whole (announced bytes) else Waiting) e) ∙ is), leb-true (header_length + announced bytes) (length bytes) e)
  where
    size_of : Whole (announced bytes) ≡ Whole size → announced bytes ≡ size
    size_of p = ap (λ s. elim s as (λ _. ℕ) [ Whole n ↦ n | Waiting ↦ 0 | Breaking at ↦ 0 ]) p
whole_by_payload bytes size false e is = absurd (cc (sym (ap (λ t. if t then Whole (announced bytes) else Waiting) e) ∙ is))

whole_by_length : (bytes : List ℕ) (size : ℕ) → first_wrong 0 bytes ≡ None → by_length bytes ≡ Whole size → IsStanding bytes size
whole_by_length bytes size right is =
    elim (cases_lt (length bytes) header_length) [
      | inl less ↦ absurd (cc (sym (short_waits bytes less) ∙ is))
      | inr there ↦
          elim (cases_lt longest_request (announced bytes)) [
            | inl longer ↦ absurd (cc (sym (too_long bytes there longer) ∙ is))
            | inr fits ↦
                let p = whole_by_payload bytes size (nat_le (header_length + announced bytes) (length bytes)) refl (sym (fits_goes bytes there fits) ∙ is) in
                record { right = right; header = there; is = p.0; fits = fits; long = p.1 }
          ]
    ]

is_standing : (bytes : List ℕ) (size : ℕ) (o : Option ℕ) → first_wrong 0 bytes ≡ o → standing bytes ≡ Whole size → IsStanding bytes size
is_standing bytes size None e is = whole_by_length bytes size e (sym (by_none bytes e) ∙ is)
is_standing bytes size (Some at) e is = absurd (cc (sym (by_some bytes at e) ∙ is))

announced_longer : (bytes next : List ℕ) → header_length ≤ length bytes → announced (bytes ++ next) ≡ announced bytes
announced_longer bytes next there =
    ap (from_be_bytes w64) (ap (take 8) (drop-append-le 3 bytes next (omega arith)) ∙ take-append-le 8 (drop 3 bytes) next (omega (arith, length-drop 3 bytes)))

-- the frame at the front of a stream that went on
pub record StaysWhole (bytes more : List ℕ) (size : ℕ) : Type 0 where
  pub is : standing (bytes ++ more) ≡ Whole size
  pub payload : take size (drop header_length (bytes ++ more)) ≡ take size (drop header_length bytes)
  pub rest : drop (header_length + size) (bytes ++ more) ≡ drop (header_length + size) bytes ++ more

stays_standing : (bytes more : List ℕ) (size : ℕ) → IsStanding bytes size → StaysWhole bytes more size
stays_standing bytes more size s =
    let header = s.header in
    let long = s.long in
    let fits = s.fits in
    let size_is = s.is in
    let same = announced_longer bytes more header in
    record {
      is = by_none (bytes ++ more) (none_longer 0 bytes more s.right (omega arith))
          ∙ all_whole (bytes ++ more) (omega (arith, length-append bytes more)) (omega arith) (omega (arith, length-append bytes more))
          ∙ ap Whole (same ∙ size_is);
      payload = ap (take size) (drop-append-le header_length bytes more header)
          ∙ take-append-le size (drop header_length bytes) more (omega (arith, length-drop header_length bytes));
      rest = drop-append-le (header_length + size) bytes more (omega arith);
    }

pub stays_whole : (bytes more : List ℕ) (size : ℕ) → standing bytes ≡ Whole size → StaysWhole bytes more size
stays_whole bytes more size is = stays_standing bytes more size (is_standing bytes size (first_wrong 0 bytes) refl is)

-- ---- whole frames at the front of a stream

abbrev one_by : ℕ → List ℕ → Standing → Division
one_by most bytes (Whole size) = with_first (take size (drop header_length bytes)) (divided most (drop (header_length + size) bytes))
one_by most bytes Waiting = undivided bytes
one_by most bytes (Breaking at) = undivided bytes

divided_by : (most : ℕ) (bytes : List ℕ) (s : Standing) → standing bytes ≡ s → divided (suc most) bytes ≡ one_by most bytes s
unfolding divided
divided_by most bytes (Whole size) e = ap (one_by most bytes) e
divided_by most bytes Waiting e = ap (one_by most bytes) e
divided_by most bytes (Breaking at) e = ap (one_by most bytes) e

divided_none : (bytes : List ℕ) → divided 0 bytes ≡ undivided bytes
unfolding divided
divided_none bytes = refl

-- the three parts of a frame at the front
payload_at : (payload more : List ℕ) → take (length payload) (drop header_length (frame_bytes request_kind payload ++ more)) ≡ payload
payload_at payload more =
    ap (λ x. take (length payload) (drop header_length x)) (append_assoc (header_bytes request_kind (length payload)) payload more)
    ∙ ap (λ n. take (length payload) (drop n (header_bytes request_kind (length payload) ++ (payload ++ more)))) (sym (length-header request_kind (length payload)))
    ∙ ap (take (length payload)) (drop-append_seam (header_bytes request_kind (length payload)) (payload ++ more))
    ∙ take-append_seam payload more

rest_at : (payload more : List ℕ) → drop (header_length + length payload) (frame_bytes request_kind payload ++ more) ≡ more
rest_at payload more =
    ap (λ n. drop n (frame_bytes request_kind payload ++ more))
    (sym (length-append (header_bytes request_kind (length payload)) payload ∙ ap (λ n. n + length payload) (length-header request_kind (length payload))))
    ∙ drop-append_seam (frame_bytes request_kind payload) more

-- a stream: some requests, and what follows them
abbrev pub these : List (List ℕ) → List ℕ → Division
these payloads rest = record { payloads = payloads; rest = rest }

divided_one : (most : ℕ) (payload more : List ℕ) → IsRequest payload
    → divided (suc most) (frame_bytes request_kind payload ++ more) ≡ with_first payload (divided most more)
divided_one most payload more request =
    divided_by most (frame_bytes request_kind payload ++ more) (Whole (length payload)) (stands_whole payload more request)
    ∙ ap (λ x. with_first x (divided most (drop (header_length + length payload) (frame_bytes request_kind payload ++ more)))) (payload_at payload more)
    ∙ ap (λ x. with_first payload (divided most x)) (rest_at payload more)

divided_frames : (most : ℕ) (ps : List (List ℕ)) (rest : List ℕ) → All IsRequest ps → divided most rest ≡ undivided rest
    → divided (length ps + most) (request_frames ps ++ rest) ≡ these ps rest
divided_frames most [] rest all last = ap (λ n. divided n rest) (omega arith) ∙ last
divided_frames most (p ∷ ps) rest all last =
    ap (λ x. divided (length (p ∷ ps) + most) x) (append_assoc (frame_bytes request_kind p) (request_frames ps) rest)
    ∙ ap (λ n. divided n (frame_bytes request_kind p ++ (request_frames ps ++ rest))) (suc_first ps most)
    ∙ divided_one (length ps + most) p (request_frames ps ++ rest) (first p ps all)
    ∙ ap (with_first p) (divided_frames most ps rest (others p ps all) last)
  where
    suc_first : (qs : List (List ℕ)) (n : ℕ) → suc (length qs) + n ≡ suc (length qs + n)
    suc_first qs n = omega arith

-- Nothing more is taken of these bytes, where so many requests more may be.
pub data TakesNoMore (most : ℕ) (rest : List ℕ) : Type 0 where
  full : most ≡ 0 → TakesNoMore most rest
  waiting : standing rest ≡ Waiting → TakesNoMore most rest
  breaking : (at : ℕ) → standing rest ≡ Breaking at → TakesNoMore most rest

last_divided : (most : ℕ) (rest : List ℕ) → TakesNoMore most rest → divided most rest ≡ undivided rest
last_divided zero rest t = divided_none rest
last_divided (suc most) rest (full none) = absurd (omega arith)
last_divided (suc most) rest (waiting is) = divided_by most rest Waiting is
last_divided (suc most) rest (breaking at is) = divided_by most rest (Breaking at) is

-- A stream that is divided so is read so.
pub read_as : (most : ℕ) (stream : List ℕ) (ps : List (List ℕ)) (rest : List ℕ) → All IsRequest ps → stream ≡ request_frames ps ++ rest → length ps ≤ most
    → TakesNoMore (most - length ps) rest → divided most stream ≡ these ps rest
read_as most stream ps rest all is few last =
    ap (λ n. divided n stream) (omega arith) ∙ ap (divided (length ps + (most - length ps))) is
    ∙ divided_frames (most - length ps) ps rest all (last_divided (most - length ps) rest last)

-- ---- a stream that goes on keeps its requests

grown_by : (most : ℕ) (stream more : List ℕ) (s : Standing) → standing stream ≡ s
    → ((t : List ℕ) → (divided most (t ++ more)).payloads ≡ (divided most t).payloads ++ drop (length (divided most t).payloads) (divided most (t ++ more)).payloads)
    → (divided (suc most) (stream ++ more)).payloads
    ≡ (divided (suc most) stream).payloads ++ drop (length (divided (suc most) stream).payloads) (divided (suc most) (stream ++ more)).payloads
grown_by most stream more (Whole size) e ih =
    let stays = stays_whole stream more size e in
    let payload = take size (drop header_length stream) in
    let tail = drop (header_length + size) stream in
    let long : divided (suc most) (stream ++ more) ≡ with_first payload (divided most (tail ++ more)) =
    divided_by most (stream ++ more) (Whole size) stays.is
    ∙ ap (λ x. with_first x (divided most (drop (header_length + size) (stream ++ more)))) stays.payload
    ∙ ap (λ x. with_first payload (divided most x)) stays.rest in
    let short : divided (suc most) stream ≡ with_first payload (divided most tail) = divided_by most stream (Whole size) e in
    ap (λ (d : Division). d.payloads) long
    ∙ ap (λ x. payload ∷ x) (ih tail)
    ∙ ap (λ (d : Division). d.payloads ++ drop (length d.payloads) (payload ∷ (divided most (tail ++ more)).payloads)) (sym short)
    ∙ ap (λ (d : Division). (divided (suc most) stream).payloads ++ drop (length (divided (suc most) stream).payloads) d.payloads) (sym long)
grown_by most stream more Waiting e ih =
    let short : divided (suc most) stream ≡ undivided stream = divided_by most stream Waiting e in
    ap (λ (d : Division). d.payloads ++ drop (length d.payloads) (divided (suc most) (stream ++ more)).payloads) (sym short)
grown_by most stream more (Breaking at) e ih =
    let short : divided (suc most) stream ≡ undivided stream = divided_by most stream (Breaking at) e in
    ap (λ (d : Division). d.payloads ++ drop (length d.payloads) (divided (suc most) (stream ++ more)).payloads) (sym short)

pub divided_grows : (most : ℕ) (stream more : List ℕ)
    → (divided most (stream ++ more)).payloads ≡ (divided most stream).payloads ++ drop (length (divided most stream).payloads) (divided most (stream ++ more)).payloads
divided_grows zero stream more =
    ap (λ (d : Division). d.payloads ++ drop (length d.payloads) (divided 0 (stream ++ more)).payloads) (sym (divided_none stream))
divided_grows (suc most) stream more = grown_by most stream more (standing stream) refl (λ t. divided_grows most t more)

-- ---- the laws

no_more : (count : ℕ) (rest : List ℕ) → IsLast count rest → TakesNoMore (most_requests - count) rest
no_more count rest (inl all) = full (omega arith)
no_more count rest (inr (inl waits)) = waiting (stands_waiting rest waits)
no_more count rest (inr (inr broken)) = breaking broken.0 (stands_breaking rest broken.0 broken.1)

pub streams_are_read : StreamsAreRead
streams_are_read stream payloads rest all is few last = read_as most_requests stream payloads rest all is few (no_more (length payloads) rest last)

pub fronts_are_read : FrontsAreRead
fronts_are_read = record { waits = stands_waiting; breaks = stands_breaking; begins = stands_begun }

pub requests_stay : RequestsStay
requests_stay stream more = divided_grows most_requests stream more
