-- Each stream of bytes is the frames of its requests, and what follows them.
use Rattle.std.proofs.Common.{◌≡◌, zero, suc, ◌<◌, ◌≤◌, arith, refl, ap, sym, ◌∙◌, subst, ℕ, All, List, [], ◌∷◌, ◌++◌, length, take, drop, append_assoc, inl, inr}
use Rattle.std.proofs.lemmas.Bool.{cases_lt}
use Rattle.std.proofs.lemmas.List.Elements.{All-take, All-drop}
use Rattle.std.proofs.lemmas.List.{length-take-le, length-drop}
use Rattle.rb_meaning_bytes.specs.formats.Fields.{IsBytes}
use Rattle.rb_meaning_frames.specs.Frames.{frame_bytes, request_kind}
use Rattle.rb_meaning_frames.specs.Laws.{EachIsDividedOnce}
use Rattle.rb_meaning_frames.specs.Streams.{IsRequest, request_frames, BreaksRequest, most_requests, Rest, Empty, Cut, Broken, IsRest, Waits, BeginsWhole}
use Rattle.rb_meaning_frames.specs.Reading.{Standing, Whole, Waiting, Breaking, standing, Division, divided, IsLast, StreamsAreRead, FrontsAreRead}

-- What follows so many requests is such as it stands.
abbrev pub RestBy : Standing → ℕ → List ℕ → Type 0
RestBy Waiting count rest = Waits rest
RestBy (Breaking at) count rest = BreaksRequest at rest
RestBy (Whole size) count rest = (count ≡ most_requests) × BeginsWhole rest

-- A stream is so divided.
pub record IsReadAs (stream : List ℕ) (d : Division) : Type 0 where
  pub requests : All IsRequest d.payloads
  pub is : stream ≡ request_frames d.payloads ++ d.rest
  pub few : length d.payloads ≤ most_requests
  pub rest : RestBy (standing d.rest) (length d.payloads) d.rest

abbrev pub IsRead : List ℕ → Type 0
IsRead stream = IsReadAs stream (divided most_requests stream)

read_as : (stream : List ℕ) (ps : List (List ℕ)) (rest : List ℕ) → StreamsAreRead → All IsRequest ps → stream ≡ request_frames ps ++ rest → length ps ≤ most_requests → IsLast (length ps) rest
    → RestBy (standing rest) (length ps) rest → IsRead stream
read_as stream ps rest law requests is few last how =
    subst (IsReadAs stream) (sym (law stream ps rest requests is few last)) (record { requests = requests; is = is; few = few; rest = how })

-- ---- all frames are among the requests

record Lasts (count : ℕ) (rest : List ℕ) : Type 0 where
  pub last : IsLast count rest
  pub how : RestBy (standing rest) count rest

lasts : FrontsAreRead → (count : ℕ) (rest : List ℕ) (kind : Rest) → IsRest rest kind → Lasts count rest
lasts fronts count rest Empty is = record { last = inr (inl (inl is)); how = subst (λ s. RestBy s count rest) (sym (fronts.waits rest (inl is))) (inl is) }
lasts fronts count rest Cut is = record { last = inr (inl (inr is)); how = subst (λ s. RestBy s count rest) (sym (fronts.waits rest (inr is))) (inr is) }
lasts fronts count rest (Broken at) is = record { last = inr (inr (at, is)); how = subst (λ s. RestBy s count rest) (sym (fronts.breaks rest at is)) is }

-- ---- there are more

parts : {A : Type 0} (n : ℕ) (xs : List A) → xs ≡ take n xs ++ drop n xs
parts zero xs = refl
parts (suc n) [] = refl
parts (suc n) (x ∷ xs) = ap (λ ys. x ∷ ys) (parts n xs)

frames-append : (ps qs : List (List ℕ)) → request_frames (ps ++ qs) ≡ request_frames ps ++ request_frames qs
frames-append [] qs = refl
frames-append (p ∷ ps) qs =
    ap (λ x. frame_bytes request_kind p ++ x) (frames-append ps qs) ∙ sym (append_assoc (frame_bytes request_kind p) (request_frames ps) (request_frames qs))

begins : (qs : List (List ℕ)) (rest : List ℕ) → All IsRequest qs → 0 < length qs → BeginsWhole (request_frames qs ++ rest)
begins [] rest all some = absurd (omega arith)
begins (q ∷ qs) rest all some = record {
  payload = q;
  more = request_frames qs ++ rest;
  request = all 0 q (omega arith);
  is = append_assoc (frame_bytes request_kind q) (request_frames qs) rest;
}

more_than : (stream : List ℕ) (ps : List (List ℕ)) (rest : List ℕ) → StreamsAreRead → FrontsAreRead → All IsRequest ps → stream ≡ request_frames ps ++ rest → most_requests < length ps → IsRead stream
more_than stream ps rest law fronts requests is many =
    let front = take most_requests ps in
    let back = drop most_requests ps in
    let count : length front ≡ most_requests = length-take-le most_requests ps (omega arith) in
    let whole = begins back rest (All-drop IsRequest most_requests ps requests) (omega (arith, length-drop most_requests ps)) in
    read_as stream front (request_frames back ++ rest) law (All-take IsRequest most_requests ps requests)
    (is ∙ ap (λ xs. request_frames xs ++ rest) (parts most_requests ps) ∙ ap (λ x. x ++ rest) (frames-append front back)
    ∙ append_assoc (request_frames front) (request_frames back) rest)
    (omega arith) (inl count)
    (subst (λ s. RestBy s (length front) (request_frames back ++ rest)) (sym (fronts.begins (request_frames back ++ rest) whole)) (count, whole))

pub is_read : EachIsDividedOnce → StreamsAreRead → FrontsAreRead → (stream : List ℕ) → IsBytes stream → IsRead stream
is_read once law fronts stream bytes =
    let o = once stream bytes in
    let d = o.divides in
    elim (cases_lt most_requests (length o.payloads)) [
      | inl many ↦ more_than stream o.payloads o.rest law fronts d.requests d.is many
      | inr few ↦ let l = lasts fronts (length o.payloads) o.rest o.kind d.rest_is in read_as stream o.payloads o.rest law d.requests d.is few l.last l.how
    ]
