-- What a session keeps, and its whole stream.
use Rattle.std.proofs.Common.{◌≡◌, ◌≤◌, ◌+◌, ◌-◌, refl, ap, sym, ◌∙◌, arith, ℕ, true, false, All, List, [], ◌∷◌, ◌++◌, length, drop, append_assoc, length-append, inl, inr, Some, None, Result, Ok, Err}
use Rattle.std.proofs.lemmas.List.Elements.{All-nil, All-append}
use Rattle.std.proofs.Math.Seq.{drop-append_seam}
use Rattle.rb_meaning_frames.specs.Frames.{frame_bytes, request_kind}
use Rattle.rb_meaning_frames.specs.Streams.{IsRequest, request_frames, most_requests}
use Rattle.rb_meaning_frames.specs.Reading.{Standing, Whole, Waiting, Breaking, standing, Division, divided, requests_of, rest_of, IsLast, StreamsAreRead, FrontsAreRead}
use Rattle.rb_session.specs.declared.sessions.SessionStop.{SessionStop}
use Rattle.rb_session.specs.declared.sessions.SessionStop.TheVariants as stops
use Rattle.rb_session.specs.Sessions.{SessionSeen, came, CutsPiece, Leaves, stop_of}
use Rattle.rb_meaning_frames.specs.Histories.{goes_on, is_waiting, new_requests}
use Rattle.rb_hub.specs.Serial.{end_by, end_at, ended}
use Rattle.rb_hub.specs.Hubs.{IsNoWant, end_of, close_of, said}
use Rattle.rb_hub.specs.Standing.{Follows}
use Rattle.rb_hub.specs.declared.events.Out.TheVariants.{Ended}
use Rattle.rb_hub.specs.declared.events.End.{End}
use Rattle.rb_hub.specs.declared.events.End.TheVariants as ends

frames-append : (ps qs : List (List ℕ)) → request_frames (ps ++ qs) ≡ request_frames ps ++ request_frames qs
frames-append [] qs = refl
frames-append (p ∷ ps) qs =
    ap (λ x. frame_bytes request_kind p ++ x) (frames-append ps qs) ∙ sym (append_assoc (frame_bytes request_kind p) (request_frames ps) (request_frames qs))

-- the stream is the frames of these requests, and what the session keeps
record Keeps (stream : List ℕ) (payloads : List (List ℕ)) (session : SessionSeen) : Type 0 where
  pub requests : All IsRequest payloads
  pub is : stream ≡ request_frames payloads ++ session.rest
  pub count : session.requests ≡ length payloads
  pub few : length payloads ≤ most_requests
  pub came_is : came session ≡ length stream

keeps : (stream : List ℕ) (session : SessionSeen) → (f : Follows stream session) → Keeps stream f.payloads session
keeps stream session f = record { requests = f.requests; is = f.is; count = f.count; few = f.few; came_is = f.came_is }

-- a piece more
keeps_more : (stream piece : List ℕ) (ps qs : List (List ℕ)) (session now : SessionSeen) → Keeps stream ps session → CutsPiece session now piece qs → Keeps (stream ++ piece) (ps ++ qs) now
keeps_more stream piece ps qs session now k g =
    let count = k.count in
    let counted = g.requests in
    let few = g.few in
    let came_k = k.came_is in
    let came_g = g.came_is in
    record {
      requests = All-append IsRequest ps qs k.requests g.cuts.requests;
      is = ap (λ x. x ++ piece) k.is ∙ append_assoc (request_frames ps) session.rest piece ∙ ap (λ x. request_frames ps ++ x) g.cuts.is
          ∙ sym (append_assoc (request_frames ps) (request_frames qs) now.rest) ∙ ap (λ x. x ++ now.rest) (sym (frames-append ps qs));
      count = omega (arith, length-append ps qs);
      few = omega (arith, length-append ps qs);
      came_is = omega (arith, length-append stream piece);
    }

read : StreamsAreRead → (stream : List ℕ) (ps : List (List ℕ)) (session : SessionSeen) → Keeps stream ps session → IsLast (length ps) session.rest
    → divided most_requests stream ≡ record { payloads = ps; rest = session.rest }
read law stream ps session k last = law stream ps session.rest k.requests k.is k.few last

-- ---- a session that waits

pub follows_read : StreamsAreRead → (stream : List ℕ) (session : SessionSeen) → (f : Follows stream session)
    → divided most_requests stream ≡ record { payloads = f.payloads; rest = session.rest }
follows_read law stream session f = read law stream f.payloads session (keeps stream session f) (inr (inl f.waits))

-- nothing came yet
pub follows_none : Follows [] record { rest = []; offset = 0; requests = 0; stop = None }
follows_none = record {
  payloads = [];
  requests = All-nil IsRequest;
  is = refl;
  count = refl;
  few = omega arith;
  came_is = refl;
  waits = inl refl;
  fresh = refl;
}

-- it is closed
pub close_is : StreamsAreRead → (number : ℕ) (stream : List ℕ) (session : SessionSeen) → Follows stream session
    → ended number stream (Some (end_at (rest_of stream) stream)) ≡ said number session (Some (close_of session session.rest))
close_is law number stream session f =
    let division = follows_read law stream session f in
    ap (λ (d : Division). Ended number (length d.payloads) (end_at d.rest stream) ∷ []) division
    ∙ ap (λ n. Ended number n (end_at session.rest stream) ∷ []) (sym f.count)
    ∙ ap (λ e. Ended number session.requests e ∷ []) (same_end session.rest)
  where
    same_end : (rest : List ℕ) → end_at rest stream ≡ close_of session rest
    same_end [] = refl
    same_end (b ∷ bs) = ap ends.Cut (sym f.came_is)

-- ---- a session that takes a piece

-- what a piece is of the whole stream
pub record IsPiece (number : ℕ) (stream piece : List ℕ) (payloads : List (List ℕ)) (answer : Result Unit SessionStop) (now : SessionSeen) : Type 0 where
  pub brings : new_requests stream piece ≡ payloads
  pub ends : ended number (stream ++ piece) (end_by (standing (rest_of (stream ++ piece))) (stream ++ piece)) ≡ said number now (end_of answer)
  pub over : (end : End) → end_of answer ≡ Some end → goes_on (stream ++ piece) ≡ false
  pub goes : end_of answer ≡ None → goes_on (stream ++ piece) ≡ true
  pub follows : end_of answer ≡ None → Follows (stream ++ piece) now

brings_by : (stream piece : List ℕ) (ps qs : List (List ℕ)) (r r' : List ℕ) → divided most_requests stream ≡ record { payloads = ps; rest = r }
    → divided most_requests (stream ++ piece) ≡ record { payloads = ps ++ qs; rest = r' } → new_requests stream piece ≡ qs
brings_by stream piece ps qs r r' old new =
    ap (λ (d : Division). drop (length d.payloads) (requests_of (stream ++ piece))) old
    ∙ ap (λ (d : Division). drop (length ps) d.payloads) new ∙ drop-append_seam ps qs

stands_by : (stream : List ℕ) (ps : List (List ℕ)) (rest : List ℕ) (s : Standing) → divided most_requests stream ≡ record { payloads = ps; rest = rest } → standing rest ≡ s
    → standing (rest_of stream) ≡ s
stands_by stream ps rest s d is = ap (λ (x : Division). standing x.rest) d ∙ is

waits_piece : (number : ℕ) (stream piece : List ℕ) (ps qs : List (List ℕ)) (r : List ℕ) (now : SessionSeen) → divided most_requests stream ≡ record { payloads = ps; rest = r }
    → divided most_requests (stream ++ piece) ≡ record { payloads = ps ++ qs; rest = now.rest } → standing now.rest ≡ Waiting → Follows (stream ++ piece) now
    → IsPiece number stream piece qs (Ok tt) now
waits_piece number stream piece ps qs r now old new is follows =
    let stands = stands_by (stream ++ piece) (ps ++ qs) now.rest Waiting new is in
    record {
      brings = brings_by stream piece ps qs r now.rest old new;
      ends = ap (λ s. ended number (stream ++ piece) (end_by s (stream ++ piece))) stands;
      over = λ end e. absurd (cc e);
      goes = λ e. ap is_waiting stands;
      follows = λ e. follows;
    }

breaks_piece : (number at offset : ℕ) (stream piece : List ℕ) (ps qs : List (List ℕ)) (r : List ℕ) (now : SessionSeen) → divided most_requests stream ≡ record { payloads = ps; rest = r }
    → divided most_requests (stream ++ piece) ≡ record { payloads = ps ++ qs; rest = now.rest } → standing now.rest ≡ Breaking offset
    → at ≡ now.offset + offset → now.requests ≡ length (ps ++ qs) → came now ≡ length (stream ++ piece)
    → IsPiece number stream piece qs (Err (stops.BadFrame at)) now
breaks_piece number at offset stream piece ps qs r now old new is at_is count came_is =
    let stands = stands_by (stream ++ piece) (ps ++ qs) now.rest (Breaking offset) new is in
    let place : length (stream ++ piece) - length now.rest + offset ≡ at = omega arith in
    record {
      brings = brings_by stream piece ps qs r now.rest old new;
      ends = ap (λ s. ended number (stream ++ piece) (end_by s (stream ++ piece))) stands
          ∙ ap (λ (d : Division). Ended number (length d.payloads) (ends.BadFrame (length (stream ++ piece) - length d.rest + offset)) ∷ []) new
          ∙ ap (λ n. Ended number n (ends.BadFrame (length (stream ++ piece) - length now.rest + offset)) ∷ []) (sym count)
          ∙ ap (λ n. Ended number now.requests (ends.BadFrame n) ∷ []) place;
      over = λ end e. ap is_waiting stands;
      goes = λ e. absurd (cc e);
      follows = λ e. absurd (cc e);
    }

spent_piece : (number size : ℕ) (stream piece : List ℕ) (ps qs : List (List ℕ)) (r : List ℕ) (now : SessionSeen) → divided most_requests stream ≡ record { payloads = ps; rest = r }
    → divided most_requests (stream ++ piece) ≡ record { payloads = ps ++ qs; rest = now.rest } → standing now.rest ≡ Whole size → now.requests ≡ length (ps ++ qs)
    → IsPiece number stream piece qs (Err stops.SessionSpent) now
spent_piece number size stream piece ps qs r now old new is count =
    let stands = stands_by (stream ++ piece) (ps ++ qs) now.rest (Whole size) new is in
    record {
      brings = brings_by stream piece ps qs r now.rest old new;
      ends = ap (λ s. ended number (stream ++ piece) (end_by s (stream ++ piece))) stands
          ∙ ap (λ (d : Division). Ended number (length d.payloads) ends.Spent ∷ []) new
          ∙ ap (λ n. Ended number n ends.Spent ∷ []) (sym count);
      over = λ end e. ap is_waiting stands;
      goes = λ e. absurd (cc e);
      follows = λ e. absurd (cc e);
    }

pub is_piece : StreamsAreRead → FrontsAreRead → (number : ℕ) (stream piece : List ℕ) (payloads : List (List ℕ)) (session now : SessionSeen) (answer : Result Unit SessionStop)
    → Follows stream session → CutsPiece session now piece payloads → now.stop ≡ stop_of answer → Leaves answer now → IsNoWant answer → IsPiece number stream piece payloads answer now
is_piece law fronts number stream piece qs session now (Ok u) f g stop leaves sure =
    let k = keeps_more stream piece f.payloads qs session now (keeps stream session f) g in
    waits_piece number stream piece f.payloads qs session.rest now (follows_read law stream session f) (read law (stream ++ piece) (f.payloads ++ qs) now k (inr (inl leaves)))
    (fronts.waits now.rest leaves)
    (record { payloads = f.payloads ++ qs; requests = k.requests; is = k.is; count = k.count; few = k.few; came_is = k.came_is; waits = leaves; fresh = stop })
is_piece law fronts number stream piece qs session now (Err (stops.BadFrame at)) f g stop leaves sure =
    let k = keeps_more stream piece f.payloads qs session now (keeps stream session f) g in
    breaks_piece number at leaves.0 stream piece f.payloads qs session.rest now (follows_read law stream session f) (read law (stream ++ piece) (f.payloads ++ qs) now k (inr (inr (leaves.0, leaves.2))))
    (fronts.breaks now.rest leaves.0 leaves.2) leaves.1 k.count k.came_is
is_piece law fronts number stream piece qs session now (Err stops.SessionSpent) f g stop leaves sure =
    let k = keeps_more stream piece f.payloads qs session now (keeps stream session f) g in
    spent_piece number (length leaves.1.payload) stream piece f.payloads qs session.rest now (follows_read law stream session f) (read law (stream ++ piece) (f.payloads ++ qs) now k (inl (sym k.count ∙ leaves.0)))
    (fronts.begins now.rest leaves.1) k.count
is_piece law fronts number stream piece qs session now (Err stops.Memory) f g stop leaves sure = absurd sure
