-- The bytes that a request lacks make no more than one request whole.
use Rattle.std.proofs.Common.{◌≡◌, ℕ, ◌+◌, ◌<◌, ◌≤◌, ◌^◌, List, [], ◌∷◌, ◌++◌, length, Result, Ok, Err, refl, ap, sym, ◌∙◌, arith, inl, inr, append_assoc, length-append}
use Rattle.std.specs.Prelude.{All}
use Rattle.std.proofs.lemmas.Bool.{cases_lt}
use Rattle.std.proofs.lemmas.List.Elements.{All-head}
use Rattle.std.proofs.lemmas.Nat.{from_be_bytes-to_be_bytes_8}
use Rattle.rb_meaning.specs.Replies.{header_length, announced}
use Rattle.rb_meaning_frames.specs.Frames.{header_bytes, frame_bytes, request_kind}
use Rattle.rb_meaning_frames.specs.Streams.{IsRequest, request_frames, Waits}
use Rattle.rb_exec.specs.Hosted.{Hosted}
use Rattle.rb_session.specs.declared.serving.ServeCause.{ServeCause}
use Rattle.rb_session.specs.declared.serving.ServeCause.TheVariants.{ReadFault, WriteFault, Cut, BadFrame, SessionSpent, Memory}
use Rattle.rb_session.specs.Receiving.{lacking}
use Rattle.rb_session.specs.Sessions.{SessionSeen, Goes}
use Rattle.rb_session.specs.Pieces.{Serving, ServesPiece, UnlessErrMemory}
use Rattle.rb_session.proofs.Steps.{announced_on, lacking_short, lacking_long}

-- behind a header, what waits is less than its frame
below : (rest : List ℕ) → Waits rest → header_length ≤ length rest → length rest < header_length + announced rest
below rest (inl none) long = let n = ap length none in absurd (omega arith)
below rest (inr cut) long = elim cut.short [ inl less ↦ absurd (omega arith) | inr less ↦ less ]

-- what waits lacks bytes
pub lacks_some : (rest : List ℕ) → Waits rest → 0 < lacking rest
lacks_some rest waits =
    elim (cases_lt (length rest) header_length) [
      | inl short ↦ let e = lacking_short rest short in omega arith
      | inr long ↦ let e = lacking_long rest long in let less = below rest waits long in omega arith
    ]

-- ---- two frames are more than that

length-header : (kind size : ℕ) → length (header_bytes kind size) ≡ header_length
unfolding header_bytes
length-header kind size = refl

announced-header : (kind size : ℕ) (bytes : List ℕ) → size < 2 ^ 64 → announced (header_bytes kind size ++ bytes) ≡ size
unfolding header_bytes
announced-header kind size bytes small = from_be_bytes-to_be_bytes_8 size small

length-frame : (payload : List ℕ) → length (frame_bytes request_kind payload) ≡ header_length + length payload
length-frame payload =
    length-append (header_bytes request_kind (length payload)) payload ∙ ap (λ n. n + length payload) (length-header request_kind (length payload))

-- the first frame announces its payload
first_announced : (payload frames last : List ℕ) → IsRequest payload → announced ((frame_bytes request_kind payload ++ frames) ++ last) ≡ length payload
first_announced payload frames last request =
    ap announced (append_assoc (frame_bytes request_kind payload) frames last ∙ append_assoc (header_bytes request_kind (length payload)) payload (frames ++ last))
    ∙ announced-header request_kind (length payload) (payload ++ (frames ++ last)) (omega arith)

-- two frames and more have so many bytes
two_frames : (p q : List ℕ) (frames last : List ℕ)
    → (header_length + length p) + header_length ≤ length ((frame_bytes request_kind p ++ (frame_bytes request_kind q ++ frames)) ++ last)
two_frames p q frames last =
    let first = length-frame p in
    let second = length-frame q in
    omega (
      arith,
      length-append (frame_bytes request_kind p ++ (frame_bytes request_kind q ++ frames)) last,
      length-append (frame_bytes request_kind p) (frame_bytes request_kind q ++ frames),
      length-append (frame_bytes request_kind q) frames,
    )

one_at_most : (rest piece last : List ℕ) (payloads : List (List ℕ)) → Waits rest → length piece ≤ lacking rest → All IsRequest payloads
    → rest ++ piece ≡ request_frames payloads ++ last → length payloads ≤ 1
one_at_most rest piece last [] waits few requests is = omega arith
one_at_most rest piece last (p ∷ []) waits few requests is = omega arith
one_at_most rest piece last (p ∷ (q ∷ ps)) waits few requests is =
    let more = two_frames p q (request_frames ps) last in
    let same : length (rest ++ piece) ≡ length ((frame_bytes request_kind p ++ (frame_bytes request_kind q ++ request_frames ps)) ++ last) = ap length is in
    let size = length-append rest piece in
    elim (cases_lt (length rest) header_length) [
      | inl short ↦ let e = lacking_short rest short in absurd (omega arith)
      | inr long ↦
          let e = lacking_long rest long in
          let less = below rest waits long in
          let said : announced rest ≡ length p =
          sym (announced_on rest piece long) ∙ ap announced is
          ∙ first_announced p (frame_bytes request_kind q ++ request_frames ps) last (All-head IsRequest p (q ∷ ps) requests) in
          absurd (omega arith)
    ]

few_requests : (host after : Hosted) (before now : SessionSeen) (piece replies : List ℕ) → Waits before.rest → length piece ≤ lacking before.rest
    → Goes host after before now piece replies → now.requests ≤ before.requests + 1
few_requests host after before now piece replies waits few g =
    let x = g.cuts.cuts in
    let one = one_at_most before.rest piece now.rest g.payloads waits few x.requests x.is in
    let sum = g.cuts.requests in
    omega arith

-- so no more than one request is answered by such a piece
pub one_request : (before after : Serving) (piece : List ℕ) (result : Result Unit ServeCause) → Waits before.session.rest → length piece ≤ lacking before.session.rest
    → ServesPiece before after piece result → UnlessErrMemory result (after.session.requests ≤ before.session.requests + 1)
one_request before after piece (Ok u) waits few w = few_requests before.host after.host before.session after.session piece w.replies waits few w.goes
one_request before after piece (Err WriteFault) waits few w = few_requests before.host after.host before.session after.session piece w.replies waits few w.goes
one_request before after piece (Err (BadFrame at)) waits few w = few_requests before.host after.host before.session after.session piece w.replies waits few w.goes
one_request before after piece (Err SessionSpent) waits few w = few_requests before.host after.host before.session after.session piece w.replies waits few w.goes
one_request before after piece (Err Memory) waits few w = tt
one_request before after piece (Err ReadFault) waits few w = absurd w
one_request before after piece (Err (Cut at)) waits few w = absurd w
