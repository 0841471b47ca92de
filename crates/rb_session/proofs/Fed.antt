-- What a session does with a piece.
use Rattle.std.proofs.Common.{◌≡◌, ℕ, ◌+◌, ◌-◌, ◌≤◌, List, ◌++◌, length, take, drop, Option, None, Some, Result, Ok, Err, refl, ap, sym, ◌∙◌, subst, arith, append_assoc, length-append}
use Rattle.std.specs.Prelude.{IfOk}
use Rattle.std.proofs.lemmas.List.{length-take, length-drop}
use Rattle.rb_trees.specs.mirror.Services.{mirror_service}
use Rattle.rb_trees.specs.declared.want.Memory as wants
use Rattle.rb_meaning.specs.Replies.{header_length}
use Rattle.rb_meaning_frames.specs.Streams.{most_requests, BeginsWhole}
use Rattle.rb_exec.specs.Hosted.{Hosted}
use Rattle.rb_session.specs.declared.frames.Front.{Front}
use Rattle.rb_session.specs.declared.frames.Front.TheVariants.{Whole, Partial, Broken}
use Rattle.rb_session.specs.declared.requests.Taken.{Taken}
use Rattle.rb_session.specs.declared.sessions.SessionStop.{SessionStop}
use Rattle.rb_session.specs.declared.sessions.SessionStop.TheVariants.{BadFrame, SessionSpent, Memory}
use Rattle.rb_session.specs.Fronts.{IsWhole, IsFront}
use Rattle.rb_session.specs.Taking.{Cuts, Takes, CutsAll, TakesAll, GathersAll}
use Rattle.rb_session.specs.Sessions.{SessionSeen, IsBounded, IsNear, stop_of, answer_by, behind, MayMoveOn, MovesOn, Leaves, CutsPiece, Goes, Answered, AnsweredUnlessMemory, Feeds, Gathered, GatheredUnlessMemory, Gathers}
use Rattle.rb_session.proofs.Streamed.{cuts_more, cuts_longer, replies_more}

-- ---- what was taken

-- a whole frame at the front
begins : (bytes : List ℕ) (size : ℕ) → IsWhole bytes size → BeginsWhole bytes
begins bytes size w = record {
  payload = take size (drop header_length bytes);
  more = drop (header_length + size) bytes;
  request = let fits = w.request in omega (arith, length-take size (drop header_length bytes));
  is = w.is;
}

-- the session with another rest
abbrev pub resting : SessionSeen → List ℕ → SessionSeen
resting s rest = record s { rest = rest }

-- what stands behind the requests that were taken says what is left
leaves : (s : SessionSeen) (rest : List ℕ) (taken : Taken) (front : Front) → IsBounded s.offset s.requests
    → taken.requests ≤ most_requests - s.requests → ((size : ℕ) → front ≡ Whole size → taken.requests ≡ most_requests - s.requests) → IsFront rest front
    → let answer = answer_by front (s.offset + taken.bytes) in
    Leaves answer record { rest = rest; offset = s.offset + taken.bytes; requests = s.requests + taken.requests; stop = stop_of answer }
leaves s rest taken (Whole size) bounded few spent is =
    let all = spent size refl in
    let within = bounded.requests_are in
    (omega arith, begins rest size is)
leaves s rest taken Partial bounded few spent is = is
leaves s rest taken (Broken at) bounded few spent is = (at, refl, is.1)

near : (bytes : List ℕ) (front : Front) → IsFront bytes front → IsNear front
near bytes (Whole size) is = tt
near bytes Partial is = tt
near bytes (Broken at) is = is.0

-- so the session may move on
pub may_move_on : (s : SessionSeen) (rest bytes : List ℕ) (payloads : List (List ℕ)) (taken : Taken) → IsBounded s.offset s.requests → CutsAll bytes (most_requests - s.requests) payloads taken
    → MayMoveOn (resting s rest) taken
may_move_on s rest bytes payloads taken bounded t =
    let offset = bounded.offset_is in
    let requests = bounded.requests_are in
    let few = t.few in
    let more = t.bounded in
    record {
      bounded = record { offset_is = omega arith; requests_are = omega arith };
      near = near (drop taken.bytes bytes) taken.front t.front;
    }

-- the session behind what was taken of its rest and a piece
abbrev pub after_taking : SessionSeen → List ℕ → Taken → SessionSeen
after_taking s piece taken = behind (resting s (drop taken.bytes (s.rest ++ piece))) taken

-- What a piece does to a session, and what it leaves.
pub record MovesBy (before now : SessionSeen) (piece : List ℕ) (payloads : List (List ℕ)) (answer : Result Unit SessionStop) : Type 0 where
  pub stop : now.stop ≡ stop_of answer
  pub cuts : CutsPiece before now piece payloads
  pub leaves : Leaves answer now

moved : (s : SessionSeen) (piece : List ℕ) (payloads : List (List ℕ)) (taken : Taken) → IsBounded s.offset s.requests → CutsAll (s.rest ++ piece) (most_requests - s.requests) payloads taken
    → MovesBy s (after_taking s piece taken) piece payloads (answer_by taken.front (s.offset + taken.bytes))
moved s piece payloads taken bounded t = record {
  stop = refl;
  cuts = record {
    cuts = t.cuts;
    requests = ap (λ n. s.requests + n) t.count;
    few = let few = t.few in let within = bounded.requests_are in omega arith;
    came_is = let within = t.within in omega (arith, length-drop taken.bytes (s.rest ++ piece), length-append s.rest piece);
  };
  leaves = leaves s (drop taken.bytes (s.rest ++ piece)) taken taken.front bounded t.few t.spent t.front;
}

pub moved_by : (before now : SessionSeen) (piece rest : List ℕ) (payloads : List (List ℕ)) (taken : Taken) (answer : Result Unit SessionStop) → IsBounded before.offset before.requests
    → CutsAll (before.rest ++ piece) (most_requests - before.requests) payloads taken → rest ≡ drop taken.bytes (before.rest ++ piece)
    → MovesOn (resting before rest) now (Ok taken) answer → MovesBy before now piece payloads answer
moved_by before now piece rest payloads taken answer bounded t is m =
    subst (λ a. MovesBy before now piece payloads a) (sym m.0)
    (subst (λ n. MovesBy before n piece payloads (answer_by taken.front (before.offset + taken.bytes))) (sym (m.1 ∙ ap (λ r. behind (resting before r) taken) is))
    (moved before piece payloads taken bounded t))

pub no_stop : (o : Option SessionStop) → ((stop : SessionStop) → o ≡ Some stop → ⊥) → o ≡ None
no_stop None h = refl
no_stop (Some stop) h = absurd (h stop refl)

-- ---- a session that answers

answered_unless : (host after : Hosted) (before now : SessionSeen) (piece old new : List ℕ) (answer : Result Unit SessionStop)
    → Answered host after before now piece old new answer → AnsweredUnlessMemory host after before now piece old new answer
answered_unless host after before now piece old new (Ok u) h = h
answered_unless host after before now piece old new (Err (BadFrame at)) h = h
answered_unless host after before now piece old new (Err SessionSpent) h = h
answered_unless host after before now piece old new (Err Memory) h = tt

-- what a session that hasn't stopped does
feeds : (host after : Hosted) (before now : SessionSeen) (piece rest old new : List ℕ) (taken : Taken) (answer : Result Unit SessionStop) → before.stop ≡ None
    → IsBounded before.offset before.requests → TakesAll host after (before.rest ++ piece) (most_requests - before.requests) old new taken
    → rest ≡ drop taken.bytes (before.rest ++ piece) → MovesOn (resting before rest) now (Ok taken) answer → Feeds host after before now piece old new answer before.stop
feeds host after before now piece rest old new taken answer fresh bounded t is m =
    let by = moved_by before now piece rest t.payloads taken answer bounded t.cuts is m in
    subst (λ o. Feeds host after before now piece old new answer o) (sym fresh) (
      by.stop,
      answered_unless host after before now piece old new answer (record {
        replies = t.replies;
        goes = record { payloads = t.payloads; cuts = by.cuts; answers = t.answers };
        gains = t.gains;
        leaves = by.leaves;
      }),
    )

wants_memory : (host after : Hosted) (before mid now : SessionSeen) (piece old new : List ℕ) (want : wants.Memory) (answer : Result Unit SessionStop) → before.stop ≡ None
    → MovesOn mid now (Err want) answer → Feeds host after before now piece old new answer before.stop
wants_memory host after before mid now piece old new want answer fresh m =
    subst (λ o. Feeds host after before now piece old new answer o) (sym fresh) (
      ap (λ (s : SessionSeen). s.stop) m.1 ∙ ap stop_of (sym m.0),
      subst (λ a. AnsweredUnlessMemory host after before now piece old new a) (sym m.0) tt,
    )

-- the same by what came of the taking
pub feeds_by : (host after : Hosted) (before now : SessionSeen) (piece rest old new : List ℕ) (taken : Result Taken wants.Memory) (answer : Result Unit SessionStop) → before.stop ≡ None
    → IsBounded before.offset before.requests → IfOk taken (TakesAll host after (before.rest ++ piece) (most_requests - before.requests) old new)
    → IfOk taken (λ t. rest ≡ drop t.bytes (before.rest ++ piece)) → MovesOn (resting before rest) now taken answer → Feeds host after before now piece old new answer before.stop
feeds_by host after before now piece rest old new (Ok taken) answer fresh bounded t is m = feeds host after before now piece rest old new taken answer fresh bounded t is m
feeds_by host after before now piece rest old new (Err want) answer fresh bounded t is m = wants_memory host after before (resting before rest) now piece old new want answer fresh m

-- the session as it is seen
pub as_seen : (host after : Hosted) (before self now : SessionSeen) (piece old new : List ℕ) (answer : Result Unit SessionStop) → before ≡ self
    → Feeds host after before now piece old new answer before.stop → Feeds host after self now piece old new answer self.stop
as_seen host after before self now piece old new answer is h = subst (λ s. Feeds host after s now piece old new answer s.stop) is h

-- ---- a session that gathers

gathered_unless : (before now : SessionSeen) (piece : List ℕ) (old new : List (List ℕ)) (answer : Result Unit SessionStop)
    → Gathered before now piece old new answer → GatheredUnlessMemory before now piece old new answer
gathered_unless before now piece old new (Ok u) h = h
gathered_unless before now piece old new (Err (BadFrame at)) h = h
gathered_unless before now piece old new (Err SessionSpent) h = h
gathered_unless before now piece old new (Err Memory) h = tt

gathers : (before now : SessionSeen) (piece rest : List ℕ) (old new : List (List ℕ)) (taken : Taken) (answer : Result Unit SessionStop) → before.stop ≡ None
    → IsBounded before.offset before.requests → GathersAll (before.rest ++ piece) (most_requests - before.requests) old new taken
    → rest ≡ drop taken.bytes (before.rest ++ piece) → MovesOn (resting before rest) now (Ok taken) answer → Gathers before now piece old new answer before.stop
gathers before now piece rest old new taken answer fresh bounded t is m =
    let by = moved_by before now piece rest t.payloads taken answer bounded t.cuts is m in
    subst (λ o. Gathers before now piece old new answer o) (sym fresh) (
      by.stop,
      gathered_unless before now piece old new answer (record { payloads = t.payloads; cuts = by.cuts; gains = t.gains; leaves = by.leaves }),
    )

gathers_no_more : (before mid now : SessionSeen) (piece : List ℕ) (old new : List (List ℕ)) (want : wants.Memory) (answer : Result Unit SessionStop) → before.stop ≡ None
    → MovesOn mid now (Err want) answer → Gathers before now piece old new answer before.stop
gathers_no_more before mid now piece old new want answer fresh m =
    subst (λ o. Gathers before now piece old new answer o) (sym fresh) (
      ap (λ (s : SessionSeen). s.stop) m.1 ∙ ap stop_of (sym m.0),
      subst (λ a. GatheredUnlessMemory before now piece old new a) (sym m.0) tt,
    )

pub gathers_by : (before now : SessionSeen) (piece rest : List ℕ) (old new : List (List ℕ)) (taken : Result Taken wants.Memory) (answer : Result Unit SessionStop) → before.stop ≡ None
    → IsBounded before.offset before.requests → IfOk taken (GathersAll (before.rest ++ piece) (most_requests - before.requests) old new)
    → IfOk taken (λ t. rest ≡ drop t.bytes (before.rest ++ piece)) → MovesOn (resting before rest) now taken answer → Gathers before now piece old new answer before.stop
gathers_by before now piece rest old new (Ok taken) answer fresh bounded t is m = gathers before now piece rest old new taken answer fresh bounded t is m
gathers_by before now piece rest old new (Err want) answer fresh bounded t is m = gathers_no_more before (resting before rest) now piece old new want answer fresh m

pub as_gathered : (before self now : SessionSeen) (piece : List ℕ) (old new : List (List ℕ)) (answer : Result Unit SessionStop) → before ≡ self
    → Gathers before now piece old new answer before.stop → Gathers self now piece old new answer self.stop
as_gathered before self now piece old new answer is h = subst (λ (s : SessionSeen). Gathers s now piece old new answer s.stop) is h

-- ---- a piece after a piece

cuts_on : (before mid now : SessionSeen) (piece next : List ℕ) (ps qs : List (List ℕ)) → CutsPiece before mid piece ps → CutsPiece mid now next qs → CutsPiece before now (piece ++ next) (ps ++ qs)
cuts_on before mid now piece next ps qs a b = record {
  cuts = subst (λ x. Cuts x now.rest (ps ++ qs)) (append_assoc before.rest piece next)
      (cuts_more ((before.rest ++ piece) ++ next) (mid.rest ++ next) now.rest ps qs (cuts_longer (before.rest ++ piece) mid.rest next ps a.cuts) b.cuts);
  requests = let p = a.requests in let q = b.requests in omega (arith, length-append ps qs);
  few = b.few;
  came_is = let p = a.came_is in let q = b.came_is in omega (arith, length-append piece next);
}

pub goes_on : (host between after : Hosted) (before mid now : SessionSeen) (piece next replies more : List ℕ) → between.service ≡ host.service
    → Goes host between before mid piece replies → Goes between after mid now next more → Goes host after before now (piece ++ next) (replies ++ more)
goes_on host between after before mid now piece next replies more same a b = record {
  payloads = a.payloads ++ b.payloads;
  cuts = cuts_on before mid now piece next a.payloads b.payloads a.cuts b.cuts;
  answers = replies_more host between after a.payloads b.payloads replies more same a.answers b.answers;
}

-- what was taken in all
pub goes_takes : (host after : Hosted) (before now : SessionSeen) (piece replies : List ℕ) → (g : Goes host after before now piece replies)
    → Takes (mirror_service host.service) host.table after.table (before.rest ++ piece) now.rest (length g.payloads) replies
goes_takes host after before now piece replies g = record { payloads = g.payloads; cuts = g.cuts.cuts; count_is = refl; answers = g.answers }
