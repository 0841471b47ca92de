-- Requests taken from a stream, some after others.
use Rattle.std.proofs.Common.{◌≡◌, ℕ, ◌+◌, ◌-◌, ◌*◌, ◌<◌, ◌≤◌, List, [], ◌∷◌, ◌++◌, length, take, drop, refl, ap, sym, ◌∙◌, subst, arith, append_assoc, append-nil, length-append, drop-drop, take_all}
use Rattle.std.proofs.lemmas.List.Elements.{All-nil, All-cons, All-append}
use Rattle.std.proofs.lemmas.List.{length-take, length-drop}
use Rattle.rb_trees.specs.declared.services.Object.{Object}
use Rattle.rb_trees.specs.mirror.Services.{Service, mirror_service}
use Rattle.rb_meaning.specs.Replies.{header_length}
use Rattle.rb_meaning_frames.specs.Frames.{frame_bytes, request_kind}
use Rattle.rb_meaning_frames.specs.Streams.{IsRequest, request_frames}
use Rattle.rb_meaning_frames.specs.Served.{RepliesTo, no_more, one_more}
use Rattle.rb_exec.specs.Hosted.{Hosted}
use Rattle.rb_session.specs.Fronts.{IsWhole, IsFront}
use Rattle.rb_session.specs.declared.frames.Front.TheVariants.{Whole}
use Rattle.rb_session.specs.declared.requests.Taken.{Taken}
use Rattle.rb_session.specs.Taking.{longest_frame, Cuts, RepliesOn, GainsReply, CutsAll, TakesAll, GathersAll}

-- ---- frames of requests, and a rest

frames-append : (ps qs : List (List ℕ)) → request_frames (ps ++ qs) ≡ request_frames ps ++ request_frames qs
frames-append [] qs = refl
frames-append (p ∷ ps) qs =
    ap (λ x. frame_bytes request_kind p ++ x) (frames-append ps qs) ∙ sym (append_assoc (frame_bytes request_kind p) (request_frames ps) (request_frames qs))

-- nothing is taken
pub cuts_none : (bytes : List ℕ) → Cuts bytes bytes []
cuts_none bytes = record { requests = All-nil IsRequest; is = refl }

-- more are taken from the rest
pub cuts_more : (bytes mid rest : List ℕ) (ps qs : List (List ℕ)) → Cuts bytes mid ps → Cuts mid rest qs → Cuts bytes rest (ps ++ qs)
cuts_more bytes mid rest ps qs a b = record {
  requests = All-append IsRequest ps qs a.requests b.requests;
  is = a.is ∙ ap (λ x. request_frames ps ++ x) b.is ∙ sym (append_assoc (request_frames ps) (request_frames qs) rest)
      ∙ ap (λ x. x ++ rest) (sym (frames-append ps qs));
}

-- what comes later stands behind the rest
pub cuts_longer : (bytes rest more : List ℕ) (ps : List (List ℕ)) → Cuts bytes rest ps → Cuts (bytes ++ more) (rest ++ more) ps
cuts_longer bytes rest more ps a = record { requests = a.requests; is = ap (λ x. x ++ more) a.is ∙ append_assoc (request_frames ps) rest more }

-- one is taken
cuts_one : (bytes : List ℕ) (size : ℕ) → IsWhole bytes size → Cuts bytes (drop (header_length + size) bytes) (take size (drop header_length bytes) ∷ [])
cuts_one bytes size w =
    let payload = take size (drop header_length bytes) in
    record {
      requests = All-cons IsRequest payload [] (let fits = w.request in omega (arith, length-take size (drop header_length bytes))) (All-nil IsRequest);
      is = w.is ∙ ap (λ x. x ++ drop (header_length + size) bytes) (sym (append-nil (frame_bytes request_kind payload)));
    }

-- ---- requests taken one by one

-- Of some bytes the frames of these requests were taken, which have so many bytes and are at most so many.
pub record CutSoFar (bytes : List ℕ) (most at count : ℕ) (payloads : List (List ℕ)) : Type 0 where
  pub cuts : Cuts bytes (drop at bytes) payloads
  pub count_is : count ≡ length payloads
  pub within : at ≤ length bytes
  pub few : count ≤ most
  pub bounded : at ≤ count * longest_frame

none_cut : (bytes : List ℕ) (most : ℕ) → CutSoFar bytes most 0 0 []
none_cut bytes most = record { cuts = cuts_none bytes; count_is = refl; within = omega arith; few = omega arith; bounded = omega arith }

-- the payload of a frame at a place
abbrev pub payload_at : ℕ → ℕ → List ℕ → List ℕ
payload_at size at bytes = take size (drop header_length (drop at bytes))

one_more_cut : (bytes : List ℕ) (most at count size : ℕ) (payloads : List (List ℕ)) → CutSoFar bytes most at count payloads → count < most → IsWhole (drop at bytes) size
    → CutSoFar bytes most (at + (header_length + size)) (count + 1) (payloads ++ payload_at size at bytes ∷ [])
one_more_cut bytes most at count size payloads so lt w =
    let payload = payload_at size at bytes in
    let next : drop (header_length + size) (drop at bytes) ≡ drop (at + (header_length + size)) bytes = drop-drop (header_length + size) at bytes in
    let there = w.there in
    let request = w.request in
    let bounded = so.bounded in
    let counted = so.count_is in
    record {
      cuts = subst (λ x. Cuts bytes x (payloads ++ payload ∷ [])) next
          (cuts_more bytes (drop at bytes) (drop (header_length + size) (drop at bytes)) payloads (payload ∷ []) so.cuts (cuts_one (drop at bytes) size w));
      count_is = omega (arith, length-append payloads (payload ∷ []));
      within = omega (arith, length-drop at bytes, so.within);
      few = omega arith;
      bounded = omega arith;
    }

-- no more is taken
all_cut : (bytes : List ℕ) (most : ℕ) (payloads : List (List ℕ)) (taken : Taken) → CutSoFar bytes most taken.bytes taken.requests payloads
    → IsFront (drop taken.bytes bytes) taken.front → ((size : ℕ) → taken.front ≡ Whole size → taken.requests ≡ most) → CutsAll bytes most payloads taken
all_cut bytes most payloads taken so front spent = record {
  cuts = so.cuts;
  count = so.count_is;
  within = so.within;
  few = so.few;
  bounded = so.bounded;
  front = front;
  spent = spent;
}

-- ---- their replies

pub replies_joined : (service : Service) (table between after : List Object) (ps qs : List (List ℕ)) (bs cs : List ℕ)
    → RepliesTo service table ps bs between → RepliesTo service between qs cs after → RepliesTo service table (ps ++ qs) (bs ++ cs) after
replies_joined service _ _ after _ qs _ cs (no_more table) more = more
replies_joined service _ _ after _ qs _ cs (one_more table next between payload reply kind ps bs a rest) more =
    subst (λ x. RepliesTo service table (payload ∷ (ps ++ qs)) x after) (sym (append_assoc (frame_bytes kind reply) bs cs))
    (one_more table next after payload reply kind (ps ++ qs) (bs ++ cs) a (replies_joined service next between after ps qs bs cs rest more))

-- the replies of a host to more requests
pub replies_more : (host between after : Hosted) (ps qs : List (List ℕ)) (ws vs : List ℕ) → between.service ≡ host.service
    → RepliesOn host between ps ws → RepliesOn between after qs vs → RepliesOn host after (ps ++ qs) (ws ++ vs)
replies_more host between after ps qs ws vs same a b =
    replies_joined (mirror_service host.service) host.table between.table after.table ps qs ws vs a
    (subst (λ s. RepliesTo (mirror_service s) between.table qs vs after.table) same b)

one_reply : (host after : Hosted) (payload old new : List ℕ) → (g : GainsReply host after payload old new) → RepliesOn host after (payload ∷ []) (frame_bytes g.kind g.reply)
one_reply host after payload old new g =
    subst (λ x. RepliesOn host after (payload ∷ []) x) (append-nil (frame_bytes g.kind g.reply))
    (one_more host.table after.table after.table payload g.reply g.kind [] [] g.answers (no_more after.table))

-- ---- they are answered

-- The requests that were taken are answered, and the buffer has gained the replies.
pub record SoFar (before after : Hosted) (bytes : List ℕ) (most at count : ℕ) (old new : List ℕ) : Type 0 where
  pub payloads : List (List ℕ)
  pub cut : CutSoFar bytes most at count payloads
  pub replies : List ℕ
  pub answers : RepliesOn before after payloads replies
  pub gains : new ≡ old ++ replies

pub none_so_far : (host : Hosted) (bytes : List ℕ) (most : ℕ) (old : List ℕ) → SoFar host host bytes most 0 0 old old
none_so_far host bytes most old = record {
  payloads = [];
  cut = none_cut bytes most;
  replies = [];
  answers = no_more host.table;
  gains = sym (append-nil old);
}

one_more_so_far : (host between after : Hosted) (bytes : List ℕ) (most at count size : ℕ) (old mid new : List ℕ) → between.service ≡ host.service
    → SoFar host between bytes most at count old mid → count < most → IsWhole (drop at bytes) size → GainsReply between after (payload_at size at bytes) mid new
    → SoFar host after bytes most (at + (header_length + size)) (count + 1) old new
one_more_so_far host between after bytes most at count size old mid new same so lt w g =
    let payload = payload_at size at bytes in
    let frame = frame_bytes g.kind g.reply in
    record {
      payloads = so.payloads ++ payload ∷ [];
      cut = one_more_cut bytes most at count size so.payloads so.cut lt w;
      replies = so.replies ++ frame;
      answers = replies_more host between after so.payloads (payload ∷ []) so.replies frame same so.answers (one_reply between after payload mid new g);
      gains = g.is ∙ ap (λ x. x ++ frame) so.gains ∙ append_assoc old so.replies frame;
    }

-- the rest as a slice
pub sliced : (at : ℕ) (bytes : List ℕ) → take (length bytes - at) (drop at bytes) ≡ drop at bytes
sliced at bytes = take_all (length bytes - at) (drop at bytes) (omega (arith, length-drop at bytes))

-- the same of slices, as code makes them
pub one_more_sliced : (host between after : Hosted) (bytes rest : List ℕ) (most at count size n : ℕ) (old mid new : List ℕ) → between.service ≡ host.service
    → SoFar host between bytes most at count old mid → count < most → rest ≡ drop at bytes → n ≡ size → IsWhole rest size
    → GainsReply between after (take n (drop header_length rest)) mid new
    → SoFar host after bytes most (at + (header_length + size)) (count + 1) old new
one_more_sliced host between after bytes rest most at count size n old mid new same so lt is equal w g =
    one_more_so_far host between after bytes most at count size old mid new same so lt (subst (λ r. IsWhole r size) is w)
    (subst (λ k. GainsReply between after (take k (drop header_length (drop at bytes))) mid new) equal
    (subst (λ r. GainsReply between after (take n (drop header_length r)) mid new) is g))

pub takes_all : (host after : Hosted) (bytes rest : List ℕ) (most : ℕ) (old new : List ℕ) (taken : Taken) → SoFar host after bytes most taken.bytes taken.requests old new
    → rest ≡ drop taken.bytes bytes → IsFront rest taken.front → ((size : ℕ) → taken.front ≡ Whole size → taken.requests ≡ most) → TakesAll host after bytes most old new taken
takes_all host after bytes rest most old new taken so is front spent = record {
  payloads = so.payloads;
  cuts = all_cut bytes most so.payloads taken so.cut (subst (λ r. IsFront r taken.front) is front) spent;
  replies = so.replies;
  answers = so.answers;
  gains = so.gains;
}

-- ---- they are gathered

-- The list has gained the payloads of the requests that were taken.
pub record GatheredSoFar (bytes : List ℕ) (most at count : ℕ) (old new : List (List ℕ)) : Type 0 where
  pub payloads : List (List ℕ)
  pub cut : CutSoFar bytes most at count payloads
  pub gains : new ≡ old ++ payloads

pub none_gathered : (bytes : List ℕ) (most : ℕ) (old : List (List ℕ)) → GatheredSoFar bytes most 0 0 old old
none_gathered bytes most old = record { payloads = []; cut = none_cut bytes most; gains = sym (append-nil old) }

-- one more, of slices as code makes them
pub one_more_gathered : (bytes rest payload : List ℕ) (most at count size n : ℕ) (old mid new : List (List ℕ)) → GatheredSoFar bytes most at count old mid → count < most
    → rest ≡ drop at bytes → n ≡ size → IsWhole rest size → payload ≡ take n (drop header_length rest) → new ≡ mid ++ payload ∷ []
    → GatheredSoFar bytes most (at + (header_length + size)) (count + 1) old new
one_more_gathered bytes rest payload most at count size n old mid new so lt is equal w payload_is gains =
    let whole = payload_at size at bytes in
    let same : payload ≡ whole = payload_is ∙ ap (λ k. take k (drop header_length rest)) equal ∙ ap (λ r. take size (drop header_length r)) is in
    record {
      payloads = so.payloads ++ whole ∷ [];
      cut = one_more_cut bytes most at count size so.payloads so.cut lt (subst (λ r. IsWhole r size) is w);
      gains = gains ∙ ap (λ p. mid ++ p ∷ []) same ∙ ap (λ x. x ++ whole ∷ []) so.gains ∙ append_assoc old so.payloads (whole ∷ []);
    }

pub gathers_all : (bytes rest : List ℕ) (most : ℕ) (old new : List (List ℕ)) (taken : Taken) → GatheredSoFar bytes most taken.bytes taken.requests old new
    → rest ≡ drop taken.bytes bytes → IsFront rest taken.front → ((size : ℕ) → taken.front ≡ Whole size → taken.requests ≡ most) → GathersAll bytes most old new taken
gathers_all bytes rest most old new taken so is front spent = record {
  payloads = so.payloads;
  cuts = all_cut bytes most so.payloads taken so.cut (subst (λ r. IsFront r taken.front) is front) spent;
  gains = so.gains;
}
