-- Each stream is divided in one way, and it may come in any pieces.
use Rattle.std.proofs.Common.{◌≡◌, ℕ, zero, suc, ◌+◌, ◌<◌, ◌≤◌, true, All, List, [], ◌∷◌, ◌++◌, length, take, drop, get_or, refl, ap, sym, ◌∙◌, subst, arith, append_assoc, length-append, inl, inr}
use Rattle.std.proofs.lemmas.Bool.{cases_order}
use Rattle.std.proofs.lemmas.List.Elements.{All-nil, All-cons, All-append}
use Rattle.std.proofs.Math.Seq.{take-append_seam, drop-append_seam}
use Rattle.std.specs.Int.{w64, from_be_bytes}
use Rattle.std.proofs.lemmas.List.{take-append-le, drop-append-le, length-drop, get_or_append_left}
use Rattle.rb_meaning_bytes.specs.formats.Fields.{IsBytes}
use Rattle.rb_meaning.specs.Replies.{header_length, announced}
use Rattle.rb_meaning_frames.specs.Frames.{header_bytes, frame_bytes, request_kind, is_request, may_stand, IsRightBefore, BreaksAt}
use Rattle.rb_meaning_frames.specs.Streams.{IsRequest, request_frames, IsCutRequest, IsTooLong, BreaksRequest, Rest, Empty, Cut, Broken, IsRest, Divides}
use Rattle.rb_meaning_frames.specs.Laws.{IsDividedOnce}
use Rattle.rb_meaning_frames.proofs.Headers.{length-header, announced-header, request_stands, IsBytes-drop}
use Rattle.rb_meaning_frames.proofs.Fronts.{front_of}

-- ---- there is a division

-- one frame more at the front
pub one_more : (stream payload more : List ℕ) (ps : List (List ℕ)) (rest : List ℕ) (kind : Rest) → IsRequest payload → stream ≡ frame_bytes request_kind payload ++ more
    → Divides more ps rest kind → Divides stream (payload ∷ ps) rest kind
one_more stream payload more ps rest kind request is d = record {
  requests = All-cons IsRequest payload ps request d.requests;
  is = is ∙ ap (λ x. frame_bytes request_kind payload ++ x) d.is ∙ sym (append_assoc (frame_bytes request_kind payload) (request_frames ps) rest);
  rest_is = d.rest_is;
}

pub record Division (stream : List ℕ) : Type 0 where
  pub payloads : List (List ℕ)
  pub rest : List ℕ
  pub kind : Rest
  pub divides : Divides stream payloads rest kind

IsBytes-rest : (stream front rest : List ℕ) → stream ≡ front ++ rest → IsBytes stream → IsBytes rest
IsBytes-rest stream front rest is b = subst IsBytes (ap (λ l. drop (length front) l) is ∙ drop-append_seam front rest) (IsBytes-drop (length front) stream b)

pub length-frame : (kind : ℕ) (payload more : List ℕ) → length (frame_bytes kind payload ++ more) ≡ 11 + length payload + length more
length-frame kind payload more =
    length-append (frame_bytes kind payload) more
    ∙ ap (λ n. n + length more) (length-append (header_bytes kind (length payload)) payload ∙ ap (λ n. n + length payload) (length-header kind (length payload)))

no_frame : (stream : List ℕ) (kind : Rest) → IsRest stream kind → Division stream
no_frame stream kind is = record { payloads = []; rest = stream; kind = kind; divides = record { requests = All-nil IsRequest; is = refl; rest_is = is } }

divided : (n : ℕ) (stream : List ℕ) → length stream ≤ n → IsBytes stream → Division stream
divided zero stream le b =
    elim (front_of stream b) [
      | inl w ↦ absurd (omega (arith, ap length w.is, length-frame request_kind w.payload w.more))
      | inr r ↦ no_frame stream r.0 r.1
    ]
divided (suc n) stream le b =
    elim (front_of stream b) [
      | inl w ↦
          let d = divided n w.more (omega (arith, ap length w.is, length-frame request_kind w.payload w.more)) (IsBytes-rest stream (frame_bytes request_kind w.payload) w.more w.is b) in
          record { payloads = w.payload ∷ d.payloads; rest = d.rest; kind = d.kind; divides = one_more stream w.payload w.more d.payloads d.rest d.kind w.request w.is d.divides }
      | inr r ↦ no_frame stream r.0 r.1
    ]

-- ---- there is no other

pub announced_of : (payload more : List ℕ) → IsRequest payload → announced (frame_bytes request_kind payload ++ more) ≡ length payload
announced_of payload more request =
    ap announced (append_assoc (header_bytes request_kind (length payload)) payload more)
    ∙ announced-header request_kind (length payload) (payload ++ more) (omega arith)

stands : (payload more : List ℕ) (i : ℕ) → may_stand is_request i (get_or (frame_bytes request_kind payload ++ more) i 0) ≡ true
stands payload more i =
    ap (λ l. may_stand is_request i (get_or l i 0)) (append_assoc (header_bytes request_kind (length payload)) payload more)
    ∙ request_stands (length payload) (payload ++ more) i

-- A whole frame is no rest.
whole_is_no_rest : (payload more : List ℕ) (kind : Rest) → IsRequest payload → IsRest (frame_bytes request_kind payload ++ more) kind → ⊥
whole_is_no_rest payload more Empty request is = omega (arith, ap length is, length-frame request_kind payload more)
whole_is_no_rest payload more Cut request is =
    elim is.short [
      | inl less ↦ omega (arith, length-frame request_kind payload more)
      | inr less ↦ let same = announced_of payload more request in omega (arith, length-frame request_kind payload more)
    ]
whole_is_no_rest payload more (Broken k) request (inl at) = absurd (cc (sym (stands payload more k) ∙ at.wrong))
whole_is_no_rest payload more (Broken k) request (inr long) = let same = announced_of payload more request in let longer = long.longer in omega arith

same_length : (xs ys xs' ys' : List ℕ) → xs ++ ys ≡ xs' ++ ys' → length xs ≡ length xs' → (xs ≡ xs') × (ys ≡ ys')
same_length xs ys xs' ys' e n = (
  sym (take-append_seam xs ys) ∙ ap (λ l. take (length xs) l) e ∙ ap (λ k. take k (xs' ++ ys')) n ∙ take-append_seam xs' ys',
  sym (drop-append_seam xs ys) ∙ ap (λ l. drop (length xs) l) e ∙ ap (λ k. drop k (xs' ++ ys')) n ∙ drop-append_seam xs' ys',
)

-- One list begins with one whole frame.
one_front : (payload more payload' more' : List ℕ) → IsRequest payload → IsRequest payload'
    → frame_bytes request_kind payload ++ more ≡ frame_bytes request_kind payload' ++ more' → (payload ≡ payload') × (more ≡ more')
one_front payload more payload' more' request request' e =
    let size : length payload ≡ length payload' = sym (announced_of payload more request) ∙ ap announced e ∙ announced_of payload' more' request' in
    let header = header_bytes request_kind (length payload) in
    let apart : header ++ (payload ++ more) ≡ header ++ (payload' ++ more') =
    sym (append_assoc header payload more) ∙ e ∙ append_assoc (header_bytes request_kind (length payload')) payload' more'
    ∙ ap (λ n. header_bytes request_kind n ++ (payload' ++ more')) (sym size) in
    same_length payload more payload' more' (same_length header (payload ++ more) header (payload' ++ more') apart refl).1 size

pub at_three : (k : ℕ) (byte : ℕ) → 3 ≤ k → may_stand is_request k byte ≡ true
at_three zero byte le = absurd (omega arith)
at_three (suc zero) byte le = absurd (omega arith)
at_three (suc (suc zero)) byte le = absurd (omega arith)
at_three (suc (suc (suc k))) byte le = refl

-- A byte that is wrong stands where a length that is too long stands before or not at all.
no_byte_of_length : (bytes : List ℕ) (k n : ℕ) → BreaksAt is_request k bytes → IsTooLong n bytes → ⊥
no_byte_of_length bytes k n at long =
    elim (cases_order k 3) [
      | inl same ↦ absurd (cc (sym (at_three k (get_or bytes k 0) (omega arith)) ∙ at.wrong))
      | inr (inl less) ↦ absurd (cc (sym (long.right k less) ∙ at.wrong))
      | inr (inr more) ↦ absurd (cc (sym (at_three k (get_or bytes k 0) (omega arith)) ∙ at.wrong))
    ]

one_break : (bytes : List ℕ) (k n : ℕ) → BreaksRequest k bytes → BreaksRequest n bytes → k ≡ n
one_break bytes k n (inl a) (inl b) =
    elim (cases_order k n) [
      | inl same ↦ same
      | inr (inl less) ↦ absurd (cc (sym (b.before k less) ∙ a.wrong))
      | inr (inr more) ↦ absurd (cc (sym (a.before n more) ∙ b.wrong))
    ]
one_break bytes k n (inl a) (inr b) = absurd (no_byte_of_length bytes k n a b)
one_break bytes k n (inr a) (inl b) = absurd (no_byte_of_length bytes n k b a)
one_break bytes k n (inr a) (inr b) = a.at ∙ sym b.at

cut_breaks_nothing : (bytes : List ℕ) (k : ℕ) → IsCutRequest bytes → BreaksRequest k bytes → ⊥
cut_breaks_nothing bytes k cut (inl at) = absurd (cc (sym (cut.right k at.within) ∙ at.wrong))
cut_breaks_nothing bytes k cut (inr long) = let fits = cut.fits long.there in let longer = long.longer in omega arith

nothing_breaks : (bytes : List ℕ) (k : ℕ) → bytes ≡ [] → BreaksRequest k bytes → ⊥
nothing_breaks bytes k none (inl at) = let within = at.within in omega (arith, ap length none)
nothing_breaks bytes k none (inr long) = let there = long.there in omega (arith, ap length none)

nothing_is_cut : (bytes : List ℕ) → bytes ≡ [] → IsCutRequest bytes → ⊥
nothing_is_cut bytes none cut = let begun = cut.begun in omega (arith, ap length none)

one_rest : (bytes : List ℕ) (a b : Rest) → IsRest bytes a → IsRest bytes b → a ≡ b
one_rest bytes Empty Empty p q = refl
one_rest bytes Empty Cut p q = absurd (nothing_is_cut bytes p q)
one_rest bytes Empty (Broken n) p q = absurd (nothing_breaks bytes n p q)
one_rest bytes Cut Empty p q = absurd (nothing_is_cut bytes q p)
one_rest bytes Cut Cut p q = refl
one_rest bytes Cut (Broken n) p q = absurd (cut_breaks_nothing bytes n p q)
one_rest bytes (Broken k) Empty p q = absurd (nothing_breaks bytes k q p)
one_rest bytes (Broken k) Cut p q = absurd (cut_breaks_nothing bytes k q p)
one_rest bytes (Broken k) (Broken n) p q = ap Broken (one_break bytes k n p q)

-- the first of all, and the others
pub first : (payload : List ℕ) (ps : List (List ℕ)) → All IsRequest (payload ∷ ps) → IsRequest payload
first payload ps all = all 0 payload (omega arith)

pub others : (payload : List ℕ) (ps : List (List ℕ)) → All IsRequest (payload ∷ ps) → All IsRequest ps
others payload ps all k d lt = all (suc k) d (omega arith)

same_division : (ps qs : List (List ℕ)) (r s : List ℕ) (a b : Rest) → All IsRequest ps → All IsRequest qs → request_frames ps ++ r ≡ request_frames qs ++ s
    → IsRest r a → IsRest s b → (ps ≡ qs) × (r ≡ s) × (a ≡ b)
same_division [] [] r s a b all all' e p q = (refl, e, one_rest r a b p (subst (λ x. IsRest x b) (sym e) q))
same_division [] (y ∷ qs) r s a b all all' e p q =
    absurd (whole_is_no_rest y (request_frames qs ++ s) a (first y qs all') (subst (λ x. IsRest x a) (e ∙ append_assoc (frame_bytes request_kind y) (request_frames qs) s) p))
same_division (x ∷ ps) [] r s a b all all' e p q =
    absurd (whole_is_no_rest x (request_frames ps ++ r) b (first x ps all) (subst (λ z. IsRest z b) (sym e ∙ append_assoc (frame_bytes request_kind x) (request_frames ps) r) q))
same_division (x ∷ ps) (y ∷ qs) r s a b all all' e p q =
    let apart = one_front x (request_frames ps ++ r) y (request_frames qs ++ s) (first x ps all) (first y qs all')
    (sym (append_assoc (frame_bytes request_kind x) (request_frames ps) r) ∙ e ∙ append_assoc (frame_bytes request_kind y) (request_frames qs) s) in
    let more = same_division ps qs r s a b (others x ps all) (others y qs all') apart.1 p q in
    (ap (λ z. z ∷ ps) apart.0 ∙ ap (λ zs. y ∷ zs) more.0, more.1, more.2)

pub divided_once : (stream : List ℕ) → IsBytes stream → IsDividedOnce stream
divided_once stream b =
    let d = divided (length stream) stream (omega arith) b in
    record {
      payloads = d.payloads;
      rest = d.rest;
      kind = d.kind;
      divides = d.divides;
      once = λ ps r k other. same_division ps d.payloads r d.rest k d.kind other.requests d.divides.requests (sym other.is ∙ d.divides.is) other.rest_is d.divides.rest_is;
    }

-- ---- in any pieces

pub frames-append : (ps qs : List (List ℕ)) → request_frames (ps ++ qs) ≡ request_frames ps ++ request_frames qs
frames-append [] qs = refl
frames-append (p ∷ ps) qs =
    ap (λ x. frame_bytes request_kind p ++ x) (frames-append ps qs) ∙ sym (append_assoc (frame_bytes request_kind p) (request_frames ps) (request_frames qs))

pub cut_anywhere : (piece next : List ℕ) (ps qs : List (List ℕ)) (rest last : List ℕ) (kind end : Rest)
    → Divides piece ps rest kind → Divides (rest ++ next) qs last end → Divides (piece ++ next) (ps ++ qs) last end
cut_anywhere piece next ps qs rest last kind end d e = record {
  requests = All-append IsRequest ps qs d.requests e.requests;
  is = ap (λ x. x ++ next) d.is ∙ append_assoc (request_frames ps) rest next ∙ ap (λ x. request_frames ps ++ x) e.is
      ∙ sym (append_assoc (request_frames ps) (request_frames qs) last) ∙ ap (λ x. x ++ last) (sym (frames-append ps qs));
  rest_is = e.rest_is;
}

-- ---- what is broken stays broken

at_front : (bytes next : List ℕ) (i : ℕ) → i < length bytes → get_or (bytes ++ next) i 0 ≡ get_or bytes i 0
at_front bytes next i lt = get_or_append_left bytes next 0 i lt

right_longer : (k : ℕ) (bytes next : List ℕ) → k ≤ length bytes → IsRightBefore is_request k bytes → IsRightBefore is_request k (bytes ++ next)
right_longer k bytes next le right i lt = ap (may_stand is_request i) (at_front bytes next i (omega arith)) ∙ right i lt

announced_longer : (bytes next : List ℕ) → header_length ≤ length bytes → announced (bytes ++ next) ≡ announced bytes
announced_longer bytes next there =
    ap (from_be_bytes w64) (ap (take 8) (drop-append-le 3 bytes next (omega arith)) ∙ take-append-le 8 (drop 3 bytes) next (omega (arith, length-drop 3 bytes)))

stays_broken_at : (k : ℕ) (bytes next : List ℕ) → BreaksRequest k bytes → BreaksRequest k (bytes ++ next)
stays_broken_at k bytes next (inl at) =
    let within = at.within in
    inl (record {
      within = omega (arith, length-append bytes next);
      wrong = ap (may_stand is_request k) (at_front bytes next k within) ∙ at.wrong;
      before = right_longer k bytes next (omega arith) at.before;
    })
stays_broken_at k bytes next (inr long) =
    let there = long.there in
    let same = announced_longer bytes next there in
    let longer = long.longer in
    inr (record {
      at = long.at;
      there = omega (arith, length-append bytes next);
      right = right_longer 3 bytes next (omega arith) long.right;
      longer = omega arith;
    })

pub stays_broken : (piece next : List ℕ) (ps : List (List ℕ)) (rest : List ℕ) (offset : ℕ)
    → Divides piece ps rest (Broken offset) → Divides (piece ++ next) ps (rest ++ next) (Broken offset)
stays_broken piece next ps rest offset d = record {
  requests = d.requests;
  is = ap (λ x. x ++ next) d.is ∙ append_assoc (request_frames ps) rest next;
  rest_is = stays_broken_at offset rest next d.rest_is;
}
