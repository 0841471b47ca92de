-- A request that is asked through a session of a hub, which others use too.
use Rattle.std.proofs.Common.{◌≡◌, ◌<◌, ◌≤◌, zero, suc, arith, refl, ap, sym, ◌∙◌, subst, ℕ, true, false, All, List, [], ◌∷◌, ◌++◌, length, drop, get_or, append_assoc, append-nil, length-append, inl, inr, Option, Some, Result, Ok, Err}
use Rattle.std.specs.Prelude.{if◌then◌else◌, map, option_map, ◌==◌, IfOk}
use Rattle.std.proofs.Math.Seq.{drop-append_seam}
use Rattle.std.proofs.lemmas.Bool.{cases_Bool, eq-eqb}
use Rattle.std.proofs.lemmas.List.Elements.{All-nil, All-cons, All-append}
use Rattle.rb_trees.specs.declared.services.Object.{Object}
use Rattle.rb_trees.specs.mirror.Services.{Service}
use Rattle.rb_meaning.specs.Answers.{Answers}
use Rattle.rb_meaning.specs.Replies.{header_length}
use Rattle.rb_meaning_frames.specs.Frames.{header_bytes, frame_bytes, request_kind}
use Rattle.rb_meaning_frames.specs.Streams.{IsRequest, request_frames, most_requests}
use Rattle.rb_meaning_frames.specs.Reading.{Division, divided, standing, requests_of, StreamsAreRead, FrontsAreRead}
use Rattle.rb_meaning_frames.specs.Histories.{Track, track_of, changed, new_track, may_open, is_waiting, goes_on, heard, Piece, after, after_all, Asked, asked_by, new_requests, brought_to, brought, Replied, RepliesInOrder, none_asked, one_asked, RepliesGoOn}
use Rattle.rb_session.specs.declared.answerers.Answers as answerers
use Rattle.rb_hub.specs.Serial.{as_event, reply_out, last_out, replies_in}
use Rattle.rb_hub.specs.Hubs.{HubSeen}
use Rattle.rb_hub.specs.Standing.{Stands, GoesOn, PlaysOne, PlaysAll}
use Rattle.rb_base.specs.declared.links.Reply as base
use Rattle.rb_hub.specs.HubLinks.{names, not_naming, LedOn, HasStream, Owns, Replies, ComesFirst, own_piece}
use Rattle.rb_hub.specs.declared.events.Event as events
use Rattle.rb_hub.specs.declared.events.Event.TheVariants as come
use Rattle.rb_hub.specs.declared.events.HubRefusal.{HubRefusal}
use Rattle.rb_hub.specs.declared.events.Out.{Out}
use Rattle.rb_hub.proofs.Serially.{history_replies}

-- ---- what others did

pub led : {A X : Type 0} (a : answerers.Ghosts A X) (event : List _) (hub now : HubSeen A) (old new : List Out) (u : Unit) → RepliesGoOn → PlaysAll {A = A} {X = X} a event hub now old new (Ok u)
    → (past : List Track) → Stands past hub → LedOn (a.service hub.answers) (a.table hub.answers) (a.table now.answers) past event now
led a event hub now old new u law p past s =
    let g = p.goes past s in
    record {
      stands = g.stands;
      replies = replies_in p.given;
      answered = history_replies (a.service hub.answers) (a.table hub.answers) (a.table now.answers) past event p.given law g.outs;
    }

-- ---- a session that others don't name stays

track_front : (number : ℕ) (past more : List Track) (t : Track) → track_of number past ≡ Some t → track_of number (past ++ more) ≡ Some t
track_front number [] more t at = absurd (cc at)
track_front zero (s ∷ past) more t at = at
track_front (suc number) (s ∷ past) more t at = track_front number past more t at

other_kept : (number other : ℕ) (change : Track → Track) (past : List Track) → (other ≡ number → ⊥) → track_of number (changed other change past) ≡ track_of number past
other_kept number other change [] isnt = refl
other_kept zero zero change (t ∷ past) isnt = absurd (isnt refl)
other_kept zero (suc other) change (t ∷ past) isnt = refl
other_kept (suc number) zero change (t ∷ past) isnt = refl
other_kept (suc number) (suc other) change (t ∷ past) isnt = other_kept number other change past (λ e. isnt (ap suc e))

not_equal : (other number : ℕ) → (other == number) ≡ false → other ≡ number → ⊥
not_equal other number isnt is = cc (sym isnt ∙ eq-eqb other number is)

kept_by : (number : ℕ) (past : List Track) (t : Track) (event : events.Event) → names number event ≡ false → track_of number past ≡ Some t → track_of number (after past (as_event event)) ≡ Some t
kept_by number past t come.Open isnt at =
    elim (cases_Bool (may_open past)) [
      | inl may ↦ ap (λ b. track_of number (if b then past ++ new_track ∷ [] else past)) may ∙ track_front number past (new_track ∷ []) t at
      | inr may ↦ ap (λ b. track_of number (if b then past ++ new_track ∷ [] else past)) may ∙ at
    ]
kept_by number past t (come.Piece other piece) isnt at = other_kept number other (heard piece) past (not_equal other number isnt) ∙ at
kept_by number past t (come.Close other) isnt at = other_kept number other _ past (not_equal other number isnt) ∙ at

pub own_kept : (number : ℕ) (past : List Track) (t : Track) (others : List events.Event) → track_of number past ≡ Some t → track_of number (after_all past (map as_event (not_naming number others))) ≡ Some t
own_kept number past t [] at = at
own_kept number past t (event ∷ others) at =
    elim (cases_Bool (names number event)) [
      | inl is ↦
          ap (λ b. track_of number (after_all past (map as_event (if b then not_naming number others else event ∷ not_naming number others)))) is ∙ own_kept number past t others at
      | inr isnt ↦
          ap (λ b. track_of number (after_all past (map as_event (if b then not_naming number others else event ∷ not_naming number others)))) isnt
          ∙ own_kept number (after past (as_event event)) t others (kept_by number past t event isnt at)
    ]

-- ---- the own session's next request

frames-append : (ps qs : List (List ℕ)) → request_frames (ps ++ qs) ≡ request_frames ps ++ request_frames qs
frames-append [] qs = refl
frames-append (p ∷ ps) qs =
    ap (λ x. frame_bytes request_kind p ++ x) (frames-append ps qs) ∙ sym (append_assoc (frame_bytes request_kind p) (request_frames ps) (request_frames qs))

reads : StreamsAreRead → (ps : List (List ℕ)) → All IsRequest ps → length ps ≤ most_requests → divided most_requests (request_frames ps) ≡ record { payloads = ps; rest = [] }
reads law ps requests few = law (request_frames ps) ps [] requests (sym (append-nil (request_frames ps))) few (inr (inl (inl refl)))

frames_next : (ps : List (List ℕ)) (request : List ℕ) → request_frames ps ++ frame_bytes request_kind request ≡ request_frames (ps ++ request ∷ [])
frames_next ps request = sym (frames-append ps (request ∷ []) ∙ ap (λ x. request_frames ps ++ x) (append-nil (frame_bytes request_kind request)))

-- what the frame of a request is of the whole stream
record IsNext (ps : List (List ℕ)) (request : List ℕ) : Type 0 where
  pub brings : new_requests (request_frames ps) (frame_bytes request_kind request) ≡ request ∷ []
  pub goes : goes_on (request_frames ps ++ frame_bytes request_kind request) ≡ true

is_next : StreamsAreRead → FrontsAreRead → (ps : List (List ℕ)) (request : List ℕ) → All IsRequest ps → IsRequest request → length ps < most_requests → IsNext ps request
is_next law fronts ps request requests is few =
    let frame = frame_bytes request_kind request in
    let old = reads law ps requests (omega arith) in
    let all = All-append IsRequest ps (request ∷ []) requests (All-cons IsRequest request [] is (All-nil IsRequest)) in
    let new = ap (divided most_requests) (frames_next ps request) ∙ reads law (ps ++ request ∷ []) all (omega (arith, length-append ps (request ∷ []))) in
    record {
      brings = ap (λ (d : Division). drop (length d.payloads) (requests_of (request_frames ps ++ frame))) old
          ∙ ap (λ (d : Division). drop (length ps) d.payloads) new ∙ drop-append_seam ps (request ∷ []);
      goes = ap (λ (d : Division). is_waiting (standing d.rest)) new ∙ ap is_waiting (fronts.waits [] (inl refl));
    }

-- ---- the reply

-- a request was asked, and this was answered
pub record IsAsked (service : Service) (table left : List Object) (request : List ℕ) (given : List Out) : Type 0 where
  pub kind : ℕ
  pub reply : List ℕ
  pub answers : Answers service table request kind reply left
  pub first : ComesFirst given kind reply

record OneAnswer (service : Service) (table left : List Object) (asked : Asked) (replies : List Replied) : Type 0 where
  pub kind : ℕ
  pub reply : List ℕ
  pub answers : Answers service table asked.payload kind reply left
  pub is : replies ≡ record { session = asked.session; frame = frame_bytes kind reply } ∷ []

one_answer : (service : Service) (table left : List Object) (asked : Asked) (replies : List Replied) → RepliesInOrder service table (asked ∷ []) replies left → OneAnswer service table left asked replies
one_answer service _ _ _ _ (one_asked table between after asked reply kind _ _ h (none_asked _)) = record { kind = kind; reply = reply; answers = h; is = refl }

pub asked_one : {A X : Type 0} (a : answerers.Ghosts A X) (number : ℕ) (request : List ℕ) (ps : List (List ℕ)) (past : List Track) (hub now : HubSeen A) (given : List Out) → StreamsAreRead → FrontsAreRead
    → IsRequest request → length ps < most_requests → HasStream number ps past → GoesOn a past (own_piece number request) hub now given
    → IsAsked (a.service hub.answers) (a.table hub.answers) (a.table now.answers) request given
asked_one a number request ps past hub now given law fronts is few has g =
    let frame = frame_bytes request_kind request in
    let next = is_next law fronts ps request has.requests is few in
    let brings : brought past (Piece number frame) ≡ asked_by number (request ∷ []) =
    ap (λ o. asked_by number (brought_to o frame)) has.own ∙ ap (asked_by number) next.brings in
    let one = one_answer (a.service hub.answers) (a.table hub.answers) (a.table now.answers) (record { session = number; payload = request }) g.outs.replies
    (subst (λ xs. RepliesInOrder (a.service hub.answers) (a.table hub.answers) xs g.outs.replies (a.table now.answers)) brings g.outs.answered) in
    record {
      kind = one.kind;
      reply = one.reply;
      answers = one.answers;
      first = record {
        number = number;
        rest = last_out past (Piece number frame);
        is = g.outs.is ∙ ap (λ rs. map reply_out rs ++ last_out past (Piece number frame)) one.is;
      };
    }

-- where the own session stands then
track-changed : (k : ℕ) (change : Track → Track) (past : List Track) (t : Track) → track_of k past ≡ Some t → track_of k (changed k change past) ≡ Some (change t)
track-changed k change [] t at = absurd (cc at)
track-changed zero change (s ∷ past) t at = ap (option_map change) at
track-changed (suc k) change (s ∷ past) t at = track-changed k change past t at

pub has_next : (number : ℕ) (request : List ℕ) (ps : List (List ℕ)) (past : List Track) → StreamsAreRead → FrontsAreRead → IsRequest request → length ps < most_requests → HasStream number ps past
    → HasStream number (ps ++ request ∷ []) (after past (own_piece number request))
has_next number request ps past law fronts is few has =
    let frame = frame_bytes request_kind request in
    let next = is_next law fronts ps request has.requests is few in
    record {
      requests = All-append IsRequest ps (request ∷ []) has.requests (All-cons IsRequest request [] is (All-nil IsRequest));
      own = track-changed number (heard frame) past (record { stream = request_frames ps; is_open = true }) has.own
          ∙ ap (λ b. Some (record { stream = request_frames ps ++ frame; is_open = b })) next.goes
          ∙ ap (λ x. Some (record { stream = x; is_open = true })) (frames_next ps request);
    }

-- ---- a frame, and its parts

pub kind_at : (kind : ℕ) (reply : List ℕ) → get_or (frame_bytes kind reply) 2 0 ≡ kind
unfolding header_bytes
kind_at kind reply = refl

header_size : (kind size : ℕ) → length (header_bytes kind size) ≡ header_length
unfolding header_bytes
header_size kind size = refl

pub payload_at : (kind : ℕ) (reply : List ℕ) → drop header_length (frame_bytes kind reply) ≡ reply
payload_at kind reply =
    ap (λ n. drop n (header_bytes kind (length reply) ++ reply)) (sym (header_size kind (length reply))) ∙ drop-append_seam (header_bytes kind (length reply)) reply

pub long_enough : (kind : ℕ) (reply : List ℕ) → header_length ≤ length (frame_bytes kind reply)
long_enough kind reply = omega (arith, length-append (header_bytes kind (length reply)) reply, header_size kind (length reply))

-- ---- as the code makes it

-- what came out of the own piece
pub asked_so : {A X : Type 0} (a : answerers.Ghosts A X) (number : ℕ) (request frame : List ℕ) (hub now : HubSeen A) (start outs slice : List Out) (refusal : Option HubRefusal) → StreamsAreRead → FrontsAreRead
    → IsRequest request → (payloads : List (List ℕ)) × (length payloads < most_requests) × Owns number payloads hub → start ≡ [] → frame ≡ frame_bytes request_kind request
    → PlaysOne {A = A} {X = X} a (Piece number frame) hub now start outs (Ok refusal) → slice ≡ outs → IsAsked (a.service hub.answers) (a.table hub.answers) (a.table now.answers) request slice
asked_so {A} {X} a number request frame hub now start outs slice refusal law fronts is owns none same o slice_is =
    let past = owns.2.0 in
    let goes = subst (λ f. GoesOn a past (Piece number f) hub now o.given) same (o.goes past owns.2.1).0 in
    let all : slice ≡ o.given = slice_is ∙ o.gains ∙ ap (λ x. x ++ o.given) none in
    subst (IsAsked (a.service hub.answers) (a.table hub.answers) (a.table now.answers) request) (sym all)
    (asked_one a number request owns.0 past hub now o.given law fronts is owns.1 owns.2.2 goes)

-- the parts of a frame
pub parts_so : {E : Type 0} (r : Result base.Reply E) (frame : List ℕ) (kind : ℕ) (reply : List ℕ) → frame ≡ frame_bytes kind reply → IfOk r (λ it. it.kind ≡ get_or frame 2 0)
    → IfOk r (λ it. it.payload.items ≡ drop header_length frame) → IfOk r (λ it. (it.kind ≡ kind) × (it.payload.items ≡ reply))
parts_so (Ok it) frame kind reply is k p = (k ∙ ap (λ f. get_or f 2 0) is ∙ kind_at kind reply, p ∙ ap (drop header_length) is ∙ payload_at kind reply)
parts_so (Err e) frame kind reply is k p = tt

pub answers_so : {E : Type 0} (r : Result base.Reply E) (service : Service) (table left : List Object) (request : List ℕ) (kind : ℕ) (reply : List ℕ) → Answers service table request kind reply left
    → IfOk r (λ it. (it.kind ≡ kind) × (it.payload.items ≡ reply)) → IfOk r (λ it. Replies service table request it left)
answers_so (Ok it) service table left request kind reply h is =
    subst (λ k. Answers service table request k it.payload.items left) (sym is.0) (subst (λ x. Answers service table request kind x left) (sym is.1) h)
answers_so (Err e) service table left request kind reply h is = tt
