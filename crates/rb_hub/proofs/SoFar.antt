-- A new session that is being served, piece by piece.
use Rattle.std.proofs.Common.{◌≡◌, ◌+◌, arith, refl, ap, sym, ◌∙◌, subst, ℕ, Bool, true, false, All, List, [], ◌∷◌, ◌++◌, length, append_assoc, append-nil, length-append, inl, inr, Option, Some, None}
use Rattle.std.specs.Prelude.{if◌then◌else◌}
use Rattle.std.proofs.lemmas.List.{map-append}
use Rattle.std.proofs.lemmas.List.Elements.{All-nil, All-cons, All-append}
use Rattle.rb_base.specs.Devices.{Device}
use Rattle.rb_base.specs.Sinks.{with_bytes}
use Rattle.rb_base.specs.Sources.{told_before, before_giving}
use Rattle.rb_meaning_bytes.specs.formats.Fields.{IsBytes}
use Rattle.rb_meaning_frames.specs.Streams.{IsRequest}
use Rattle.rb_meaning_frames.specs.Reading.{Division, requests_of, rest_of, standing, StreamsAreRead, FrontsAreRead, RequestsStay}
use Rattle.rb_meaning_frames.specs.Histories.{Piece, Close, Track, is_waiting, goes_on, after, after_all, asked_by, new_requests, brought_to, brought, history_from, Replied, RepliesInOrder, none_asked, EventsLeadOn, HistoriesGoOn, RepliesGoOn}
use Rattle.rb_session.specs.declared.answerers.Answers as answerers
use Rattle.rb_session.specs.Serving.{Ends}
use Rattle.rb_hub.specs.Hubs.{HubSeen}
use Rattle.rb_hub.specs.Delivering.{frames_of}
use Rattle.rb_hub.specs.Serving.{joined, IsRead, pieces_of, closing}
use Rattle.rb_hub.specs.Passing.{track, StandsWith, Passes, Leads}
use Rattle.rb_hub.specs.declared.passing.Passed.{Passed}
use Rattle.rb_hub.proofs.Last.{track_last, after_piece, after_close}
use Rattle.rb_hub.proofs.Written.{bytes_none}

-- ---- what a source tells

told_twice : (a b : List ℕ) (o : Option (List ℕ)) → told_before a (told_before b o) ≡ told_before (a ++ b) o
told_twice a b None = refl
told_twice a b (Some left) = ap Some (sym (append_assoc a b left))

told_none : (o : Option (List ℕ)) → told_before [] o ≡ o
told_none None = refl
told_none (Some left) = refl

pub giving_twice : (a b : List ℕ) (d : Device (List ℕ)) → before_giving a (before_giving b d) ≡ before_giving (a ++ b) d
giving_twice a b d = ap (λ t. record d { told = t }) (told_twice a b d.told)

pub giving_none : (d : Device (List ℕ)) → before_giving [] d ≡ d
giving_none d = ap (λ t. record d { told = t }) (told_none d.told)

-- ---- pieces and events

joined-append : (ps : List (List ℕ)) (p : List ℕ) → joined (ps ++ p ∷ []) ≡ joined ps ++ p
joined-append [] p = append-nil p
joined-append (q ∷ ps) p = ap (λ x. q ++ x) (joined-append ps p) ∙ sym (append_assoc q (joined ps) p)

pieces-append : (number : ℕ) (ps : List (List ℕ)) (p : List ℕ) → pieces_of number (ps ++ p ∷ []) ≡ pieces_of number ps ++ Piece number p ∷ []
pieces-append number [] p = refl
pieces-append number (q ∷ ps) p = ap (λ es. Piece number q ∷ es) (pieces-append number ps p)

asked_on : (number : ℕ) (stream piece : List ℕ) → RequestsStay → asked_by number (requests_of stream) ++ asked_by number (new_requests stream piece) ≡ asked_by number (requests_of (stream ++ piece))
asked_on number stream piece stay =
    sym (map-append (λ payload. record { session = number; payload = payload }) (requests_of stream) (new_requests stream piece)) ∙ ap (asked_by number) (sym (stay stream piece))

-- ---- so far

-- The source gave these pieces, which are this stream. The hub stands where they lead, the replies to the requests of the stream
-- leave the table, and of the sink this is to be said, and that of the requests.
pub record SoFar {A : Type 0} (past : List Track) (now : HubSeen A) (first last : Ends) (stream : List ℕ) (is_open : Bool) (requests : ℕ) (Wrote : List ℕ → Type 0) (Led : List (List ℕ) → Type 0) : Type 0 where
  pub pieces : List (List ℕ)
  pub joined_is : joined pieces ≡ stream
  pub reads : All IsRead pieces
  pub bytes : IsBytes stream
  pub goes : goes_on stream ≡ is_open
  pub stands : StandsWith past (track stream is_open) now
  pub gave : first.source ≡ before_giving stream last.source
  pub leads : after_all (past ++ track [] true ∷ []) (pieces_of (length past) pieces) ≡ past ++ track stream is_open ∷ []
  pub asked : history_from (past ++ track [] true ∷ []) (pieces_of (length past) pieces) ≡ asked_by (length past) (requests_of stream)
  pub replies : List Replied
  pub answered : RepliesInOrder first.service first.table (asked_by (length past) (requests_of stream)) replies last.table
  pub service : last.service ≡ first.service
  pub wrote : Wrote (frames_of replies)
  pub led : Led (requests_of stream)
  pub count : requests ≡ length (requests_of stream)

-- the replies were written
abbrev pub AllWritten : Ends → Ends → List ℕ → Type 0
AllWritten first last frames = last.sink ≡ with_bytes first.sink frames

-- nothing came yet
pub nothing : StreamsAreRead → requests_of [] ≡ []
nothing law = ap (λ (d : Division). d.payloads) (law [] [] [] (All-nil IsRequest) refl (omega arith) (inr (inl (inl refl))))

nothing_left : StreamsAreRead → rest_of [] ≡ []
nothing_left law = ap (λ (d : Division). d.rest) (law [] [] [] (All-nil IsRequest) refl (omega arith) (inr (inl (inl refl))))

no_bytes : IsBytes []
no_bytes i = omega arith

pub none_so_far : {A : Type 0} (past : List Track) (now : HubSeen A) (first : Ends) (Led : List (List ℕ) → Type 0) → StreamsAreRead → FrontsAreRead → StandsWith past (track [] true) now → Led []
    → SoFar past now first first [] true 0 (AllWritten first first) Led
none_so_far past now first Led law fronts stands led = record {
  pieces = [];
  joined_is = refl;
  reads = All-nil IsRead;
  bytes = no_bytes;
  goes = ap is_waiting (ap standing (nothing_left law) ∙ fronts.waits [] (inl refl));
  stands = stands;
  gave = sym (giving_none first.source);
  leads = refl;
  asked = ap (asked_by (length past)) (sym (nothing law));
  replies = [];
  answered = subst (λ ps. RepliesInOrder first.service first.table (asked_by (length past) ps) [] first.table) (sym (nothing law)) (none_asked first.table);
  service = refl;
  wrote = sym (bytes_none first.sink);
  led = subst Led (sym (nothing law)) led;
  count = ap length (sym (nothing law));
}

-- ---- a piece more

-- the laws of histories
pub record Laws : Type 0 where
  pub stay : RequestsStay
  pub events : EventsLeadOn
  pub histories : HistoriesGoOn
  pub replies : RepliesGoOn

leads_more : (laws : Laws) (past : List Track) (pieces : List (List ℕ)) (stream piece : List ℕ)
    → after_all (past ++ track [] true ∷ []) (pieces_of (length past) pieces) ≡ past ++ track stream true ∷ []
    → after_all (past ++ track [] true ∷ []) (pieces_of (length past) (pieces ++ piece ∷ [])) ≡ past ++ track (stream ++ piece) (goes_on (stream ++ piece)) ∷ []
leads_more laws past pieces stream piece leads =
    let start = past ++ track [] true ∷ [] in
    let number = length past in
    ap (after_all start) (pieces-append number pieces piece) ∙ laws.events start (pieces_of number pieces) (Piece number piece ∷ [])
    ∙ ap (λ ps. after ps (Piece number piece)) leads ∙ after_piece past stream piece

asked_more : (laws : Laws) (past : List Track) (pieces : List (List ℕ)) (stream piece : List ℕ)
    → after_all (past ++ track [] true ∷ []) (pieces_of (length past) pieces) ≡ past ++ track stream true ∷ []
    → history_from (past ++ track [] true ∷ []) (pieces_of (length past) pieces) ≡ asked_by (length past) (requests_of stream)
    → history_from (past ++ track [] true ∷ []) (pieces_of (length past) (pieces ++ piece ∷ [])) ≡ asked_by (length past) (requests_of (stream ++ piece))
asked_more laws past pieces stream piece leads asked =
    let start = past ++ track [] true ∷ [] in
    let number = length past in
    let front = pieces_of number pieces in
    let brings : brought (after_all start front) (Piece number piece) ≡ asked_by number (new_requests stream piece) =
    ap (λ ps. brought ps (Piece number piece)) leads ∙ ap (λ o. asked_by number (brought_to o piece)) (track_last past (track stream true)) in
    ap (history_from start) (pieces-append number pieces piece) ∙ laws.histories start front (Piece number piece ∷ [])
    ∙ ap (λ xs. xs ++ (brought (after_all start front) (Piece number piece) ++ [])) asked
    ∙ ap (λ xs. asked_by number (requests_of stream) ++ xs) (append-nil (brought (after_all start front) (Piece number piece)) ∙ brings)
    ∙ asked_on number stream piece laws.stay

frames-append : (xs ys : List Replied) → frames_of (xs ++ ys) ≡ frames_of xs ++ frames_of ys
frames-append [] ys = refl
frames-append (x ∷ xs) ys = ap (λ z. x.frame ++ z) (frames-append xs ys) ∙ sym (append_assoc x.frame (frames_of xs) (frames_of ys))

pub one_piece : {A X : Type 0} (a : answerers.Ghosts A X) (past : List Track) (between now : HubSeen A) (first mid last : Ends) (stream : List ℕ) (requests : ℕ) (piece : List ℕ) (passed : Passed) (frames : List ℕ) (Wrote : List ℕ → Type 0) (Led Led' : List (List ℕ) → Type 0)
    → Laws → (s : SoFar past between first mid stream true requests (AllWritten first mid) Led) → mid.service ≡ a.service between.answers → mid.table ≡ a.table between.answers → last.service ≡ mid.service → last.table ≡ a.table now.answers
    → IsRead piece → IsBytes (stream ++ piece) → mid.source ≡ before_giving piece last.source → Passes a past stream piece between now passed frames
    → ((front : List ℕ) → AllWritten first mid front → Wrote (front ++ frames)) → ((payloads : List (List ℕ)) → Led payloads → Led' (payloads ++ new_requests stream piece))
    → SoFar past now first last (stream ++ piece) (goes_on (stream ++ piece)) (requests + passed.replies) Wrote Led'
one_piece a past between now first mid last stream requests piece passed frames Wrote Led Led' laws s service table same left read bytes gave p writes leads =
    let number = length past in
    let brought_by = asked_by number (new_requests stream piece) in
    let all : frames_of (s.replies ++ p.replies) ≡ frames_of s.replies ++ frames = frames-append s.replies p.replies ∙ ap (λ x. frames_of s.replies ++ x) (sym p.frames_are) in
    let answered : RepliesInOrder first.service mid.table brought_by p.replies last.table =
    subst (λ t. RepliesInOrder first.service mid.table brought_by p.replies t) (sym left)
    (subst (λ t. RepliesInOrder first.service t brought_by p.replies (a.table now.answers)) (sym table)
    (subst (λ x. RepliesInOrder x (a.table between.answers) brought_by p.replies (a.table now.answers)) (sym service ∙ s.service) p.answered)) in
    record {
      pieces = s.pieces ++ piece ∷ [];
      joined_is = joined-append s.pieces piece ∙ ap (λ x. x ++ piece) s.joined_is;
      reads = All-append IsRead s.pieces (piece ∷ []) s.reads (All-cons IsRead piece [] read (All-nil IsRead));
      bytes = bytes;
      goes = refl;
      stands = p.stands;
      gave = s.gave ∙ ap (before_giving stream) gave ∙ giving_twice stream piece last.source;
      leads = leads_more laws past s.pieces stream piece s.leads;
      asked = asked_more laws past s.pieces stream piece s.leads s.asked;
      replies = s.replies ++ p.replies;
      answered = subst (λ xs. RepliesInOrder first.service first.table xs (s.replies ++ p.replies) last.table) (asked_on number stream piece laws.stay)
          (laws.replies first.service first.table mid.table last.table (asked_by number (requests_of stream)) brought_by s.replies p.replies s.answered answered);
      service = same ∙ s.service;
      wrote = subst Wrote (sym all) (writes (frames_of s.replies) s.wrote);
      led = subst Led' (sym (laws.stay stream piece)) (leads (requests_of stream) s.led);
      count =
          let count = s.count in
          let more = p.count in
          omega (arith, ap length (laws.stay stream piece), length-append (requests_of stream) (new_requests stream piece));
    }

-- ---- it has ended

closes_on : (laws : Laws) (past : List Track) (stream : List ℕ) (is_open : Bool) → goes_on stream ≡ is_open
    → after_all (past ++ track stream is_open ∷ []) (closing (length past) stream) ≡ past ++ track stream false ∷ []
closes_on laws past stream true goes =
    ap (λ b. after_all (past ++ track stream true ∷ []) (if b then Close (length past) ∷ [] else [])) goes ∙ after_close past stream true
closes_on laws past stream false goes = ap (λ b. after_all (past ++ track stream false ∷ []) (if b then Close (length past) ∷ [] else [])) goes

closing_asks : (past : List Track) (number : ℕ) (stream : List ℕ) (is_open : Bool) → goes_on stream ≡ is_open → history_from past (closing number stream) ≡ []
closing_asks past number stream true goes = ap (λ b. history_from past (if b then Close number ∷ [] else [])) goes
closing_asks past number stream false goes = ap (λ b. history_from past (if b then Close number ∷ [] else [])) goes

-- the session isn't open any more
pub led_on : {A : Type 0} {Led : List (List ℕ) → Type 0} (past : List Track) (mid now : HubSeen A) (first last : Ends) (stream : List ℕ) (is_open : Bool) (requests : ℕ) (Wrote : List ℕ → Type 0) → Laws
    → (s : SoFar past mid first last stream is_open requests Wrote Led) → StandsWith past (track stream false) now → Leads past now first last
led_on past mid now first last stream is_open requests Wrote laws s shut =
    let start = past ++ track [] true ∷ [] in
    let number = length past in
    let front = pieces_of number s.pieces in
    record {
      pieces = s.pieces;
      stream = stream;
      joined_is = s.joined_is;
      reads = s.reads;
      gave = ap (λ d. d.told) s.gave;
      stands = shut;
      leads = laws.events start front (closing number stream) ∙ ap (λ ps. after_all ps (closing number stream)) s.leads ∙ closes_on laws past stream is_open s.goes;
      asked = laws.histories start front (closing number stream)
          ∙ ap (λ xs. history_from start front ++ xs) (closing_asks (after_all start front) number stream is_open s.goes) ∙ append-nil (history_from start front) ∙ s.asked;
      replies = s.replies;
      answered = s.answered;
    }
