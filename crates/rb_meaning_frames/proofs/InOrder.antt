-- The history has each session's requests in order, and goes on.
use Rattle.std.proofs.Common.{◌≡◌, zero, suc, refl, ap, sym, ◌∙◌, subst, arith, ℕ, Bool, true, false, List, [], ◌∷◌, ◌++◌, append_assoc, append-nil, inl, inr}
use Rattle.std.specs.Prelude.{◌==◌, if◌then◌else◌}
use Rattle.std.proofs.lemmas.Bool.{cases_eq, eq-eqb, ne_eqb}
use Rattle.std.proofs.lemmas.List.Elements.{All-nil}
use Rattle.rb_meaning_frames.specs.Streams.{IsRequest}
use Rattle.rb_meaning_frames.specs.Reading.{Division, requests_of, StreamsAreRead, RequestsStay}
use Rattle.rb_meaning_frames.specs.Histories.{Event, Open, Piece, Close, Track, new_track, goes_on, heard, closed, track_of, changed, may_open, after, after_all, Asked, asked_by, new_requests, brought_to, brought, history_from, history, none_asked, one_asked, of_session, stream_in, EachIsInOrder, EventsLeadOn, HistoriesGoOn, RepliesGoOn}

-- ---- more events

pub events_lead_on : EventsLeadOn
events_lead_on past [] more = refl
events_lead_on past (event ∷ events) more = events_lead_on (after past event) events more

pub histories_go_on : HistoriesGoOn
histories_go_on past [] more = refl
histories_go_on past (event ∷ events) more =
    ap (λ zs. brought past event ++ zs) (histories_go_on (after past event) events more)
    ∙ sym (append_assoc (brought past event) (history_from (after past event) events) (history_from (after_all (after past event) events) more))

pub replies_go_on : RepliesGoOn
replies_go_on service _ _ after _ more _ others (none_asked table) h = h
replies_go_on service _ _ after _ more _ others (one_asked table next between asked reply kind xs rs a rest) h =
    one_asked table next after asked reply kind (xs ++ more) (rs ++ others) a (replies_go_on service next between after xs more rs others rest h)

-- ---- each session's requests

joined : (b : Bool) (p : List ℕ) (all xs ys : List (List ℕ)) → all ≡ xs ++ ys → (if b then p ∷ all else all) ≡ (if b then p ∷ xs else xs) ++ ys
joined true p all xs ys is = ap (λ zs. p ∷ zs) is
joined false p all xs ys is = is

of-append : (k : ℕ) (xs ys : List Asked) → of_session k (xs ++ ys) ≡ of_session k xs ++ of_session k ys
of-append k [] ys = refl
of-append k (x ∷ xs) ys = joined (x.session == k) x.payload (of_session k (xs ++ ys)) (of_session k xs) (of_session k ys) (of-append k xs ys)

of_own : (k : ℕ) (ps : List (List ℕ)) → of_session k (asked_by k ps) ≡ ps
of_own k [] = refl
of_own k (p ∷ ps) = ap (λ b. if b then p ∷ of_session k (asked_by k ps) else of_session k (asked_by k ps)) (eq-eqb k k refl) ∙ ap (λ zs. p ∷ zs) (of_own k ps)

of_other : (k n : ℕ) (ps : List (List ℕ)) → (n ≡ k → ⊥) → of_session k (asked_by n ps) ≡ []
of_other k n [] isnt = refl
of_other k n (p ∷ ps) isnt = ap (λ b. if b then p ∷ of_session k (asked_by n ps) else of_session k (asked_by n ps)) (ne_eqb n k isnt) ∙ of_other k n ps isnt

-- the stream of a session after one was opened
stream_opened : (k : ℕ) (past : List Track) → stream_in (track_of k (past ++ new_track ∷ [])) ≡ stream_in (track_of k past)
stream_opened zero [] = refl
stream_opened (suc k) [] = refl
stream_opened zero (t ∷ past) = refl
stream_opened (suc k) (t ∷ past) = stream_opened k past

stream_may : (b : Bool) (k : ℕ) (past : List Track) → stream_in (track_of k (if b then past ++ new_track ∷ [] else past)) ≡ stream_in (track_of k past)
stream_may true k past = stream_opened k past
stream_may false k past = refl

stream_closed : (k n : ℕ) (past : List Track) → stream_in (track_of k (changed n closed past)) ≡ stream_in (track_of k past)
stream_closed k n [] = refl
stream_closed zero zero (t ∷ past) = refl
stream_closed zero (suc n) (t ∷ past) = refl
stream_closed (suc k) zero (t ∷ past) = refl
stream_closed (suc k) (suc n) (t ∷ past) = stream_closed k n past

stream_other : (k n : ℕ) (change : Track → Track) (past : List Track) → (n ≡ k → ⊥) → track_of k (changed n change past) ≡ track_of k past
stream_other k n change [] isnt = refl
stream_other zero zero change (t ∷ past) isnt = absurd (isnt refl)
stream_other zero (suc n) change (t ∷ past) isnt = refl
stream_other (suc k) zero change (t ∷ past) isnt = refl
stream_other (suc k) (suc n) change (t ∷ past) isnt = stream_other k n change past (λ e. isnt (ap suc e))

no_requests : StreamsAreRead → requests_of [] ≡ []
no_requests law = ap (λ (d : Division). d.payloads) (law [] [] [] (All-nil IsRequest) refl (omega arith) (inr (inl (inl refl))))

-- a piece brings what the longer stream has more
heard_more : RequestsStay → StreamsAreRead → (k : ℕ) (piece : List ℕ) (past : List Track)
    → requests_of (stream_in (track_of k past)) ++ brought_to (track_of k past) piece ≡ requests_of (stream_in (track_of k (changed k (heard piece) past)))
heard_more stay law k piece [] = append-nil (requests_of [])
heard_more stay law zero piece (t ∷ past) = by t.is_open
  where
    by : (b : Bool) → requests_of t.stream ++ (if b then new_requests t.stream piece else [])
        ≡ requests_of (if b then record { stream = t.stream ++ piece; is_open = goes_on (t.stream ++ piece) } else t).stream
    by true = sym (stay t.stream piece)
    by false = append-nil (requests_of t.stream)
heard_more stay law (suc k) piece (t ∷ past) = heard_more stay law k piece past

of_event : RequestsStay → StreamsAreRead → (k : ℕ) (past : List Track) (event : Event)
    → requests_of (stream_in (track_of k past)) ++ of_session k (brought past event) ≡ requests_of (stream_in (track_of k (after past event)))
of_event stay law k past Open = append-nil (requests_of (stream_in (track_of k past))) ∙ ap requests_of (sym (stream_may (may_open past) k past))
of_event stay law k past (Piece number piece) =
    elim (cases_eq number k) [
      | inl same ↦
          subst (λ n. requests_of (stream_in (track_of k past)) ++ of_session k (asked_by n (brought_to (track_of n past) piece)) ≡ requests_of (stream_in (track_of k (changed n (heard piece) past)))) (sym same)
          (ap (λ zs. requests_of (stream_in (track_of k past)) ++ zs) (of_own k (brought_to (track_of k past) piece)) ∙ heard_more stay law k piece past)
      | inr other ↦
          ap (λ zs. requests_of (stream_in (track_of k past)) ++ zs) (of_other k number (brought_to (track_of number past) piece) other)
          ∙ append-nil (requests_of (stream_in (track_of k past)))
          ∙ ap (λ o. requests_of (stream_in o)) (sym (stream_other k number (heard piece) past other))
    ]
of_event stay law k past (Close number) = append-nil (requests_of (stream_in (track_of k past))) ∙ ap requests_of (sym (stream_closed k number past))

of_events : RequestsStay → StreamsAreRead → (k : ℕ) (past : List Track) (events : List Event)
    → requests_of (stream_in (track_of k past)) ++ of_session k (history_from past events) ≡ requests_of (stream_in (track_of k (after_all past events)))
of_events stay law k past [] = append-nil (requests_of (stream_in (track_of k past)))
of_events stay law k past (event ∷ events) =
    let old = requests_of (stream_in (track_of k past)) in
    ap (λ zs. old ++ zs) (of-append k (brought past event) (history_from (after past event) events))
    ∙ sym (append_assoc old (of_session k (brought past event)) (of_session k (history_from (after past event) events)))
    ∙ ap (λ zs. zs ++ of_session k (history_from (after past event) events)) (of_event stay law k past event)
    ∙ of_events stay law k (after past event) events

pub each_in_order : RequestsStay → StreamsAreRead → EachIsInOrder
each_in_order stay law events number =
    ap (λ zs. zs ++ of_session number (history events)) (sym (no_requests law)) ∙ of_events stay law number [] events
