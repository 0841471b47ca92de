-- Links through a session of a hub.
use Rattle.std.proofs.Common.{◌≡◌, ◌<◌, ◌≤◌, ◌+◌, zero, suc, arith, refl, ap, sym, ◌∙◌, subst, ℕ, Bool, true, false, List, [], ◌∷◌, ◌++◌, length, drop, length-append, Some, None, Result, Ok, Err}
use Rattle.std.specs.Prelude.{map, slice_get, nat_le, if◌then◌else◌, IfOk}
use Rattle.std.proofs.lemmas.List.{length-map, map-append}
use Rattle.std.proofs.lemmas.List.Elements.{All-nil}
use Rattle.std.proofs.lemmas.Bool.{leb-true}
use Rattle.rb_trees.specs.declared.services.Object.{Object}
use Rattle.rb_trees.specs.mirror.Services.{mirror_service}
use Rattle.rb_meaning.specs.Links.{Pair, IsTyped}
use Rattle.rb_meaning_frames.specs.Streams.{IsRequest, most_requests}
use Rattle.rb_meaning_frames.specs.Reading.{StreamsAreRead, FrontsAreRead}
use Rattle.rb_meaning_frames.specs.Histories.{Event, Open, Track, track_of, after, after_all, history_from, RepliesInOrder}
use Rattle.rb_base.specs.declared.links.Reply.{Reply}
use Rattle.rb_base.specs.Counts.{risen}
use Rattle.rb_base.specs.Links.{pair_of}
use Rattle.rb_exec.specs.Hosted.{Hosted}
use Rattle.rb_session.specs.Answering.{IsTypedHost}
use Rattle.rb_session.specs.Exchanges.{pair_told, all_told}
use Rattle.rb_session.specs.declared.exchanges.Exchange.{Exchange}
use Rattle.rb_session.specs.declared.answerers.Answers as answerers
use Rattle.rb_hub.specs.Serial.{as_event}
use Rattle.rb_hub.specs.Hubs.{HubSeen, Does, refusal_of}
use Rattle.rb_hub.specs.Standing.{Stands, StandsSomewhere, EachGoesOn}
use Rattle.rb_hub.specs.Passing.{track}
use Rattle.rb_hub.specs.HubLinks.{HubLinkSeen, next_events, not_naming, own_piece, opened_in, LedOn, HasStream, Owns, Replies, ExchangesIn, is_spent, requests_in}
use Rattle.rb_hub.specs.declared.events.Event as events
use Rattle.rb_hub.specs.declared.events.Out.{Out}
use Rattle.rb_hub.proofs.Last.{track_last, opened_last}
use Rattle.rb_hub.proofs.Asked.{own_kept, has_next}
use Rattle.rb_hub.proofs.Somewhere.{going}

-- ---- a new link

-- the session that was opened has had no request yet
pub owns_new : {A X : Type 0} (a : answerers.Ghosts A X) (number : ℕ) (before now : HubSeen A) (given : List Out) → EachGoesOn {A = A} {X = X} a → number ≡ before.opened → refusal_of before Open ≡ None
    → (before.over ≡ false → StandsSomewhere before) → now.over ≡ false → Does a Open before now given → Owns number [] now
owns_new a number before now given law is none somewhere over d =
    let at = somewhere (going before Open none) in
    let o = opened_last a at.0 before now given law none over d at.1 in (
      at.0 ++ track [] true ∷ [],
      o.stands,
      record {
        requests = All-nil IsRequest;
        own = ap (λ n. track_of n (at.0 ++ track [] true ∷ [])) (is ∙ at.1.opened) ∙ track_last at.0 (track [] true);
      },
    )

-- the hub in which it was opened
pub opened_so : (before now : HubSeen Hosted) (given : List Out) {X : Type 0} (a : answerers.Ghosts Hosted X) → refusal_of before Open ≡ None → now.over ≡ false → Does a Open before now given → now ≡ opened_in before
opened_so before now given a none over d =
    let was = going before Open none in
    ap (λ x. record now { answers = x }) d.1
    ∙ ap (λ x. record { answers = before.answers; opened = x; seats = now.seats; over = now.over }) d.0.opened_is
    ∙ ap (λ x. record { answers = before.answers; opened = before.opened + 1; seats = x; over = now.over }) d.0.seats_are
    ∙ ap (λ x. record { answers = before.answers; opened = before.opened + 1; seats = (opened_in before).seats; over = x }) (over ∙ sym was)

-- ---- what others do next

pub next_some : (number n : ℕ) (others : List (List events.Event)) (event : List events.Event) → slice_get others n ≡ Some event → next_events number (drop n others) ≡ not_naming number event
next_some number n [] event is = absurd (cc is)
next_some number zero (es ∷ others) event is = let same : es ≡ event = cc is in ap (not_naming number) same
next_some number (suc n) (es ∷ others) event is = next_some number n others event is

pub next_none : (number n : ℕ) (others : List (List events.Event)) → slice_get others n ≡ None → next_events number (drop n others) ≡ []
next_none number zero [] is = refl
next_none number (suc n) [] is = refl
next_none number zero (es ∷ others) is = absurd (cc is)
next_none number (suc n) (es ∷ others) is = next_none number n others is

kept_next : (number : ℕ) (past : List Track) (t : Track) (others : List (List events.Event)) → track_of number past ≡ Some t → track_of number (after_all past (map as_event (next_events number others))) ≡ Some t
kept_next number past t [] at = at
kept_next number past t (event ∷ others) at = own_kept number past t event at

-- the own session stays as it was
pub owns_kept : (number : ℕ) (payloads : List (List ℕ)) (others : List (List events.Event)) (event : List events.Event) (before now : HubSeen Hosted) → Owns number payloads before → event ≡ next_events number others
    → ((past : List Track) → Stands past before → LedOn (mirror_service before.answers.service) before.answers.table now.answers.table past (map as_event event) now) → Owns number payloads now
owns_kept number payloads others event before now owns same leads =
    let past = owns.0 in
    let all = after_all past (map as_event (next_events number others)) in (
      all,
      subst (λ es. Stands (after_all past (map as_event es)) now) same (leads past owns.1).stands,
      record { requests = owns.2.requests; own = kept_next number past _ others owns.2.own },
    )

-- and has one request more then
pub owns_next : (number : ℕ) (request : List ℕ) (old new : List Pair) (reply : Reply) (before now : HubSeen Hosted) → StreamsAreRead → FrontsAreRead → IsRequest request → length (requests_in old) < most_requests
    → Owns number (requests_in old) before → ((past : List Track) → Stands past before → Stands (after past (own_piece number request)) now) → new ≡ old ++ pair_of request reply ∷ []
    → Owns number (requests_in new) now
owns_next number request old new reply before now law fronts is few owns stands one =
    let same : requests_in new ≡ requests_in old ++ request ∷ [] = ap requests_in one ∙ map-append (λ (p : Pair). p.request) old (pair_of request reply ∷ []) in (
      after owns.0 (own_piece number request),
      stands owns.0 owns.1,
      subst (λ ps. HasStream number ps (after owns.0 (own_piece number request))) (sym same) (has_next number request (requests_in old) owns.0 law fronts is few owns.2),
    )

-- ---- whether it is spent

not_many : (n : ℕ) (b : Bool) → nat_le most_requests n ≡ b → (most_requests ≤ n → ⊥) → b ≡ false
not_many n true is few = absurd (few (leb-true most_requests n is))
not_many n false is few = refl

pub fresh_so : (l : HubLinkSeen) → l.spent ≡ false → (most_requests ≤ length l.pairs → ⊥) → is_spent l ≡ false
fresh_so l fresh few = ap (λ b. if b then true else nat_le most_requests (length l.pairs)) fresh ∙ not_many (length l.pairs) (nat_le most_requests (length l.pairs)) refl few

pub few_requests : (pairs : List Exchange) (exchanges : ℕ) → exchanges ≡ length pairs → exchanges < most_requests → length (requests_in (all_told pairs)) < most_requests
few_requests pairs exchanges is few = omega (arith, length-map (all_told pairs) (λ (p : Pair). p.request), length-map pairs pair_told)

pub few_pairs : (pairs : List Exchange) (exchanges : ℕ) → exchanges ≡ length pairs → exchanges < most_requests → most_requests ≤ length (all_told pairs) → ⊥
few_pairs pairs exchanges is few many = omega (arith, length-map pairs pair_told)

-- ---- what a result says

pub if_so : {A B E : Type 0} (r : Result A E) (f : A → B) (x y : B) → x ≡ y → IfOk r (λ a. f a ≡ x) → IfOk r (λ a. f a ≡ y)
if_so (Ok a) f x y e h = h ∙ e
if_so (Err e') f x y e h = tt

-- ---- the exchange

after_one : (past : List Track) (es : List Event) (e : Event) → after_all past (es ++ e ∷ []) ≡ after (after_all past es) e
after_one past [] e = refl
after_one past (x ∷ es) e = after_one (after past x) es e

pub exchanged : (request : List ℕ) (before : HubLinkSeen) (reply : Reply) (met now : HubSeen Hosted) (event : List events.Event) (others : List (List events.Event)) (pairs : List Pair) (found left : List (List Object)) (made : ℕ)
    → is_spent before ≡ false → event ≡ next_events before.number before.others
    → ((past : List Track) → Stands past before.hub → LedOn (mirror_service before.hub.answers.service) before.hub.answers.table met.answers.table past (map as_event event) met)
    → mirror_service met.answers.service ≡ mirror_service before.hub.answers.service
    → Replies (mirror_service met.answers.service) met.answers.table request reply now.answers.table → IsTypedHost met.answers → IsTypedHost now.answers
    → mirror_service now.answers.service ≡ mirror_service met.answers.service → ((past : List Track) → Stands past met → Stands (after past (own_piece before.number request)) now)
    → others ≡ drop 1 before.others → pairs ≡ before.pairs ++ pair_of request reply ∷ [] → found ≡ before.found ++ met.answers.table ∷ [] → left ≡ before.left ++ now.answers.table ∷ [] → made ≡ risen before.made
    → ExchangesIn request before reply (record { hub = now; number = before.number; others = others; pairs = pairs; found = found; left = left; made = made; spent = false })
exchanged request before reply met now event others pairs found left made fresh same leads service answers finds typed service' stands others_so pairs_so found_so left_so made_so = record {
  fresh = fresh;
  found = met.answers.table;
  finds = subst (λ s. IsTyped s met.answers.table) service finds;
  answers = subst (λ s. Replies s met.answers.table request reply now.answers.table) service answers;
  service = service' ∙ service;
  typed = typed;
  is = cc (others_so, pairs_so, found_so, left_so, made_so);
  leads = λ past s.
      let l = leads past s in
      let own = own_piece before.number request in
      record {
        stands = subst (λ es. Stands (after_all past (map as_event es ++ own ∷ [])) now) same
            (subst (λ ps. Stands ps now) (sym (after_one past (map as_event event) own)) (stands (after_all past (map as_event event)) l.stands));
        replies = l.replies;
        answered = subst (λ es. RepliesInOrder (mirror_service before.hub.answers.service) before.hub.answers.table (history_from past (map as_event es)) l.replies met.answers.table) same l.answered;
      };
}

-- one list less is to come where there is one pair more
fewer : {A : Type 0} (n : ℕ) (xs : List A) → drop (suc n) xs ≡ drop 1 (drop n xs)
fewer zero xs = refl
fewer (suc n) [] = refl
fewer (suc n) (x ∷ xs) = fewer n xs

pub to_come : (others : List (List events.Event)) (old new : List Exchange) (p : Pair) → all_told new ≡ all_told old ++ p ∷ [] → drop (length new) others ≡ drop 1 (drop (length old) others)
to_come others old new p one = ap (λ n. drop n others) grown ∙ fewer (length old) others
  where
    grown : length new ≡ suc (length old)
    grown = omega (arith, ap length one, length-append (all_told old) (p ∷ []), length-map old pair_told, length-map new pair_told)
