-- Runs of answered requests: what they keep, and what a crash leaves of them.
use Rattle.std.proofs.Common.{◌≡◌, ◌⊎◌, inl, inr, ⊎_elim, ℕ, zero, suc, ◌+◌, ◌≤◌, min, List, [], ◌∷◌, ◌++◌, length, take, drop, Option, Some, None, refl, sym, ◌∙◌, ap, subst, arith, append_assoc}
use Rattle.std.proofs.lemmas.List.{append-nil, take-take}
use Rattle.rb_trees.specs.declared.services.Object.{Object}
use Rattle.rb_trees.specs.mirror.Services.{Service, mirror_service}
use Rattle.rb_disk.specs.Images.{DiskRecord}
use Rattle.rb_journal.specs.declared.stops.JournalStop.{JournalStop}
use Rattle.rb_journal.specs.declared.stops.JournalStop.TheVariants.{DiskFault, Closed, Full, NotAJournal, BadRecord, Memory}
use Rattle.rb_journal.specs.Form.{IsAccepted, StandsFor}
use Rattle.rb_journal.specs.Appends.{IsBeforeOrAfter, LeavesOnly}
use Rattle.rb_journal.specs.Journals.{SeenJournal, Keeps, CrashesOnly}
use Rattle.rb_journal.specs.Replays.{LeaveTable}
use Rattle.rb_journal.specs.Keeping.{SeenKept, IsRefused, KeepsAndPerforms, AnswersKept, StopsKept, AcceptedAmong, none, accepts, refuses, AnswersAll, StopsAfter, KeepsAccepted, HoldsFirst, LeavesAnswered}
use Rattle.rb_journal.proofs.Moments.{since_now}
use Rattle.rb_journal.proofs.RunSteps.{crashes_then, crashes_weaker}

among-append : (xs ys a b : List (List ℕ)) → AcceptedAmong xs a → AcceptedAmong ys b → AcceptedAmong (xs ++ ys) (a ++ b)
among-append xs ys a b none h = h
among-append xs ys a b (accepts r rs acc is rest) h = accepts r (rs ++ ys) (acc ++ b) is (among-append rs ys acc b rest h)
among-append xs ys a b (refuses r rs acc is rest) h = refuses r (rs ++ ys) (acc ++ b) is (among-append rs ys acc b rest h)

take-nil : (n : ℕ) → take {A = List ℕ} n [] ≡ []
take-nil zero = refl
take-nil (suc n) = refl

take-add : (n m : ℕ) (xs : List (List ℕ)) → take n xs ++ take m (drop n xs) ≡ take (n + m) xs
take-add zero m xs = ap (λ (k : ℕ). take k xs) (let e : m ≡ 0 + m = omega arith in e)
take-add (suc n) m [] = take-nil m ∙ sym (take-nil (suc n + m))
take-add (suc n) m (x ∷ xs) =
    ap (λ (l : List (List ℕ)). x ∷ l) (take-add n m xs) ∙ ap (λ (k : ℕ). take k (x ∷ xs)) (let e : suc (n + m) ≡ suc n + m = omega arith in e)

-- a front of a front
take-front : (n m : ℕ) (xs : List (List ℕ)) → take n (take m xs) ≡ take (min n m) xs
take-front zero m xs = ap (λ (k : ℕ). take k xs) (let e : 0 ≡ min 0 m = omega arith in e)
take-front (suc n) zero xs = ap (λ (k : ℕ). take k xs) (let e : 0 ≡ min (suc n) 0 = omega arith in e)
take-front (suc n) (suc m) [] = sym (take-nil (min (suc n) (suc m)))
take-front (suc n) (suc m) (x ∷ xs) =
    ap (λ (l : List (List ℕ)). x ∷ l) (take-front n m xs) ∙ ap (λ (k : ℕ). take k (x ∷ xs)) (let e : suc (min n m) ≡ min (suc n) (suc m) = omega arith in e)

module _ {D : Type 0} (told : D → Option DiskRecord) where
  -- nothing was asked of the disk
  here : (old : SeenJournal D) (payloads : List (List ℕ)) (P : List ℕ → Type 0) → Keeps told old payloads
      → ((image : List ℕ) → StandsFor image payloads → P image) → CrashesOnly (told old.disk) (told old.disk) P
  here old payloads P k so =
      let d = k.record_is in
      let now : LeavesOnly d d P = record {
        calls = [];
        is = refl;
        each = λ image h. so image (subst (λ (b : List ℕ). StandsFor b payloads) (sym (k.holds.kept image (since_now (length d.calls) d.first d.calls image (omega arith) h))) k.holds.stands);
      } in
      subst (λ (t : Option DiskRecord). CrashesOnly t t P) (sym k.tells) now

-- the bytes stand for the payloads, and no request is among them
pub holds_none : (payloads requests : List (List ℕ)) (image : List ℕ) → StandsFor image payloads → HoldsFirst payloads requests 0 image
holds_none payloads requests image stands = (0, omega arith, [], none, subst (λ (ps : List (List ℕ)). StandsFor image ps) (sym (append-nil payloads)) stands)

-- while an accepted request is kept
holds_one : (payloads requests : List (List ℕ)) (request image : List ℕ) → IsAccepted request → IsBeforeOrAfter payloads request image
    → HoldsFirst payloads (request ∷ requests) 0 image
holds_one payloads requests request image is (inl without) = holds_none payloads (request ∷ requests) image without
holds_one payloads requests request image is (inr with_it) = (1, omega arith, request ∷ [], accepts request [] [] is none, with_it)

-- after an accepted request
holds_after : (payloads requests : List (List ℕ)) (request image : List ℕ) → IsAccepted request → HoldsFirst (payloads ++ request ∷ []) requests 0 image
    → HoldsFirst payloads (request ∷ requests) 0 image
holds_after payloads requests request image is h =
    (suc h.0, omega arith, request ∷ h.2, accepts request (take h.0 requests) h.2 is h.3, subst (λ (ps : List (List ℕ)). StandsFor image ps) (append_assoc payloads (request ∷ []) h.2) h.4)

-- after a refused one
holds_past : (payloads requests : List (List ℕ)) (request image : List ℕ) → IsRefused request → HoldsFirst payloads requests 0 image
    → HoldsFirst payloads (request ∷ requests) 0 image
holds_past payloads requests request image wrong h = (suc h.0, omega arith, h.2, refuses request (take h.0 requests) h.2 wrong h.3, h.4)

-- behind requests that were answered
holds_behind : (payloads requests accepted : List (List ℕ)) (n : ℕ) (image : List ℕ) → AcceptedAmong (take n requests) accepted
    → HoldsFirst (payloads ++ accepted) (drop n requests) 0 image → HoldsFirst payloads requests n image
holds_behind payloads requests accepted n image among h = (
  n + h.0,
  omega arith,
  accepted ++ h.2,
  subst (λ (rs : List (List ℕ)). AcceptedAmong rs (accepted ++ h.2)) (take-add n h.0 requests) (among-append (take n requests) (take h.0 (drop n requests)) accepted h.2 among h.3),
  subst (λ (ps : List (List ℕ)). StandsFor image ps) (append_assoc payloads accepted h.2) h.4,
)

-- among all requests, where it was so among the first ones
holds_more : (payloads requests : List (List ℕ)) (n least : ℕ) (image : List ℕ) → least ≤ n → HoldsFirst payloads (take n requests) least image → HoldsFirst payloads requests least image
holds_more payloads requests n least image le h =
    (min h.0 n, omega (arith, h.1), h.2, subst (λ (rs : List (List ℕ)). AcceptedAmong rs h.2) (take-front h.0 n requests) h.3, h.4)

-- while the request behind the first n ones is kept
holds_next : (payloads requests accepted : List (List ℕ)) (n least : ℕ) (request image : List ℕ) → least ≤ n → AcceptedAmong (take n requests) accepted
    → take (n + 1) requests ≡ take n requests ++ request ∷ [] → IsAccepted request → IsBeforeOrAfter (payloads ++ accepted) request image
    → HoldsFirst payloads requests least image
holds_next payloads requests accepted n least request image le among next is (inl without) = (n, le, accepted, among, without)
holds_next payloads requests accepted n least request image le among next is (inr with_it) = (
  n + 1,
  omega (arith, le),
  accepted ++ request ∷ [],
  subst (λ (rs : List (List ℕ)). AcceptedAmong rs (accepted ++ request ∷ [])) (sym next) (among-append (take n requests) (request ∷ []) accepted (request ∷ []) among (accepts request [] [] is none)),
  subst (λ (ps : List (List ℕ)). StandsFor image ps) (append_assoc payloads accepted (request ∷ [])) with_it,
)

module _ {D : Type 0} (told : D → Option DiskRecord) (faults : D → ℕ) where
  -- What answered requests leave, where these payloads were kept before.
  pub record Comes (before : SeenKept D) (payloads requests : List (List ℕ)) (after : SeenKept D) : Type 0 where
    pub accepted : List (List ℕ)
    pub among : AcceptedAmong requests accepted
    pub keeps : Keeps told after.journal (payloads ++ accepted)
    pub leaves : CrashesOnly (told before.journal.disk) (told after.journal.disk) (HoldsFirst payloads requests 0)

  comes_kept : (before between after : SeenKept D) (payloads requests : List (List ℕ)) (request : List ℕ) → Keeps told before.journal payloads
      → KeepsAndPerforms told faults before request between → Comes between (payloads ++ request ∷ []) requests after → Comes before payloads (request ∷ requests) after
  comes_kept before between after payloads requests request k step rest =
      let b = told before.journal.disk in
      let m = told between.journal.disk in
      let a = told after.journal.disk in
      let P = HoldsFirst payloads (request ∷ requests) 0 in
      record {
        accepted = request ∷ rest.accepted;
        among = accepts request requests rest.accepted step.accepted rest.among;
        keeps = subst (λ (ps : List (List ℕ)). Keeps told after.journal ps) (append_assoc payloads (request ∷ []) rest.accepted) rest.keeps;
        leaves = crashes_then b m a P
            (crashes_weaker b m (IsBeforeOrAfter payloads request) P (λ image h. holds_one payloads requests request image step.accepted h) (step.any_moment payloads k))
            (crashes_weaker m a (HoldsFirst (payloads ++ request ∷ []) requests 0) P (λ image h. holds_after payloads requests request image step.accepted h) rest.leaves);
      }

  comes_past : (before between after : SeenKept D) (payloads requests : List (List ℕ)) (request : List ℕ) → IsRefused request → between ≡ before
      → Comes between payloads requests after → Comes before payloads (request ∷ requests) after
  comes_past before between after payloads requests request wrong same rest =
      let a = told after.journal.disk in
      let P = HoldsFirst payloads (request ∷ requests) 0 in
      record {
        accepted = rest.accepted;
        among = refuses request requests rest.accepted wrong rest.among;
        keeps = rest.keeps;
        leaves = crashes_weaker (told before.journal.disk) a (HoldsFirst payloads requests 0) P (λ image h. holds_past payloads requests request image wrong h)
            (subst (λ (x : SeenKept D). CrashesOnly (told x.journal.disk) a (HoldsFirst payloads requests 0)) same rest.leaves);
      }

  pub comes : (requests : List (List ℕ)) (before after : SeenKept D) (payloads : List (List ℕ)) → Keeps told before.journal payloads → AnswersAll told faults before requests after
      → Comes before payloads requests after
  comes [] before after payloads k same =
      subst (λ (x : SeenKept D). Comes before payloads [] x) (sym same) (record {
        accepted = [];
        among = none;
        keeps = subst (λ (ps : List (List ℕ)). Keeps told before.journal ps) (sym (append-nil payloads)) k;
        leaves = here told before.journal payloads (HoldsFirst payloads [] 0) k (λ image stands. holds_none payloads [] image stands);
      })
  comes (request ∷ requests) before after payloads k steps =
      ⊎_elim
      (λ step. comes_kept before steps.0 after payloads requests request k step (comes requests steps.0 after (payloads ++ request ∷ []) (step.keeps payloads k) steps.2))
      (λ wrong. comes_past before steps.0 after payloads requests request wrong.0 wrong.1
      (comes requests steps.0 after payloads (subst (λ (x : SeenKept D). Keeps told x.journal payloads) (sym wrong.1) k) steps.2))
      steps.1

  -- the first ones, and the others
  pub split : (n : ℕ) (requests : List (List ℕ)) (before after : SeenKept D) → AnswersAll told faults before requests after
      → (between : SeenKept D) × AnswersAll told faults before (take n requests) between × AnswersAll told faults between (drop n requests) after
  split zero requests before after steps = (before, refl, steps)
  split (suc n) [] before after same = (before, refl, same)
  split (suc n) (request ∷ requests) before after steps = let s = split n requests steps.0 after steps.2 in (s.0, (steps.0, steps.1, s.1), s.2)

  -- one more
  pub extended : (requests : List (List ℕ)) (before between after : SeenKept D) (request : List ℕ) → AnswersAll told faults before requests between
      → AnswersKept told faults between request after → AnswersAll told faults before (requests ++ request ∷ []) after
  extended [] before between after request same step = (after, subst (λ (x : SeenKept D). AnswersKept told faults x request after) same step, refl)
  extended (r ∷ requests) before between after request steps step = (steps.0, steps.1, extended requests steps.0 between after request steps.2 step)

  pub leaves_answered : (requests : List (List ℕ)) (before after : SeenKept D) (payloads : List (List ℕ)) → Keeps told before.journal payloads → AnswersAll told faults before requests after
      → (n : ℕ) → LeavesAnswered told faults before payloads requests n after
  leaves_answered requests before after payloads k steps n =
      let s = split n requests before after steps in
      let first = comes (take n requests) before s.0 payloads k s.1 in
      let rest = comes (drop n requests) s.0 after (payloads ++ first.accepted) first.keeps s.2 in
      record {
        between = s.0;
        answers = s.1;
        any_moment = crashes_weaker (told s.0.journal.disk) (told after.journal.disk) (HoldsFirst (payloads ++ first.accepted) (drop n requests) 0) (HoldsFirst payloads requests n)
            (λ image h. holds_behind payloads requests first.accepted n image first.among h) rest.leaves;
      }

  -- a request that is met by a stop: nothing happened, or it is accepted
  stop_leaves : (stop : JournalStop) (before after : SeenKept D) (payloads : List (List ℕ)) (request : List ℕ) (P : List ℕ → Type 0) → Keeps told before.journal payloads
      → StopsKept told faults before request stop after
      → ((image : List ℕ) → StandsFor image payloads → P image) → (IsAccepted request → (image : List ℕ) → IsBeforeOrAfter payloads request image → P image)
      → CrashesOnly (told before.journal.disk) (told after.journal.disk) P
  stop_leaves DiskFault before after payloads request P k s same more =
      crashes_weaker (told before.journal.disk) (told after.journal.disk) (IsBeforeOrAfter payloads request) P (more s.accepted) (s.any_moment payloads k)
  stop_leaves Closed before after payloads request P k s same more =
      crashes_weaker (told before.journal.disk) (told after.journal.disk) (IsBeforeOrAfter payloads request) P (more s.accepted) (s.any_moment payloads k)
  stop_leaves Full before after payloads request P k s same more =
      crashes_weaker (told before.journal.disk) (told after.journal.disk) (IsBeforeOrAfter payloads request) P (more s.accepted) (s.any_moment payloads k)
  stop_leaves Memory before after payloads request P k (inl nothing) same more =
      subst (λ (x : SeenKept D). CrashesOnly (told before.journal.disk) (told x.journal.disk) P) (sym nothing) (here told before.journal payloads P k same)
  stop_leaves Memory before after payloads request P k (inr s) same more =
      crashes_weaker (told before.journal.disk) (told after.journal.disk) (IsBeforeOrAfter payloads request) P (more s.accepted) (s.any_moment payloads k)
  stop_leaves NotAJournal before after payloads request P k s same more = absurd s
  stop_leaves (BadRecord number) before after payloads request P k s same more = absurd s

  pub leaves_at_stop : (requests : List (List ℕ)) (answered : ℕ) (stop : JournalStop) (before after : SeenKept D) (payloads : List (List ℕ)) → Keeps told before.journal payloads
      → StopsAfter told faults before requests answered stop after → (n : ℕ) → n ≤ answered → LeavesAnswered told faults before payloads requests n after
  leaves_at_stop requests answered stop before after payloads k run n le =
      let m = run.between in
      let front = take answered requests in
      let all = comes front before m payloads k run.answers in
      let first = leaves_answered front before m payloads k run.answers n in
      let P = HoldsFirst payloads requests n in
      let begin = told first.between.journal.disk in
      record {
        between = first.between;
        answers = subst (λ (rs : List (List ℕ)). AnswersAll told faults before rs first.between) (take-take n answered requests le) first.answers;
        any_moment = crashes_then begin (told m.journal.disk) (told after.journal.disk) P
            (crashes_weaker begin (told m.journal.disk) (HoldsFirst payloads front n) P (λ image h. holds_more payloads requests answered n image le h) first.any_moment)
            (stop_leaves stop m after (payloads ++ all.accepted) run.request P all.keeps run.stops
            (λ image stands. (answered, le, all.accepted, all.among, stands))
            (λ is image h. holds_next payloads requests all.accepted answered n run.request image le all.among run.is_next is h));
      }

  pub keeps_accepted : (requests : List (List ℕ)) (before after : SeenKept D) → AnswersAll told faults before requests after → KeepsAccepted told before requests after
  keeps_accepted [] before after same =
      subst (λ (x : SeenKept D). KeepsAccepted told before [] x) (sym same) (record {
        accepted = [];
        among = none;
        keeps = λ payloads k. subst (λ (ps : List (List ℕ)). Keeps told before.journal ps) (sym (append-nil payloads)) k;
        performed = refl;
        service = refl;
      })
  keeps_accepted (request ∷ requests) before after steps =
      let rest = keeps_accepted requests steps.0 after steps.2 in
      ⊎_elim
      (λ step. record {
        accepted = request ∷ rest.accepted;
        among = accepts request requests rest.accepted step.accepted rest.among;
        keeps = λ payloads k. subst (λ (ps : List (List ℕ)). Keeps told after.journal ps) (append_assoc payloads (request ∷ []) rest.accepted) (rest.keeps (payloads ++ request ∷ []) (step.keeps payloads k));
        performed = (
          steps.0.host.table,
          step.performed,
          subst (λ (s : Service). LeaveTable s steps.0.host.table rest.accepted after.host.table) (ap mirror_service step.service) rest.performed,
        );
        service = rest.service ∙ step.service;
      })
      (λ wrong. subst (λ (x : SeenKept D). KeepsAccepted told x (request ∷ requests) after) wrong.1 (record {
        accepted = rest.accepted;
        among = refuses request requests rest.accepted wrong.0 rest.among;
        keeps = rest.keeps;
        performed = rest.performed;
        service = rest.service;
      }))
      steps.1

  -- the request behind those that were answered is met by a stop
  pub stops_after : (requests : List (List ℕ)) (i answered : ℕ) (before between after : SeenKept D) (request item : List ℕ) (stop : JournalStop) → answered ≡ i
      → take (i + 1) requests ≡ take i requests ++ item ∷ [] → request ≡ item → AnswersAll told faults before (take i requests) between → StopsKept told faults between request stop after
      → StopsAfter told faults before requests answered stop after
  stops_after requests i answered before between after request item stop counted next is steps stops = record {
    between = between;
    answers = subst (λ (n : ℕ). AnswersAll told faults before (take n requests) between) (sym counted) steps;
    request = item;
    is_next = subst (λ (n : ℕ). take (n + 1) requests ≡ take n requests ++ item ∷ []) (sym counted) next;
    stops = subst (λ (r : List ℕ). StopsKept told faults between r stop after) is stops;
  }
