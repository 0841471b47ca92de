-- Requests that were answered in turn, and the images of the disk that keeps them.
use Rattle.std.proofs.Common.{◌≡◌, ◌≤◌, zero, suc, arith, refl, ap, sym, ◌∙◌, subst, ℕ, List, [], ◌∷◌, ◌++◌, length, take, add-one, inl, inr, Option, Some, None}
use Rattle.std.proofs.lemmas.Bool.{cases_lt}
use Rattle.std.proofs.lemmas.List.{take_all}
use Rattle.rb_disk.specs.Images.{Call, DiskRecord, IsImage, IsImageSince, MayLeave, moment}
use Rattle.rb_session.specs.Answering.{InTurn}
use Rattle.rb_journal.specs.Journals.{CrashesOnly, Keeps}
use Rattle.rb_journal.specs.Keeping.{AcceptedAmong, AnswersAll, AnswersKept, HoldsFirst, KeepsAccepted, LeavesEach, SeenKept, StopsAfter, StopsKept}
use Rattle.rb_journal.specs.declared.stops.JournalStop.{JournalStop}
use Rattle.rb_top.specs.KeepRuns.{EachImageHolds}

-- ---- fronts of lists

pub take_front : (xs ys : List (List ℕ)) → take (length xs) (xs ++ ys) ≡ xs
take_front [] ys = refl
take_front (x ∷ xs) ys = ap (λ zs. x ∷ zs) (take_front xs ys)

take_next : (xs : List (List ℕ)) (y : List ℕ) (ys : List (List ℕ)) → take (suc (length xs)) (xs ++ y ∷ ys) ≡ xs ++ y ∷ []
take_next [] y ys = refl
take_next (x ∷ xs) y ys = ap (λ zs. x ∷ zs) (take_next xs y ys)

take_within : (count : ℕ) (xs ys : List (List ℕ)) → count ≤ length xs → take count (xs ++ ys) ≡ take count xs
take_within zero [] ys within = refl
take_within zero (x ∷ xs) ys within = refl
take_within (suc count) [] ys within = absurd (omega arith)
take_within (suc count) (x ∷ xs) ys within = ap (λ zs. x ∷ zs) (take_within count xs ys (omega arith))

-- ---- answered in turn

pub turns_append : {A : Type 0} (Answered : A → List ℕ → A → Type 0) (before between after : A) (xs ys : List (List ℕ)) → InTurn Answered before xs between → InTurn Answered between ys after → InTurn Answered before (xs ++ ys) after
turns_append {A} Answered before between after [] ys same more = subst (λ (x : A). InTurn Answered x ys after) same more
turns_append Answered before between after (x ∷ xs) ys led more = (led.0, led.1, turns_append Answered led.0 between after xs ys led.2 more)

pub turns_as : {A : Type 0} (Answered Other : A → List ℕ → A → Type 0) → ((x : A) (payload : List ℕ) (y : A) → Answered x payload y → Other x payload y)
    → (before after : A) (xs : List (List ℕ)) → InTurn Answered before xs after → InTurn Other before xs after
turns_as Answered Other go before after [] led = led
turns_as Answered Other go before after (x ∷ xs) led = (led.0, go before x led.0 led.1, turns_as Answered Other go led.0 after xs led.2)

-- ---- images

now_since : (since : ℕ) (first : List ℕ) (calls : List Call) (image : List ℕ) → IsImage first calls image → IsImageSince since first calls image
now_since since first [] image h = h
now_since since first (call ∷ calls) image h = inl h

-- what a crash may leave now of a disk, where all since some moment has P
crashes_now : (r : Option DiskRecord) (d : DiskRecord) (image : List ℕ) (P : List ℕ → Type 0) (before : DiskRecord) → r ≡ Some before → MayLeave d image → CrashesOnly r (Some d) P → P image
crashes_now None d image P before told may leaves = absurd (cc told)
crashes_now (Some r) d image P before told may leaves = leaves.each image (now_since (moment r) d.first d.calls image may)

-- a longer list of requests, and fewer of them that are wanted
pub holds_longer : (payloads xs ys : List (List ℕ)) (least fewer : ℕ) (image : List ℕ) → fewer ≤ least → fewer ≤ length xs → HoldsFirst payloads xs least image → HoldsFirst payloads (xs ++ ys) fewer image
holds_longer payloads xs ys least fewer image few within h = elim (cases_lt h.0 (length xs)) [
  | inl less ↦ (h.0, (let enough = h.1 in omega arith), h.2, subst (λ zs. among zs) (sym (take_within h.0 xs ys (omega arith))) h.3, h.4)
  | inr more ↦ (length xs, within, h.2, subst (λ zs. among zs) (take_all h.0 xs more ∙ sym (take_front xs ys)) h.3, h.4)
]
  where
    among : List (List ℕ) → Type 0
    among zs = AcceptedAmong zs h.2

-- The laws of requests that are kept.
pub record Laws {D : Type 0} (told : D → Option DiskRecord) (faults : D → ℕ) : Type 0 where
  pub keeps : (before after : SeenKept D) (requests : List (List ℕ)) → AnswersAll told faults before requests after → KeepsAccepted told before requests after
  pub any_moment : (before after : SeenKept D) (requests : List (List ℕ)) → AnswersAll told faults before requests after → LeavesEach told faults before requests (length requests) after
  pub at_stop : (before after : SeenKept D) (requests : List (List ℕ)) (answered : ℕ) (stop : JournalStop) → StopsAfter told faults before requests answered stop after → LeavesEach told faults before requests answered after

module _ {D : Type 0} (told : D → Option DiskRecord) (faults : D → ℕ) (laws : Laws told faults) where
  images : (before after : SeenKept D) (payloads requests : List (List ℕ)) (answered : ℕ) → LeavesEach told faults before requests answered after → Keeps told before.journal payloads
      → EachImageHolds told after.journal.disk payloads requests answered
  images before after payloads requests answered leaves keeps d image tells may =
      let l = leaves payloads keeps answered (omega arith) in
      let kept = (laws.keeps before l.between (take answered requests) l.answers).keeps payloads keeps in
      crashes_now (told l.between.journal.disk) d image (HoldsFirst payloads requests answered) kept.record_is kept.tells may
      (subst (λ t. CrashesOnly (told l.between.journal.disk) t (HoldsFirst payloads requests answered)) tells l.any_moment)

  -- all of the requests were answered
  pub images_after : (before after : SeenKept D) (payloads requests more : List (List ℕ)) (least : ℕ) → least ≤ length requests → InTurn (AnswersKept told faults) before requests after → Keeps told before.journal payloads
      → EachImageHolds told after.journal.disk payloads (requests ++ more) least
  images_after before after payloads requests more least few led keeps d image tells may =
      holds_longer payloads requests more (length requests) least image few few (images before after payloads requests (length requests) (laws.any_moment before after requests led) keeps d image tells may)

  -- the next one was met by a stop
  pub images_at_stop : (before between after : SeenKept D) (payloads requests rest : List (List ℕ)) (next : List ℕ) (stop : JournalStop) (least : ℕ) → least ≤ length requests → InTurn (AnswersKept told faults) before requests between
      → StopsKept told faults between next stop after → Keeps told before.journal payloads → EachImageHolds told after.journal.disk payloads (requests ++ next ∷ rest) least
  images_at_stop before between after payloads requests rest next stop least few led met keeps d image tells may =
      let all = requests ++ next ∷ rest in
      let count = length requests in
      let at_stop = laws.at_stop before after all count stop (record {
        between = between;
        answers = subst (λ xs. InTurn (AnswersKept told faults) before xs between) (sym (take_front requests (next ∷ rest))) led;
        request = next;
        is_next = ap (λ n. take n all) (add-one count) ∙ take_next requests next rest ∙ ap (λ xs. xs ++ next ∷ []) (sym (take_front requests (next ∷ rest)));
        stops = met;
      }) in
      let h = images before after payloads all count at_stop keeps d image tells may in
      (h.0, (let enough = h.1 in omega arith), h.2, h.3, h.4)
