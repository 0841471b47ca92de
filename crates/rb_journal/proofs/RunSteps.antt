-- One run after the other.
use Rattle.std.proofs.Common.{◌≡◌, ◌⊎◌, inl, inr, ⊎_elim, ℕ, ◌+◌, ◌≤◌, ◌<◌, List, [], ◌∷◌, ◌++◌, length, take, Option, Some, None, refl, sym, ◌∙◌, ap, subst, arith, append_assoc, length-append}
use Rattle.std.proofs.lemmas.List.{append-nil}
use Rattle.rb_disk.specs.Images.{Call, DiskRecord, IsImageSince, further}
use Rattle.rb_journal.specs.Form.{StandsFor}
use Rattle.rb_journal.specs.Appends.{IsBeforeOrAfter, LeavesOnly}
use Rattle.rb_journal.specs.Journals.{SeenJournal, Keeps, CrashesOnly, IsFrontOf}
use Rattle.rb_journal.proofs.Moments.{since_now}

-- a moment since an earlier one is since a later one, or before that
since_split : (m : ℕ) (first : List ℕ) (later calls : List Call) (image : List ℕ) → m ≤ length calls → IsImageSince m first (later ++ calls) image → IsImageSince (length calls) first (later ++ calls) image ⊎ IsImageSince m first calls image
since_split m first [] calls image le h = inr h
since_split m first (call ∷ later) calls image le (inl now) = inl (inl now)
since_split m first (call ∷ later) calls image le (inr before) =
    ⊎_elim (λ since. inl (inr (omega (arith, length-append later calls), since))) (λ earlier. inr earlier) (since_split m first later calls image le before.1)

leaves_then : (a b c : DiskRecord) (P : List ℕ → Type 0) → LeavesOnly a b P → LeavesOnly b c P → LeavesOnly a c P
leaves_then a b c P first second =
    let joined : c ≡ further (second.calls ++ first.calls) a =
    second.is ∙ ap (λ (d : DiskRecord). further second.calls d) first.is ∙ ap (λ (cs : List Call). let r : DiskRecord = record a { calls = cs } in r) (sym (append_assoc second.calls first.calls a.calls)) in
    record {
      calls = second.calls ++ first.calls;
      is = joined;
      each = λ image h.
          let b_calls : b.calls ≡ first.calls ++ a.calls = ap (λ (d : DiskRecord). d.calls) first.is in
          let b_first : b.first ≡ a.first = ap (λ (d : DiskRecord). d.first) first.is in
          let c_calls : c.calls ≡ second.calls ++ b.calls = ap (λ (d : DiskRecord). d.calls) second.is in
          let c_first : c.first ≡ b.first = ap (λ (d : DiskRecord). d.first) second.is in
          let from_b : IsImageSince (length a.calls) b.first (second.calls ++ b.calls) image =
          subst (λ (f : List ℕ). IsImageSince (length a.calls) f (second.calls ++ b.calls) image) c_first (subst (λ (cs : List Call). IsImageSince (length a.calls) c.first cs image) c_calls h) in
          ⊎_elim
          (λ since. second.each image (subst (λ (cs : List Call). IsImageSince (length b.calls) c.first cs image) (sym c_calls) (subst (λ (f : List ℕ). IsImageSince (length b.calls) f (second.calls ++ b.calls) image) (sym c_first) since)))
          (λ earlier. first.each image earlier)
          (since_split (length a.calls) b.first second.calls b.calls image (omega (arith, ap length b_calls, length-append first.calls a.calls)) from_b);
    }

pub crashes_then : (a b c : Option DiskRecord) (P : List ℕ → Type 0) → CrashesOnly a b P → CrashesOnly b c P → CrashesOnly a c P
crashes_then None b c P first second = tt
crashes_then (Some a) None c P first second = absurd first
crashes_then (Some a) (Some b) None P first second = absurd second
crashes_then (Some a) (Some b) (Some c) P first second = leaves_then a b c P first second

pub crashes_weaker : (a b : Option DiskRecord) (P Q : List ℕ → Type 0) → ((image : List ℕ) → P image → Q image) → CrashesOnly a b P → CrashesOnly a b Q
crashes_weaker None b P Q step h = tt
crashes_weaker (Some a) None P Q step h = absurd h
crashes_weaker (Some a) (Some b) P Q step h = record { calls = h.calls; is = h.is; each = λ image left. step image (h.each image left) }

module _ {D : Type 0} (told : D → Option DiskRecord) where
  -- a run of no calls
  pub no_run : (old : SeenJournal D) (before payloads : List (List ℕ)) → Keeps told old before → CrashesOnly (told old.disk) (told old.disk) (IsFrontOf before payloads)
  no_run old before payloads k =
      let d = k.record_is in
      let here : LeavesOnly d d (IsFrontOf before payloads) = record {
        calls = [];
        is = refl;
        each = λ image h. (
          0,
          omega arith,
          subst (λ (ps : List (List ℕ)). StandsFor image ps) (sym (append-nil before))
              (subst (λ (b : List ℕ). StandsFor b before) (sym (k.holds.kept image (since_now (length d.calls) d.first d.calls image (omega arith) h))) k.holds.stands),
        );
      } in
      subst (λ (t : Option DiskRecord). CrashesOnly t t (IsFrontOf before payloads)) (sym k.tells) here

-- an append in a run
pub append_in_run : (before payloads : List (List ℕ)) (i : ℕ) (payload image : List ℕ) → i < length payloads → take (i + 1) payloads ≡ take i payloads ++ payload ∷ []
    → IsBeforeOrAfter (before ++ take i payloads) payload image → IsFrontOf before payloads image
append_in_run before payloads i payload image lt is (inl without) = (i, omega arith, without)
append_in_run before payloads i payload image lt is (inr with_it) = (
  i + 1,
  omega arith,
  subst (λ (ps : List (List ℕ)). StandsFor image ps) (append_assoc before (take i payloads) (payload ∷ []) ∙ ap (λ (l : List (List ℕ)). before ++ l) (sym is)) with_it,
)
