-- Fronts of what is shown, of which a write failed.
use Rattle.std.proofs.Common.{◌≡◌, refl, sym, ap, ◌∙◌, subst, arith, ℕ, ◌+◌, ◌-◌, ◌≤◌, List, ◌++◌, Option, None, Some, length, length-append, length-take, take}
use Rattle.std.proofs.Math.Seq.{take-append-add}
use Rattle.rb_meaning.specs.Shown.{shown_events}
use Rattle.rb_meaning.specs.State.{Event}
use Rattle.rb_base.specs.Devices.{Device, failed}
use Rattle.rb_base.specs.Sinks.{with_bytes, WrotePrefix}
use Rattle.rb_base.proofs.Pieces.{bytes_twice, fails_next, prefix_front}
use Rattle.rb_client.specs.Events.{More}
use Rattle.rb_client.specs.Runs.{FailsWithin}
use Rattle.rb_client.proofs.Events.{shown_append}

-- a front of what is shown is one of what is shown later
pub front_later : (start now : Device (List ℕ)) (es fs : List Event) → More es fs → WrotePrefix (failed start) now (shown_events es) → WrotePrefix (failed start) now (shown_events fs)
front_later start now es fs (more, e) h =
    subst (λ t. WrotePrefix (failed start) now t) (sym (ap shown_events e ∙ shown_append es more)) (prefix_front (failed start) now (shown_events es) (shown_events more) h)

-- a write that failed within a piece leaves a front of all that is shown then
pub front_of_all : (start now : Device (List ℕ)) (es fs : List Event) (piece : List ℕ) → shown_events fs ≡ shown_events es ++ piece → FailsWithin start now es piece → WrotePrefix (failed start) now (shown_events fs)
front_of_all start now es fs piece e f =
    subst (λ t. WrotePrefix (failed start) now t) (sym e) (fails_next start (with_bytes start (shown_events es)) now (shown_events es) piece refl f)

-- a device by what it tells and its count of faults
abbrev that : Option (List ℕ) → ℕ → Device (List ℕ)
that told faults = record { told = told; faults = faults }

-- a front that is at least as long as a whole piece goes beyond it
beyond : (start now : Device (List ℕ)) (a b : List ℕ) (w : WrotePrefix (failed start) now (a ++ b)) → length a ≤ w.count → WrotePrefix (failed (with_bytes start a)) now b
beyond start now a b w long =
    let m : ℕ = w.count - length a in
    let count : w.count ≡ length a + m = omega (arith, long) in
    record {
      count = m;
      within = let h = w.within in omega (arith, h, long, length-append a b);
      is = w.is ∙ ap (with_bytes (failed start)) (ap (λ k. take k (a ++ b)) count ∙ take-append-add a b m) ∙ sym (bytes_twice (failed start) a (take m b));
    }

-- what is told of two fronts that are the same
told_long : (t a b c : List ℕ) (k n : ℕ) → k ≤ length (a ++ b) → Some (t ++ take k (a ++ b)) ≡ Some ((t ++ a) ++ take n c) → length a ≤ k
told_long t a b c k n within e =
    let same : t ++ take k (a ++ b) ≡ (t ++ a) ++ take n c = cc e in
    omega (arith, within, ap length same, length-append t (take k (a ++ b)), length-append (t ++ a) (take n c), length-append t a, length-take k (a ++ b))

by_told : (told : Option (List ℕ)) (faults : ℕ) (now : Device (List ℕ)) (a b c : List ℕ) → WrotePrefix (failed (that told faults)) now (a ++ b) → WrotePrefix (failed (with_bytes (that told faults) a)) now c
    → WrotePrefix (failed (with_bytes (that told faults) a)) now b
by_told None faults now a b c w kept = record { count = 0; within = omega arith; is = w.is }
by_told (Some t) faults now a b c w kept =
    beyond (that (Some t) faults) now a b w (told_long t a b c w.count kept.count w.within (ap (λ d. d.told) (sym w.is ∙ kept.is)))

-- Where a whole piece was written before, and more was written since, what was written of both is that piece and a front of the other.
pub beyond_whole : (start old now : Device (List ℕ)) (a b c : List ℕ) → old ≡ with_bytes start a → WrotePrefix (failed start) now (a ++ b) → WrotePrefix (failed old) now c → WrotePrefix (failed (with_bytes start a)) now b
beyond_whole start old now a b c whole w kept = by_told start.told start.faults now a b c w (subst (λ d. WrotePrefix (failed d) now c) whole kept)
