-- What a beginning makes of an empty disk.
use Rattle.std.proofs.Common.{◌≡◌, ℕ, false, List, [], ◌∷◌, ◌++◌, Option, Some, None, refl, ap, arith}
use Rattle.std.specs.Prelude.{IsSome}
use Rattle.rb_base.specs.Devices.{Device, device}
use Rattle.rb_disk.specs.Images.{Call, wrote, synced, DiskRecord, further, told_further, with_calls, put}
use Rattle.rb_journal.specs.Form.{head}
use Rattle.rb_journal.specs.Journals.{Keeps, IsEmpty}

abbrev begin_calls : List Call
begin_calls = synced ∷ wrote 0 (head ++ 0 ∷ []) ∷ []

begun_at : {D : Type 0} (told : D → Option DiskRecord) (new : D) (t : Option DiskRecord) → IsEmpty t → IsSome t → told new ≡ told_further begin_calls t → Keeps told (record { disk = new; gate = 4; is_closed = false }) []
begun_at told new None empty some is = absurd (let h : IsSome {T = DiskRecord} None = some in cc)
begun_at told new (Some d) empty some is = record {
  record_is = further begin_calls d;
  tells = is;
  is_open = refl;
  holds = record {
    stands = record { fit = tt; gate = 0; behind = []; is_closed = omega arith; is = ap (λ (l : List ℕ). put 0 (head ++ 0 ∷ []) l) empty };
    gate_is = refl;
    kept = λ image now. now;
  };
}

pub begun : {D : Type 0} (told : D → Option DiskRecord) (faults : D → ℕ) (disk new : D) → IsEmpty (told disk) → IsSome (told disk)
    → device told faults new ≡ with_calls (synced ∷ wrote 0 (head ++ 0 ∷ []) ∷ []) (device told faults disk) → Keeps told (record { disk = new; gate = 4; is_closed = false }) []
begun told faults disk new empty some made = begun_at told new (told disk) empty some (ap (λ (x : Device DiskRecord). x.told) made)
