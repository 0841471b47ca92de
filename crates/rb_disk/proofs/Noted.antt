-- A disk in memory keeps a call, or finds no memory for it.
use Rattle.std.proofs.Common.{◌≡◌, ℕ, Bool, true, false, cond, List, [], ◌∷◌, ◌++◌, Some, refl, ◌∙◌, ap, subst}
use Rattle.rb_disk.specs.declared.disk_calls.DiskCall.{DiskCall}
use Rattle.rb_base.specs.Counts.{risen}
use Rattle.rb_base.specs.Devices.{Device}
use Rattle.rb_disk.specs.Images.{Call, tore, looked, DiskRecord, IsLook, IsTear, Fails}
use Rattle.rb_disk.specs.MemoryDisks.{call_of, latest_first, DiskInMemory}

latest-push : (calls : List DiskCall) (call : DiskCall) → latest_first (calls ++ call ∷ []) ≡ call_of call ∷ latest_first calls
latest-push [] call = refl
latest-push (c ∷ calls) call = ap (λ (l : List Call). l ++ call_of c ∷ []) (latest-push calls call)

pub noted : (calls new : List DiskCall) (call : DiskCall) (b : Bool) → new ≡ cond b (calls ++ call ∷ []) calls → latest_first new ≡ cond b (call_of call ∷ latest_first calls) (latest_first calls)
noted calls new call true is = ap latest_first is ∙ latest-push calls call
noted calls new call false is = ap latest_first is

-- the same disk, seen by its parts
same_after : (first : List ℕ) (new calls : List Call) (f g : ℕ) → new ≡ calls → f ≡ g
    → let d : List Call → ℕ → Device DiskRecord = λ cs n. record { told = Some (record { first = first; calls = cs }); faults = n } in d new f ≡ d calls g
same_after first new calls f g same risen_is =
    ap (λ (cs : List Call). let r : Device DiskRecord = record { told = Some (record { first = first; calls = cs }); faults = f } in r) same
    ∙ ap (λ (n : ℕ). let r : Device DiskRecord = record { told = Some (record { first = first; calls = calls }); faults = n } in r) risen_is

module _ (first : List ℕ) (calls new : List Call) (number : ℕ) (failing : List ℕ) (faults f : ℕ) (before : DiskInMemory)
    (seen : record { told = record { first = first; calls = calls }; calls = number; failing = failing; faults = faults } ≡ before) (risen_is : f ≡ risen faults) where
  abbrev After : Device DiskRecord
  After = record { told = Some (record { first = first; calls = new }); faults = f }

  abbrev Fails_from : (List Call → Type 0) → DiskInMemory → Type 0
  Fails_from IsTrace d = Fails IsTrace (record { told = Some d.told; faults = d.faults }) After

  pub traced_look : (b : Bool) → new ≡ cond b (looked ∷ calls) calls → Fails IsLook (record { told = Some before.told; faults = before.faults }) After
  traced_look true is = subst (Fails_from IsLook) seen (looked ∷ [], tt, same_after first new (looked ∷ calls) f (risen faults) is risen_is)
  traced_look false is = subst (Fails_from IsLook) seen ([], tt, same_after first new calls f (risen faults) is risen_is)

  pub traced_tear : (at n : ℕ) (b : Bool) → new ≡ cond b (tore at n [] ∷ calls) calls → Fails (IsTear at n) (record { told = Some before.told; faults = before.faults }) After
  traced_tear at n true is = subst (Fails_from (IsTear at n)) seen (tore at n [] ∷ [], (refl, refl), same_after first new (tore at n [] ∷ calls) f (risen faults) is risen_is)
  traced_tear at n false is = subst (Fails_from (IsTear at n)) seen ([], tt, same_after first new calls f (risen faults) is risen_is)
