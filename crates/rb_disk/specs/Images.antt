-- A disk as the record of its calls: what a read gives, and what a crash leaves.
use Rattle.std.specs.Prelude.{◌≡◌, ◌⊎◌, ℕ, ◌+◌, ◌-◌, ◌≤◌, min, max, List, [], ◌∷◌, ◌++◌, length, take, drop, replicate, Option, None, Some, Result, Ok, Err}
use Rattle.rb_base.specs.Devices.{Device, failed}

-- A call that was made: a write of bytes at an offset; a write of so many bytes that failed, after which a read shows a front
-- of what is named here; a sync that succeeded; and any other call.
pub data Call : Type 0 where
  wrote : ℕ → List ℕ → Call
  tore : ℕ → ℕ → List ℕ → Call
  synced : Call
  looked : Call

-- What a disk held at first, all of it kept, and the calls since then, the latest first.
pub record DiskRecord : Type 0 where
  pub first : List ℕ
  pub calls : List Call

-- the bytes with these at an offset, and zeros between the old end and the offset
abbrev pub put : ℕ → List ℕ → List ℕ → List ℕ
put at [] old = old
put at (b ∷ bytes) old = take at old ++ replicate (at - length old) 0 ++ (b ∷ bytes) ++ drop (at + length (b ∷ bytes)) old

-- what a read gives
abbrev pub read_after : List ℕ → List Call → List ℕ
read_after first [] = first
read_after first (wrote at bytes ∷ calls) = put at bytes (read_after first calls)
read_after first (tore at n shown ∷ calls) = put at (take n shown) (read_after first calls)
read_after first (synced ∷ calls) = read_after first calls
read_after first (looked ∷ calls) = read_after first calls

-- What a crash may make of a write of n bytes that no sync followed: any bytes in the range and past the old end, and the
-- same bytes outside.
pub record Torn (at n : ℕ) (old new : List ℕ) : Type 0 where
  pub no_shorter : length old ≤ length new
  pub no_longer : length new ≤ max (length old) (at + n)
  pub before : take (min at (length old)) new ≡ take at old
  pub behind : drop (at + n) new ≡ drop (at + n) old

-- What a crash may leave after these calls: after a sync that succeeded what a read gives; after a write, torn or whole, what
-- it might have left before, with any bytes in the range.
abbrev pub IsImage : List ℕ → List Call → List ℕ → Type 0
IsImage first [] image = image ≡ first
IsImage first (wrote at bytes ∷ calls) image = (old : List ℕ) × IsImage first calls old × Torn at (length bytes) old image
IsImage first (tore at n shown ∷ calls) image = (old : List ℕ) × IsImage first calls old × Torn at n old image
IsImage first (synced ∷ calls) image = image ≡ read_after first calls
IsImage first (looked ∷ calls) image = IsImage first calls image

-- What a crash may have left at some moment since that one: now, or before the latest call if that is no earlier.
abbrev pub IsImageSince : ℕ → List ℕ → List Call → List ℕ → Type 0
IsImageSince moment first [] image = IsImage first [] image
IsImageSince moment first (call ∷ calls) image = IsImage first (call ∷ calls) image ⊎ ((moment ≤ length calls) × IsImageSince moment first calls image)

-- what a read of the disk gives
abbrev pub shown : DiskRecord → List ℕ
shown d = read_after d.first d.calls

-- the moment, by a clock that each call moves on
abbrev pub moment : DiskRecord → ℕ
moment d = length d.calls

-- what a crash now may leave
abbrev pub MayLeave : DiskRecord → List ℕ → Type 0
MayLeave d image = IsImage d.first d.calls image

-- what a crash at some moment since that one may have left
abbrev pub MayHaveLeft : DiskRecord → ℕ → List ℕ → Type 0
MayHaveLeft d since image = IsImageSince since d.first d.calls image

-- the disk after these calls more
abbrev pub further : List Call → DiskRecord → DiskRecord
further calls d = record d { calls = calls ++ d.calls }

abbrev pub told_further : List Call → Option DiskRecord → Option DiskRecord
told_further calls None = None
told_further calls (Some d) = Some (further calls d)

-- the device after these calls more, as far as it tells
abbrev pub with_calls : List Call → Device DiskRecord → Device DiskRecord
with_calls calls d = record d { told = told_further calls d.told }

-- A failed write of n bytes tore its range, or left no trace.
abbrev pub IsTear : ℕ → ℕ → List Call → Type 0
IsTear at n [] = Unit {0}
IsTear at n (tore a m shown ∷ []) = (a ≡ at) × (m ≡ n)
IsTear at n calls = ⊥

-- Another failed call left nothing but that time went on, or no trace.
abbrev pub IsLook : List Call → Type 0
IsLook [] = Unit {0}
IsLook (looked ∷ []) = Unit {0}
IsLook calls = ⊥

-- One call failed: it left such a trace, and there is one fault more.
abbrev pub Fails : (List Call → Type 0) → Device DiskRecord → Device DiskRecord → Type 0
Fails IsTrace before after = (trace : List Call) × IsTrace trace × (after ≡ failed (with_calls trace before))

-- A call was answered so: it was made; or it failed, and left such a trace.
abbrev pub Makes : {A E : Type 0} → Call → (List Call → Type 0) → Result A E → Device DiskRecord → Device DiskRecord → Type 0
Makes call IsTrace (Ok a) before after = after ≡ with_calls (call ∷ []) before
Makes call IsTrace (Err e) before after = Fails IsTrace before after

abbrev pub Looks : {A E : Type 0} → Result A E → Device DiskRecord → Device DiskRecord → Type 0
Looks result before after = Makes looked IsLook result before after

abbrev pub Writes : {A E : Type 0} → ℕ → List ℕ → Result A E → Device DiskRecord → Device DiskRecord → Type 0
Writes at bytes result before after = Makes (wrote at bytes) (IsTear at (length bytes)) result before after

abbrev pub Syncs : {A E : Type 0} → Result A E → Device DiskRecord → Device DiskRecord → Type 0
Syncs result before after = Makes synced IsLook result before after

-- The length that was answered is that of what a read gives, as far as the disk tells.
abbrev pub IsLength : ℕ → Option DiskRecord → Type 0
IsLength n None = Unit {0}
IsLength n (Some d) = n ≡ length (shown d)

-- At the front of the buffer stand that many of the bytes at the offset, as far as the disk tells.
abbrev pub IsPart : ℕ → ℕ → List ℕ → Option DiskRecord → Type 0
IsPart at count buffer None = Unit {0}
IsPart at count buffer (Some d) = (take count buffer ≡ take count (drop at (shown d))) × (count ≤ length (drop at (shown d)))

-- No bytes stand at the offset, as far as the disk tells.
abbrev pub IsPastEnd : ℕ → Option DiskRecord → Type 0
IsPastEnd at None = Unit {0}
IsPastEnd at (Some d) = length (shown d) ≤ at
