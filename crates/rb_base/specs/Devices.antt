-- Devices of the outside: what each tells, and how many of its calls failed.
use Rattle.std.specs.Prelude.{ℕ, Option}
use Rattle.rb_base.specs.Counts.{risen}

-- what a device tells, where it tells anything, and the count of its faults
pub record Device (T : Type 0) : Type 0 where
  pub told : Option T
  pub faults : ℕ

-- an object of the outside, as its trait's members see it
abbrev pub device : {D T : Type 0} → (D → Option T) → (D → ℕ) → D → Device T
device told faults d = record { told = told d; faults = faults d }

-- the device after a call of it failed: one fault more
abbrev pub failed : {T : Type 0} → Device T → Device T
failed d = record d { faults = risen d.faults }
