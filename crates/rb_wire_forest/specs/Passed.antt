-- What reading leaves, without the value that was read.
use Rattle.std.specs.Prelude.{ℕ, List, Bool, true, false, Result, Ok, Err}
use Rattle.rb_meaning_bytes.specs.formats.Reading.{Fault, Read}

abbrev pub behind : {A : Type 0} → Read A → Result (List ℕ) Fault
behind (Ok x) = Ok x.1
behind (Err e) = Err e

abbrev pub behind_all : {A : Type 0} → Result A Fault → Result (Unit {0}) Fault
behind_all (Ok x) = Ok tt
behind_all (Err e) = Err e

abbrev pub is_read : {A : Type 0} → Result A Fault → Bool
is_read (Ok x) = true
is_read (Err e) = false

-- .. and whether this is so of the value
abbrev pub tested : {A : Type 0} → (A → Bool) → Read A → Read Bool
tested test (Ok x) = Ok (test x.0, x.1)
tested test (Err e) = Err e
