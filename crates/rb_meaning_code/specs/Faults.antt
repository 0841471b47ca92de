-- Faults: why code ends early. Each has a code and a name; only Thrown keeps a text.
use Rattle.std.specs.Prelude.{ℕ, ◌==◌, ◌-◌, List, [], ◌∷◌, Bool, true, false, cond, Option, None, Some, Result, Ok, Err, codes, slice_get}
use Rattle.rb_trees.specs.declared.values.Fault.{Fault}
use Rattle.rb_trees.specs.declared.outcomes.Raised.{Raised}

abbrev pub plain_fault : ℕ → Fault
plain_fault code = record { code = code; text = [] }

-- a quotient or remainder by 0
abbrev pub division_by_zero : Fault
division_by_zero = plain_fault 1

-- no item of the list has this index
abbrev pub index_outside : Fault
index_outside = plain_fault 2

-- a joined text would be too long
abbrev pub text_too_long : Fault
text_too_long = plain_fault 3

-- a list would have too many items
abbrev pub list_too_long : Fault
list_too_long = plain_fault 4

-- no room for a new object on this side
abbrev pub heap_full : Fault
heap_full = plain_fault 5

-- a call of a method inside of too many others on this side
abbrev pub too_deep : Fault
too_deep = plain_fault 6

-- all fuel is spent where a further unit is wanted
abbrev pub fuel_used : Fault
fuel_used = plain_fault 7

-- code threw this text
abbrev pub thrown : List ℕ → Fault
thrown text = record { code = 8; text = text }

-- a remote call finds no object, or no method of its name there
abbrev pub no_method : Fault
no_method = plain_fault 9

-- a remote call brings arguments that are too few or too many, or of other types than the parameters
abbrev pub bad_arguments : Fault
bad_arguments = plain_fault 10

-- what a remote call gives has another kind than its interface promises
abbrev pub wrong_kind : Fault
wrong_kind = plain_fault 11

-- something has a kind that is of no use there, or is missing
abbrev pub kind : Fault
kind = plain_fault 12

-- the lists that a batch would send have too many items together
abbrev pub input_too_large : Fault
input_too_large = plain_fault 13

-- the names of the faults, by their codes from 1
abbrev pub fault_names : List (List ℕ)
fault_names =
    codes "DivZero" ∷ codes "Index" ∷ codes "TextTooLong" ∷ codes "ListTooLong" ∷ codes "HeapFull" ∷ codes "TooDeep" ∷ codes "FuelUsed"
    ∷ codes "Thrown" ∷ codes "NoMethod" ∷ codes "BadArguments" ∷ codes "WrongKind" ∷ codes "Kind"
    ∷ codes "InputTooLarge" ∷ []

abbrev pub name_or_nothing : Option (List ℕ) → List ℕ
name_or_nothing (Some name) = name
name_or_nothing None = []

abbrev pub fault_name : Fault → List ℕ
fault_name f = name_or_nothing (slice_get fault_names (f.code - 1))

-- what a `catch` binds: the text that was thrown, or the fault's name
abbrev pub caught_text : Fault → List ℕ
caught_text f = cond (f.code == 8) f.text (fault_name f)

-- a fault at a position, of this side
abbrev pub raised : Fault → ℕ → Raised
raised fault at = record { fault = fault; at = at; remote = false }

-- a fault at a position, of a remote operation
abbrev pub raised_remotely : Fault → ℕ → Raised
raised_remotely fault at = record { fault = fault; at = at; remote = true }

-- a value, or the fault at a position
abbrev pub raises : {A : Type 0} → ℕ → Result A Fault → Result A Raised
raises at (Ok a) = Ok a
raises at (Err fault) = Err (raised fault at)

-- Code catches each fault but the want of its own side's fuel.
abbrev pub is_caught : Raised → Bool
is_caught r = cond r.remote true (cond (r.fault.code == 7) false true)
