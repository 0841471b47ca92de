-- The classes of objects by the numbers that they are written with.
use Rattle.std.specs.Prelude.{◌≡◌, ℕ, List, [], ◌∷◌, Option, Some, None}
use Rattle.rb_trees.specs.mirror.Services.{ObjectText}
use Rattle.rb_meaning_types.specs.Stores.{class_written}

-- what finds a class by number finds that of the first object that is written with it
abbrev pub AreWritten : (ℕ → Option (List ℕ)) → List ObjectText → Type 0
AreWritten class objects = (number : ℕ) → class number ≡ class_written objects number

-- the first of two, where there is one
abbrev pub earlier : Option (List ℕ) → Option (List ℕ) → Option (List ℕ)
earlier None other = other
earlier (Some class) other = Some class

-- one more object, by what found a class before and what finds one now
abbrev pub Adds : ObjectText → (ℕ → Option (List ℕ)) → (ℕ → Option (List ℕ)) → Type 0
Adds o before now = (number : ℕ) → now number ≡ earlier (before number) (class_written (o ∷ []) number)
