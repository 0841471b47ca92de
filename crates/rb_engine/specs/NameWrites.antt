-- Writes to names: what is answered, and what is left.
use Rattle.std.specs.Prelude.{◌≡◌, ℕ, List, None, Result, Ok, Err, IsSome}
use Rattle.rb_trees.specs.Named.{lookup, replaced}

-- There is such a name, whose first value this is now; or there isn't, and the value is handed back.
abbrev pub Replaces : {A : Type 0} → List (List ℕ × A) → List ℕ → A → Result (Unit {0}) A → List (List ℕ × A) → Type 0
Replaces before name value (Ok u) after = IsSome (lookup before name) × (after ≡ replaced before name value)
Replaces before name value (Err back) after = (lookup before name ≡ None) × (back ≡ value) × (after ≡ before)
