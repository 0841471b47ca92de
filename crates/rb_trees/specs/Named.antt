-- Lists of things with names: the first of a name, and names with values.
use Rattle.std.specs.Prelude.{ℕ, List, [], ◌∷◌, cond, Option, Some, None, option_map}
use Rattle.std.specs.Str.{bytes_eq}

-- the first item of a list that has a name
abbrev pub first_named : {A : Type 0} → (A → List ℕ) → List A → List ℕ → Option A
first_named name_of [] name = None
first_named name_of (x ∷ xs) name = cond (bytes_eq (name_of x) name) (Some x) (first_named name_of xs name)

-- the first value of a name
abbrev pub lookup : {A : Type 0} → List (List ℕ × A) → List ℕ → Option A
lookup names name = option_map (λ n. n.1) (first_named (λ n. n.0) names name)

-- the names where the first of a name has another value
abbrev pub replaced : {A : Type 0} → List (List ℕ × A) → List ℕ → A → List (List ℕ × A)
replaced [] name value = []
replaced (n ∷ ns) name value = cond (bytes_eq n.0 name) ((n.0, value) ∷ ns) (n ∷ replaced ns name value)
