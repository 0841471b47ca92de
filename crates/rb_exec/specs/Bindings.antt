-- Bindings of variables, the latest first, and the places at which they are found.
use Rattle.std.specs.Prelude.{◌≡◌, ℕ, List, [], ◌∷◌, map, length, cond, nat_eq, nat_lt, Option, None, Some}
use Rattle.rb_meaning_code.specs.ScriptRun.{Vars}
use Rattle.rb_exec.specs.declared.variables.Binding.{Binding}

-- variables with their values, without what the bindings were before
abbrev pub as_variables : List Binding → Vars
as_variables bs = map (λ b. (b.number, b.value)) bs

-- The places lead to the latest binding of each variable, and would without it to the one before. A binding's place is the
-- number of bindings that are older.
abbrev pub Guides : (ℕ → Option ℕ) → List Binding → Type 0
Guides places [] = (number : ℕ) → places number ≡ None
Guides places (b ∷ bs) = (places b.number ≡ Some (length bs)) × Guides (λ number. cond (nat_eq b.number number) b.before (places number)) bs

-- The places with that of one variable set.
abbrev pub Sets : ℕ → Option ℕ → (ℕ → Option ℕ) → (ℕ → Option ℕ) → Type 0
Sets number place old new = (n : ℕ) → new n ≡ cond (nat_eq number n) place (old n)

-- the variable of the latest binding, and the place of its binding before
abbrev pub latest_binding : List Binding → Option (ℕ × Option ℕ)
latest_binding [] = None
latest_binding (b ∷ bs) = Some (b.number, b.before)

-- the oldest so many bindings
abbrev pub oldest : ℕ → Vars → Vars
oldest count [] = []
oldest count (b ∷ bs) = cond (nat_lt (length bs) count) (b ∷ bs) (oldest count bs)

-- without the latest binding
abbrev pub without_latest : Vars → Vars
without_latest [] = []
without_latest (b ∷ bs) = bs
