-- What a call adds to the end of a text.
use Rattle.std.specs.Prelude.{◌≡◌, ℕ, List, ◌++◌, Result, OnOk}

-- Where the call succeeds, it added these bytes to the end.
abbrev pub Appends : {X E : Type 0} → List ℕ → List ℕ → Result X E → List ℕ → Type 0
Appends bytes old result new = OnOk result (new ≡ old ++ bytes)
