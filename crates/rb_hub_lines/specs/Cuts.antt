-- A text that is cut at the first byte of some value.
use Rattle.std.specs.Prelude.{◌≡◌, ◌==◌, ℕ, Bool, true, false, if◌then◌else◌, List, [], ◌∷◌, ◌++◌, Option, None, Some}
use Rattle.std.specs.Borrow.{Bor}

-- whether no byte of the text has this value
abbrev pub lacks : ℕ → List ℕ → Bool
lacks byte [] = true
lacks byte (c ∷ text) = if c == byte then false else lacks byte text

-- The text is cut at the first byte of this value; or it lacks such a byte.
pub record IsCutAt (byte : ℕ) (text front rest : List ℕ) : Type 0 where
  pub is : text ≡ front ++ byte ∷ rest
  pub first : lacks byte front ≡ true

abbrev pub CutsAt : ℕ → List ℕ → Option (Bor (List ℕ) × Bor (List ℕ)) → Type 0
CutsAt byte text None = lacks byte text ≡ true
CutsAt byte text (Some parts) = IsCutAt byte text parts.0.now parts.1.now
