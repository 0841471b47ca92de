-- What a call that appends leaves of a buffer.
use Rattle.std.specs.Prelude.{◌≡◌, ℕ, List, ◌++◌}

-- The buffer keeps its bytes, and has gained bytes of which this is so.
pub record Appends (So : List ℕ → Type 0) (old new : List ℕ) : Type 0 where
  pub bytes : List ℕ
  pub is_so : So bytes
  pub is : new ≡ old ++ bytes
