-- Look-ups that find something.
use Rattle.std.proofs.Common.{◌≡◌, refl, ap}
use Rattle.std.specs.Prelude.{Option, None, Some, Result, Err, IsSome}
use Rattle.std.proofs.lemmas.Grind.{common_steps}
use Rattle.rb_trees.specs.Outcome.{known, ◌>>=◌}

-- what was found doesn't matter where it isn't used
pub known_found : {A B D : Type 0} (d : D) (o : Option A) (b : Result B D) → IsSome o → (known d o >>= λ x. b) ≡ b
known_found d None b h = absurd (cc h)
known_found d (Some x) b h = refl

pub known_missing : {A B D : Type 0} (d : D) (o : Option A) (b : Result B D) → o ≡ None → (known d o >>= λ x. b) ≡ Err d
known_missing d o b e = ap (λ p. known d p >>= λ x. b) e

pub ruleset known_steps = (known_found, known_missing, common_steps)
