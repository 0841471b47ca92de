-- Lines that are made piece by piece.
use Rattle.std.proofs.Common.{◌≡◌, ℕ, List, ◌++◌, Result, Ok, Err, ap, ◌∙◌, append_assoc}
use Rattle.std.proofs.lemmas.Grind.{common_steps}
use Rattle.rb_shown.specs.Appends.{Appends}

pub ruleset pieces = (append_assoc, common_steps)

-- a piece that is added after another one
pub appends_next : {X E : Type 0} (r : Result X E) (old mid new a b : List ℕ) → mid ≡ old ++ a → Appends b mid r new → Appends (a ++ b) old r new
appends_next (Ok x) old mid new a b m e = e ∙ ap (λ t. t ++ b) m ∙ append_assoc old a b
appends_next (Err x) old mid new a b m e = tt
