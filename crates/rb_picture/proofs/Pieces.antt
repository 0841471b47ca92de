-- Pieces that are added one behind the other.
use Rattle.std.proofs.Common.{append_assoc, append-nil}
use Rattle.std.proofs.lemmas.Grind.{common_steps}

pub ruleset pieces = (append_assoc, append-nil, common_steps)
