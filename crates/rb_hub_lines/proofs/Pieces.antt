-- Lines that are made piece by piece.
use Rattle.std.proofs.Common.{append_assoc}
use Rattle.std.proofs.lemmas.Grind.{common_steps}

pub ruleset pieces = (append_assoc, common_steps)
