-- Offsets behind a text, whose front is the whole text.
use Rattle.std.proofs.Common.{append_assoc}
use Rattle.std.proofs.lemmas.List.{take_min}
use Rattle.std.proofs.lemmas.Grind.{common_steps}

pub ruleset places = (take_min, append_assoc, common_steps)
