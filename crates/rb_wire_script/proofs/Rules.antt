-- The rules by which validity is checked with an index.
use Rattle.std.proofs.Common.{append_assoc, append-nil}
use Rattle.std.proofs.Math.Seq.{take-append_seam}
use Rattle.std.proofs.lemmas.Grind.{common_steps}
use Rattle.rb_trees.proofs.mirror.Steps.{steps as mirrored_steps}
use Rattle.rb_trees.proofs.rules.Refusals.{repeats, first-append_ok, first-append_err}

pub ruleset steps = (repeats, mirrored_steps, first-append_ok, first-append_err, take-append_seam, append_assoc, append-nil, common_steps)
