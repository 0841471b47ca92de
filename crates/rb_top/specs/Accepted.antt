-- Programs that were admitted, and those whose batches are divided, which may be run over a link.
use Rattle.rb_law_division.specs.Sendable.{HasPlaces}
use Rattle.rb_flow.specs.Program.{HasNoRefusal}
use Rattle.rb_client.specs.Runs.{IsAcceptedWith}
use Rattle.rb_top.specs.Sources.{Admitted, admitted_program}
use Rattle.rb_top.specs.Texts.{WithinLength}
use Rattle.rb_top.specs.declared.source.Accepted.{Accepted}

-- The program was admitted: it has no refusal, and each of its places has 32 bits.
pub record IsAdmitted (a : Admitted) : Type 0 where
  pub none : HasNoRefusal (admitted_program a)
  pub places : HasPlaces (admitted_program a)

-- The text is within the limit, and the program is accepted with these divisions.
pub record IsAccepted (x : Accepted) : Type 0 where
  pub short : WithinLength x.text.now
  pub accepted : IsAcceptedWith x.admitted.now.0 x.splits.now
