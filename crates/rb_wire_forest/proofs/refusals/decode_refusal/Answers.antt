use mir.Facts.{Fits-lt-pow}
use Rattle.rb_wire_forest.specs.Refused.{seen}
use Rattle.rb_wire_forest.proofs.Refused.{is_refusal, only_refusal, no_refusal}
use Rattle.rb_wire_forest.proofs.refusals.decode_refusal.Goals as goal

pub returns-in-Ok-clause-told : goal.returns-in-Ok-clause-told
returns-in-Ok-clause-told c = is_refusal _ (seen c.in-Ok.found) (λ i. Fits-lt-pow (c.type_inv.payload i)) c.in-Ok.ensures

pub returns-in-Ok-clause-only : goal.returns-in-Ok-clause-only
returns-in-Ok-clause-only c n at s = only_refusal _ (seen c.in-Ok.found) n at c.in-Ok.ensures s

pub returns-in-Err-clause-only : goal.returns-in-Err-clause-only
returns-in-Err-clause-only c n at s = absurd (no_refusal _ _ n at c.in-Err.ensures s)
