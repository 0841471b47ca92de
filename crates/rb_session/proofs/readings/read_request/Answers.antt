-- What was decoded is what the payload comes to.
use Rattle.std.proofs.Common.{refl, sym, ap, ◌∙◌, subst}
use Rattle.std.specs.Prelude.{Ok}
use Rattle.rb_meaning_bytes.specs.formats.ScriptPayloads.{Means}
use Rattle.rb_session.specs.Readings.{sent_of}
use Rattle.rb_session.proofs.readings.read_request.Goals as goal

pub returns-in-Ok-clause-reads : goal.returns-in-Ok-clause-reads
returns-in-Ok-clause-reads c = (subst (λ p. Means c.args.payload.now (Ok (sent_of p))) (sym c.ready_of.ensures) c.in-Ok.ensures.told, refl)

pub returns-in-Ok-clause-alone : goal.returns-in-Ok-clause-alone
returns-in-Ok-clause-alone c meant means = c.in-Ok.ensures.alone meant means ∙ ap (λ p. Ok (sent_of p)) (sym c.ready_of.ensures)
