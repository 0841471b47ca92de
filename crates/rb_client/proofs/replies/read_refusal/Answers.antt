-- What spells no refusal is garbled.
use Rattle.std.proofs.Common.{refl}
use Rattle.rb_client.proofs.Traded.{refusal_no_node}
use Rattle.rb_client.proofs.replies.read_refusal.Goals as goal

pub returns-in-None : goal.returns-in-None
returns-in-None c = λ demand. (
  (refl, λ number at r. let e = c.in-None.ensures.only number at r in absurd (cc (e))),
  refusal_no_node demand c.args.payload.now,
)
