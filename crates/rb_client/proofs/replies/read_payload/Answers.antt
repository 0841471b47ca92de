-- What is no forest is a refusal.
use Rattle.std.proofs.Common.{arith, inl, inr, sym, subst}
use Rattle.rb_base.specs.Links.{IsReplyKind}
use Rattle.rb_client.specs.Demands.{Demand, demanded}
use Rattle.rb_client.specs.Replies.{Reads}
use Rattle.rb_client.proofs.replies.read_payload.Goals as goal

pub returns : goal.returns
returns c = by c.requires
  where
    wanted : Demand
    wanted = demanded c.args.remainder.now c.args.lengths.now

    by : IsReplyKind c.args.kind → Reads wanted c.args.kind c.args.payload.now c.read_refusal.result
    by (inl e) = absurd (omega (arith, e, c.if-kind-eq-FOREST.false))
    by (inr e) = subst (λ kind. Reads wanted kind c.args.payload.now c.read_refusal.result) (sym e) (c.read_refusal.ensures wanted)
