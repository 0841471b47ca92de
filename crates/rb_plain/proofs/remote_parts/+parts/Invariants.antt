use Rattle.std.proofs.Common.{◌+◌, max}
use Rattle.rb_plain.proofs.Looked.{LeadsOn}
use Rattle.rb_plain.proofs.Weight.{weight_of, weights_of}
use Rattle.rb_plain.proofs.remote_parts.+parts.Given as goal

abbrev pub decreases-perform_in : goal.decreases-perform_in
decreases-perform_in l = weight_of l.expr.now + 1

abbrev pub decreases-perform_parts : goal.decreases-perform_parts
decreases-perform_parts l = weight_of l.expr.now

abbrev pub decreases-perform_both : goal.decreases-perform_both
decreases-perform_both l = max (weight_of l.a.now) (weight_of l.b.now) + 2

abbrev pub decreases-perform_sent : goal.decreases-perform_sent
decreases-perform_sent l = max (weight_of l.receiver.now) (weights_of l.args.now) + 3

abbrev pub decreases-perform_in_all : goal.decreases-perform_in_all
decreases-perform_in_all l = weights_of l.exprs.now + 2

abbrev pub invariant-perform_in_all-exprs : goal.invariant-perform_in_all-exprs
invariant-perform_in_all-exprs l = LeadsOn l.scope l.exprs l.frame l.fn.world l.expr-index l.world
