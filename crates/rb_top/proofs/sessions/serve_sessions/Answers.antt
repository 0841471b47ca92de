use Rattle.std.proofs.Common.{Ok, ap, arith, ◌∙◌}
use Rattle.rb_top.specs.Manners.{hub_manner}
use Rattle.rb_top.specs.Sessions.{none}
use Rattle.rb_top.proofs.Serving.{all_served, cut_serving, fewer_served, may_open, new_is_free, one_so_far, still_free}
use Rattle.rb_top.proofs.sessions.serve_sessions.Goals as goal

pub loop-number-init : goal.loop-number-init
loop-number-init g c = record {
  so_far = none;
  free = new_is_free c.args.hub.now c.requires;
  within = omega arith;
}

pub serve_next-requires : goal.serve_next-requires
serve_next-requires g c = may_open c.loop-number.number c.loop-number.hub c.loop-number.invariant.free (omega arith)

pub loop-number-preserved : goal.loop-number-preserved
loop-number-preserved g c = record {
  so_far = one_so_far (hub_manner g.A.Answers) c.args.hub.now.answers c.loop-number.hub.answers c.serve_next.new.hub.answers _ _ _ _ _ _ c.loop-number.number c.loop-number.invariant.so_far (rw c.in-Ok-true.field-0-test at c.in-Ok-true.ensures.serves);
  free = still_free c.loop-number.number c.loop-number.hub c.serve_next.new.hub c.loop-number.invariant.free (c.serve_next.ensures.leaves (c.in-Ok-true.is ∙ ap Ok c.in-Ok-true.field-0-test));
  within = omega arith;
}

pub returns-in-Ok-false : goal.returns-in-Ok-false
returns-in-Ok-false g c =
    fewer_served (hub_manner g.A.Answers) c.args.hub.now.answers c.loop-number.hub.answers c.serve_next.new.hub.answers c.args.count c.loop-number.number _ _ _ _ _ _ (omega arith) c.loop-number.invariant.so_far (rw c.in-Ok-false.field-0-test at c.in-Ok-false.ensures.serves)

pub returns-in-Err : goal.returns-in-Err
returns-in-Err g c =
    cut_serving (hub_manner g.A.Answers) c.args.hub.now.answers c.loop-number.hub.answers c.serve_next.new.hub.answers c.args.count c.loop-number.number c.in-Err.stop _ _ _ _ _ _ (omega arith) c.loop-number.invariant.so_far c.in-Err.ensures.serves

pub returns : goal.returns
returns g c =
    all_served (hub_manner g.A.Answers) c.args.hub.now.answers c.loop-number.hub.answers c.args.count c.loop-number.number _ _ _ _ (omega arith) c.loop-number.invariant.so_far
