-- What was taken so far breaks nothing and is no more than a frame.
use Rattle.std.proofs.Common.{◌<◌, ◌≤◌, ◌^◌, ◌∙◌, ap, sym, subst, length, arith, length-append}
use Rattle.std.proofs.lemmas.Result.{err_from_is_err_and}
use Rattle.rb_base.specs.Devices.{device}
use Rattle.rb_session.specs.Receiving.{lacking, HasTaken}
use Rattle.rb_session.proofs.Steps.{begins, goes_on, stops, is_whole}
use Rattle.rb_session.proofs.receiving.take_frame.Goals as goal

pub loop-most-init : goal.loop-most-init
loop-most-init g c =
    let d = device g.S.Source.told g.S.Source.faults c.args.source.now in
    record {
      taken = subst (λ ts. HasTaken ts d d) (sym c.new-taken.ensures.items) (begins d);
      most_is = c.lacking-most.ensures ∙ ap lacking c.as_slice.ensures;
      fits = subst (λ ts. length ts < 2 ^ 64) c.as_slice.ensures c.as_slice.type_inv.0;
    }

pub returns-in_err-take_more-clause-none : goal.returns-in_err-take_more-clause-none
returns-in_err-take_more-clause-none g c =
    let p = err_from_is_err_and c.from_residual.result c.from_residual.ensures.1 in
    let s = stops c.loop-most.most c.loop-most.taken.items c.take_more.new.taken.items c.in_err-take_more.field-0.0 _ _ _ c.loop-most.invariant.most_is c.loop-most-test.true c.loop-most.invariant.taken c.in_err-take_more.ensures in
    rw (p.1, p.2) s

pub loop-most-smaller : goal.loop-most-smaller
loop-most-smaller g c =
    let m = c.in_ok-take_more.ensures in
    let size = ap length m.is ∙ length-append c.loop-most.taken.items m.bytes in
    let old = c.loop-most.invariant.fits in
    let some = m.some in
    omega arith

pub loop-most-preserved : goal.loop-most-preserved
loop-most-preserved g c = record {
  taken = goes_on _ _ _ _ _ _ c.loop-most.invariant.most_is c.loop-most.invariant.taken c.in_ok-take_more.ensures;
  most_is = c.lacking-most-in-loop-most.ensures ∙ ap lacking c.as_slice-in-loop-most.ensures;
  fits = subst (λ ts. length ts < 2 ^ 64) c.as_slice-in-loop-most.ensures c.as_slice-in-loop-most.type_inv.0;
}

pub returns-clause-whole : goal.returns-clause-whole
returns-clause-whole g c =
    is_whole _ _ _ c.loop-most.invariant.taken (subst (λ n. n ≤ 0) c.loop-most.invariant.most_is c.loop-most-test.false)
