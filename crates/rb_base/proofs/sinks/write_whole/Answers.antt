use Rattle.std.proofs.lemmas.Result.{err_from_is_err_and}
use Rattle.rb_base.proofs.Fronts.{HasFront-more, HasFront-stop}
use Rattle.rb_base.proofs.sinks.write_whole.Goals as goal

pub returns-in_err-count : goal.returns-in_err-count
returns-in_err-count g c =
    let p = err_from_is_err_and c.from_residual.result c.from_residual.ensures.1 in
    rw p.1 (HasFront-stop _ _ _ _ _ c.loop-rest.invariant c.in_err-count.ensures.after)

pub loop-rest-preserved : goal.loop-rest-preserved
loop-rest-preserved g c = HasFront-more _ _ _ _ _ _ c.loop-rest.invariant c.in_ok-count.ensures.after
