use Rattle.std.proofs.lemmas.Result.{err_from_is_err_and}
use Rattle.rb_top.proofs.Printed.{line_failed, line_written, split_so}
use Rattle.rb_top.proofs.printing.write_lines.Goals as goal

pub returns-in_err-write_whole : goal.returns-in_err-write_whole
returns-in_err-write_whole g c =
    let p = err_from_is_err_and c.from_residual.result c.from_residual.ensures.1 in
    rw p.1 (line_failed _ _ _ c.args.text.now c.loop-rest.rest.now c.split_at.result.0.now c.split_at.result.1.now c.loop-rest.invariant (split_so c.first_line_length.result _ _ _ c.split_at.ensures.front c.split_at.ensures.back) c.in_err-write_whole.ensures)

pub loop-rest-preserved : goal.loop-rest-preserved
loop-rest-preserved g c =
    line_written _ _ _ c.args.text.now c.loop-rest.rest.now c.split_at.result.0.now c.split_at.result.1.now c.loop-rest.invariant (split_so c.first_line_length.result _ _ _ c.split_at.ensures.front c.split_at.ensures.back) c.in_ok-write_whole.ensures
