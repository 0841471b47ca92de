use Rattle.std.proofs.lemmas.Result.{err_from_is_err_and}
use Rattle.rb_top.specs.Printing.{objects_line, run_end_text}
use Rattle.rb_top.proofs.Printed.{stops_next}
use Rattle.rb_top.proofs.printing.print_run_end_with_count.Goals as goal

pub returns-in_err-print_count : goal.returns-in_err-print_count
returns-in_err-print_count g c =
    let p = err_from_is_err_and c.from_residual-in_err-print_count.result c.from_residual-in_err-print_count.ensures.1 in
    let ended = run_end_text c.args.source.now c.args.run.ending c.args.run.exchanges in
    rw (p.1, p.2) (stops_next c.in_err-print_count.field-0.0 _ _ _ ended (objects_line c.args.table.now) c.in_ok-status.ensures.1 c.in_err-print_count.ensures)
