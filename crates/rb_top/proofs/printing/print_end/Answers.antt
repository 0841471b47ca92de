use Rattle.std.proofs.lemmas.Result.{err_from_is_err_and}
use Rattle.std.proofs.Common.{◌++◌}
use Rattle.std.specs.Prelude.{codes}
use Rattle.std.specs.Fmt.{decimal}
use Rattle.rb_meaning.specs.Shown.{line, shown_ending}
use Rattle.rb_top.proofs.Printed.{stops_first, prints_next}
use Rattle.rb_top.proofs.printing.print_end.Goals as goal

pub returns-in_err-print_ending : goal.returns-in_err-print_ending
returns-in_err-print_ending g c =
    let p = err_from_is_err_and c.from_residual.result c.from_residual.ensures.1 in
    let ended = line (shown_ending c.args.source.now c.args.ending.now) in
    let count = line (codes "exchanges " ++ decimal c.args.exchanges) in
    rw (p.1, p.2) (stops_first c.in_err-print_ending.field-0.0 _ _ ended count c.in_err-print_ending.ensures)

pub returns : goal.returns
returns g c =
    let ended = line (shown_ending c.args.source.now c.args.ending.now) in
    let count = line (codes "exchanges " ++ decimal c.args.exchanges) in
    prints_next _ _ _ _ ended count c.in_ok-print_ending.ensures c.print_exchanges.ensures
