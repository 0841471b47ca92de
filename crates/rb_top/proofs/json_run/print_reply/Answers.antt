use Rattle.std.proofs.Common.{◌++◌, ◌∙◌, subst}
use Rattle.std.proofs.lemmas.Result.{err_from_is_err_and}
use Rattle.rb_base.specs.Sinks.{WrotePrefix}
use Rattle.rb_meaning.specs.Shown.{shown_table}
use Rattle.rb_top.specs.Printing.{Prints, stopped}
use Rattle.rb_top.specs.Scene.{output}
use Rattle.rb_top.proofs.Printed.{prints_next, stops_first}
use Rattle.rb_top.proofs.json_run.print_reply.Goals as goal

pub returns-in_err-print_text : goal.returns-in_err-print_text
returns-in_err-print_text g c =
    let p = err_from_is_err_and c.from_residual-in_err-print_text.result c.from_residual-in_err-print_text.ensures.1 in
    let is = c.as_slice.ensures ∙ c.in_ok-push.ensures.ok in
    rw (p.1, p.2)
    (subst (λ t. WrotePrefix (stopped c.in_err-print_text.field-0.0 (output g.W.Sink c.args.out.now)) (output g.W.Sink c.print_text.new.out) (t ++ shown_table 0 c.args.table.now)) is
    (stops_first c.in_err-print_text.field-0.0 (output g.W.Sink c.args.out.now) (output g.W.Sink c.print_text.new.out) c.as_slice.result.now (shown_table 0 c.args.table.now) c.in_err-print_text.ensures))

pub returns : goal.returns
returns g c =
    let is = c.as_slice.ensures ∙ c.in_ok-push.ensures.ok in
    subst (λ t. Prints (t ++ shown_table 0 c.args.table.now) c.print_objects.result (output g.W.Sink c.args.out.now) (output g.W.Sink c.print_objects.new.out)) is
    (prints_next c.print_objects.result (output g.W.Sink c.args.out.now) (output g.W.Sink c.print_text.new.out) (output g.W.Sink c.print_objects.new.out) c.as_slice.result.now (shown_table 0 c.args.table.now)
    c.in_ok-print_text.ensures c.print_objects.ensures)
