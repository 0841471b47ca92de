use Rattle.std.proofs.lemmas.Result.{err_from_is_err_and}
use Rattle.rb_trees.specs.mirror.Services.{mirror_service}
use Rattle.rb_top.specs.Scene.{output}
use Rattle.rb_top.specs.Sources.{accepted_program}
use Rattle.rb_top.proofs.Differ.{served_classes_differ}
use Rattle.rb_top.proofs.UnsplitRuns.{run_cut, run_ended}
use Rattle.rb_top.proofs.unsplit_run.run_unsplit.Goals as goal

pub make-requires : goal.make-requires
make-requires g c = served_classes_differ (mirror_service c.args.service.now) c.args.table c.requires.typed

pub returns-in_err-run : goal.returns-in_err-run
returns-in_err-run g c =
    let p = err_from_is_err_and c.from_residual-in_err-run.result c.from_residual-in_err-run.ensures.1 in
    rw (p.1, p.2) (run_cut c.args.program.now.text.now c.args.fuel (accepted_program c.args.program.now) c.args.service.now c.in_ok-code.code c.args.table c.no_changes-nobody.result c.in_err-run.field-0.0 (output g.W.Sink c.args.out.now) (output g.W.Sink c.unsplit.new.out) c.in_ok-code.ensures c.no_changes-nobody.ensures c.in_err-run.ensures.written)

pub returns : goal.returns
returns g c =
    run_ended c.args.program.now.text.now c.args.fuel (accepted_program c.args.program.now) c.args.service.now c.in_ok-code.code c.args.table c.no_changes-nobody.result c.in_ok-run.run' c.unsplit.new.table c.print_run_end_with_table.result (output g.W.Sink c.args.out.now) (output g.W.Sink c.unsplit.new.out) (output g.W.Sink c.print_run_end_with_table.new.out) c.in_ok-code.ensures c.no_changes-nobody.ensures
    (c.in_ok-run.ensures.left, c.in_ok-run.ensures.written) c.print_run_end_with_table.ensures
