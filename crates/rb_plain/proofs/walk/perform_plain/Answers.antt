-- The remote expressions of each form of a statement.
use Rattle.std.proofs.Common.{rules, refl, sym, ap, ◌∙◌}
use Rattle.rb_trees.specs.mirror.Code.{mirror_stmt}
use Rattle.rb_meaning_flow.specs.Sites.{own}
use Rattle.rb_engine.proofs.Forms.{assign_form, batch_form, for_form, if_form, print_form, run_form, throw_form, try_form, val_form, var_form, while_form}
use Rattle.rb_plain.proofs.Replies.{by_result}
use Rattle.rb_plain.proofs.Stepped.{on_same, skims_none, skims_one, skims_two}
use Rattle.rb_plain.proofs.walk.perform_plain.Goals as goal

pub returns-in_err-perform_in-in-Val-clause-walked : goal.returns-in_err-perform_in-in-Val-clause-walked
returns-in_err-perform_in-in-Val-clause-walked c =
    skims_one c.args.scope.now (mirror_stmt c.args.stmt.now) c.in-Val.e c.args.frame.now c.args.frame.now (ap own (val_form c.args.stmt.now c.in-Val.is))
    (by_result (search rules ∙ sym c.in_err-perform_in-in-Val.was) c.perform_in.ensures) (on_same _ _)

pub returns-in_ok-bind-in-Val-clause-walked : goal.returns-in_ok-bind-in-Val-clause-walked
returns-in_ok-bind-in-Val-clause-walked c =
    skims_one c.args.scope.now (mirror_stmt c.args.stmt.now) c.in-Val.e c.args.frame.now c.args.frame.now (ap own (val_form c.args.stmt.now c.in-Val.is))
    (by_result (sym c.in_ok-perform_in-in-Val.was) c.perform_in.ensures) refl

pub returns-in_err-perform_in-in-Var-clause-walked : goal.returns-in_err-perform_in-in-Var-clause-walked
returns-in_err-perform_in-in-Var-clause-walked c =
    skims_one c.args.scope.now (mirror_stmt c.args.stmt.now) c.in-Var.e c.args.frame.now c.args.frame.now (ap own (var_form c.args.stmt.now c.in-Var.is))
    (by_result (search rules ∙ sym c.in_err-perform_in-in-Var.was) c.perform_in-in-Var.ensures) (on_same _ _)

pub returns-in_ok-bind-in-Var-clause-walked : goal.returns-in_ok-bind-in-Var-clause-walked
returns-in_ok-bind-in-Var-clause-walked c =
    skims_one c.args.scope.now (mirror_stmt c.args.stmt.now) c.in-Var.e c.args.frame.now c.args.frame.now (ap own (var_form c.args.stmt.now c.in-Var.is))
    (by_result (sym c.in_ok-perform_in-in-Var.was) c.perform_in-in-Var.ensures) refl

pub returns-in-Assign-clause-walked : goal.returns-in-Assign-clause-walked
returns-in-Assign-clause-walked c =
    skims_two c.args.scope.now (mirror_stmt c.args.stmt.now) c.in-Assign.a c.in-Assign.b c.args.frame.now c.args.frame.now (ap own (assign_form c.args.stmt.now c.in-Assign.a c.in-Assign.b c.in-Assign.is))
    c.perform_both.ensures (on_same _ _)

pub returns-in-Run-clause-walked : goal.returns-in-Run-clause-walked
returns-in-Run-clause-walked c =
    skims_one c.args.scope.now (mirror_stmt c.args.stmt.now) c.in-Run.e c.args.frame.now c.args.frame.now (ap own (run_form c.args.stmt.now c.in-Run.is))
    c.perform_in-in-Run.ensures (on_same _ _)

pub returns-in-Print-clause-walked : goal.returns-in-Print-clause-walked
returns-in-Print-clause-walked c =
    skims_one c.args.scope.now (mirror_stmt c.args.stmt.now) c.in-Print.e c.args.frame.now c.args.frame.now (ap own (print_form c.args.stmt.now c.in-Print.is))
    c.perform_in-in-Print.ensures (on_same _ _)

pub returns-in-Throw-clause-walked : goal.returns-in-Throw-clause-walked
returns-in-Throw-clause-walked c =
    skims_one c.args.scope.now (mirror_stmt c.args.stmt.now) c.in-Throw.e c.args.frame.now c.args.frame.now (ap own (throw_form c.args.stmt.now c.in-Throw.is))
    c.perform_in-in-Throw.ensures (on_same _ _)

pub returns-in-If-clause-walked : goal.returns-in-If-clause-walked
returns-in-If-clause-walked c =
    skims_one c.args.scope.now (mirror_stmt c.args.stmt.now) c.in-If.e c.args.frame.now c.args.frame.now (ap own (if_form c.args.stmt.now _ _ c.in-If.is))
    c.perform_in-in-If.ensures (on_same _ _)

pub returns-in-While-clause-walked : goal.returns-in-While-clause-walked
returns-in-While-clause-walked c =
    skims_one c.args.scope.now (mirror_stmt c.args.stmt.now) c.in-While.e c.args.frame.now c.args.frame.now (ap own (while_form c.args.stmt.now _ c.in-While.is))
    c.perform_in-in-While.ensures (on_same _ _)

pub returns-in-For-clause-walked : goal.returns-in-For-clause-walked
returns-in-For-clause-walked c =
    skims_one c.args.scope.now (mirror_stmt c.args.stmt.now) c.in-For.e c.args.frame.now c.args.frame.now (ap own (for_form c.args.stmt.now _ c.in-For.is))
    c.perform_in-in-For.ensures (on_same _ _)

pub returns-in-Try-clause-walked : goal.returns-in-Try-clause-walked
returns-in-Try-clause-walked c = skims_none c.args.scope.now (mirror_stmt c.args.stmt.now) c.args.frame.now (ap own (try_form c.args.stmt.now _ _ c.in-Try.is))

pub returns-in-Batch-clause-walked : goal.returns-in-Batch-clause-walked
returns-in-Batch-clause-walked c = skims_none c.args.scope.now (mirror_stmt c.args.stmt.now) c.args.frame.now (ap own (batch_form c.args.stmt.now _ c.in-Batch.is))
