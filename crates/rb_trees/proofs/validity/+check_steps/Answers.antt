use Rattle.std.proofs.Common.{◌+◌, sym, ◌∙◌, refl, arith, rules, drop}
use Rattle.std.proofs.lemmas.Grind.{common_steps}
use Rattle.rb_trees.specs.mirror.Scripts.{mirror_script}
use Rattle.rb_trees.specs.Validity.{inputs_of}
use Rattle.rb_trees.specs.Scopes.{seen, bound}
use Rattle.rb_trees.proofs.rules.Blocks.{if_gives, each_gives, over_gives, fails_in, in_block, in_own, in_second, in_turn}
use Rattle.rb_trees.proofs.validity.+check_steps.Goals as goal

pub check_block-returns-in_err-check_step : goal.check_block-returns-in_err-check_step
check_block-returns-in_err-check_step t c =
    fails_in (inputs_of (mirror_script c.args.script.now)) c.args.depth _ _ (drop c.loop-i.i c.args.steps.now) (drop (c.loop-i.i + 1) c.args.steps.now) c.index-steps-i.result _ _ _
    (grind (arith, common_steps)) (search rules) (sym c.in_err-check_step.was ∙ c.check_step.ensures ∙ in_block _ _ _ _ _) c.loop-i.invariant

pub check_form-returns-in_ok-check_block-in-If : goal.check_form-returns-in_ok-check_block-in-If
check_form-returns-in_ok-check_block-in-If t c =
    c.check_block-in-If.ensures ∙ in_second _ _ _ _ _ _ _ refl
    ∙ sym (if_gives (inputs_of (mirror_script c.args.script.now)) c.args.depth (seen c.args.scope.now) (bound c.args.scope.now) c.args.step.now _ _ _ c.in-If.is c.requires
    (sym c.in_ok-check_depth-in-If.ensures.value) (sym c.in_ok-check_whole-in-If.ensures)
    c.as_slice.result.now c.as_slice-in-If.result.now c.as_slice-in-If-2.result.now c.as_slice.ensures c.as_slice-in-If.ensures c.as_slice-in-If-2.ensures
    (sym (c.in_ok-check_block-in-If.ensures ∙ in_own _ _ _ _ _)))

pub check_form-returns-in_ok-check_whole-in-Each : goal.check_form-returns-in_ok-check_whole-in-Each
check_form-returns-in_ok-check_whole-in-Each t c =
    c.check_block-in-Each.ensures ∙ in_turn _ _ _ _ _ _ _ refl
    ∙ sym (each_gives (inputs_of (mirror_script c.args.script.now)) c.args.depth (seen c.args.scope.now) (bound c.args.scope.now) c.args.step.now _ _ _ _ c.in-Each.is c.requires
    (sym c.in_ok-check_depth-in-Each.ensures.value) (sym c.in_ok-check_whole-in-Each.ensures) c.as_slice-in-Each.result.now c.as_slice-in-Each.ensures)

pub check_form-returns-in_ok-check_list-in-Over : goal.check_form-returns-in_ok-check_list-in-Over
check_form-returns-in_ok-check_list-in-Over t c =
    c.check_block-in-Over.ensures ∙ in_turn _ _ _ _ _ _ _ refl
    ∙ sym (over_gives (inputs_of (mirror_script c.args.script.now)) c.args.depth (seen c.args.scope.now) (bound c.args.scope.now) c.args.step.now _ _ _ c.in-Over.is c.requires
    (sym c.in_ok-check_depth-in-Over.ensures.value) (sym c.in_ok-check_list-in-Over.ensures) c.as_slice-in-Over.result.now c.as_slice-in-Over.ensures)
