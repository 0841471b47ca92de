use Rattle.std.proofs.Common.{◌≡◌, ◌++◌, drop}
use Rattle.rb_trees.specs.mirror.Scripts.{mirror_steps}
use Rattle.rb_shown.specs.Views.{shown_steps}
use Rattle.rb_shown.proofs.views.steps.+steps.Given as goal

-- with the steps that are left, the text is that of all steps
abbrev pub invariant-add_steps-loop-step : goal.invariant-add_steps-loop-step
invariant-add_steps-loop-step l =
    l.into ++ shown_steps l.indent (mirror_steps (drop l.step-index l.steps)) ≡ l.initial.into ++ shown_steps l.indent (mirror_steps l.steps)
