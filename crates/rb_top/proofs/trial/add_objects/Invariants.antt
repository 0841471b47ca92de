use Rattle.std.proofs.Common.{◌≡◌, ◌++◌}
use Rattle.rb_top.specs.Trials.{trial_objects}
use Rattle.rb_top.proofs.trial.add_objects.Given as goal

-- the files so far were added
abbrev pub invariant-loop-others : goal.invariant-loop-others
invariant-loop-others l = l.into ≡ l.initial.into ++ trial_objects l.others
