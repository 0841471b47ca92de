use Rattle.std.proofs.Common.{◌≡◌, ◌++◌}
use Rattle.rb_top.specs.Trials.{trial_references}
use Rattle.rb_top.proofs.trial.add_references.Given as goal

-- the files so far stand in the list
abbrev pub invariant-loop-others : goal.invariant-loop-others
invariant-loop-others l = l.into ≡ l.initial.into ++ trial_references l.others
