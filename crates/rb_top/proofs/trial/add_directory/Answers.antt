use Rattle.std.proofs.Common.{◌++◌, ap, append_assoc, ◌∙◌}
use Rattle.std.specs.Prelude.{codes}
use Rattle.rb_top.specs.Trials.{trial_references}
use Rattle.rb_top.proofs.Lines.{appends_next}
use Rattle.rb_top.proofs.trial.add_directory.Goals as goal

pub returns : goal.returns
returns c =
    let head = codes "object 0: Dir { list = [" in
    let list = trial_references c.args.count in
    appends_next c.extend_from_slice-2.result c.args.into.now _ c.extend_from_slice-2.new.self (head ++ list) (codes "]; }\n")
    (c.in_ok-add_references.ensures ∙ ap (λ t. t ++ list) c.in_ok-extend_from_slice.ensures.ok ∙ append_assoc c.args.into.now head list) c.extend_from_slice-2.ensures.ok
