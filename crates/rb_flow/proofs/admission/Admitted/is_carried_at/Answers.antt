use Rattle.std.proofs.Common.{ap, ◌∙◌}
use Rattle.rb_trees.specs.mirror.Declarations.{mirror_program}
use Rattle.rb_meaning_flow.specs.Programs.{is_carried_at}
use Rattle.rb_flow.proofs.admission.Admitted.is_carried_at.Goals as goal

pub returns : goal.returns
returns c = c.contains.ensures ∙ c.self.invariant.1 c.args.at ∙ ap (λ v. is_carried_at (mirror_program v.0) c.args.at) c.self.view_is
