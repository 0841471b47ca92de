use Rattle.std.proofs.Common.{◌∙◌, ap, subst}
use Rattle.rb_shown.specs.Appends.{Appends}
use Rattle.rb_top.specs.Trials.{sized_object}
use Rattle.rb_top.proofs.trial.add_object.Goals as goal

pub returns : goal.returns
returns c =
    subst (λ t. Appends t c.args.into.now c.extend_from_slice.result c.extend_from_slice.new.self)
    (c.as_bytes.ensures.value ∙ c.in_ok-text.ensures.ok ∙ ap (sized_object c.args.number) c.trial_size-size.ensures) c.extend_from_slice.ensures.ok
