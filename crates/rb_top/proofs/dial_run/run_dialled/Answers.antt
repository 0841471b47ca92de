use Rattle.std.proofs.Common.{ap, inr, refl, subst, sym, ◌∙◌}
use Rattle.rb_session.specs.Dials.{HasOneOut, after_back}
use Rattle.rb_top.specs.DialRuns.{not_dialled, ran_over_link, starved_dialling}
use Rattle.rb_top.proofs.LinkRuns.{dialled_is_out}
use Rattle.rb_top.proofs.dial_run.run_dialled.Goals as goal

pub back-requires : goal.back-requires
back-requires g c = subst HasOneOut (sym (ap (λ d. d.told) c.in-Ok.ensures.after)) (dialled_is_out c.args.target.now c.in-Ok.link (g.D.Dial.told c.args.dial.now))

pub returns-in-Ok : goal.returns-in-Ok
returns-in-Ok g c =
    ran_over_link c.in-Ok.link c.run_over_link-status.new.link c.in-Ok.ensures.takes c.in-Ok.ensures.dialled c.run_over_link-status.ensures
    (c.back.ensures.after ∙ ap (after_back g.D.L.Link c.run_over_link-status.new.link) c.in-Ok.ensures.after)

pub returns-in-Err-Failed : goal.returns-in-Err-Failed
returns-in-Err-Failed g c = not_dialled (rw c.in-Err-Failed.field-0-is at c.in-Err-Failed.ensures.takes) c.say.ensures (rw c.in-Err-Failed.field-0-is at c.in-Err-Failed.ensures.after)

pub returns-in-Err-Memory : goal.returns-in-Err-Memory
returns-in-Err-Memory g c = starved_dialling refl (inr (rw c.in-Err-Memory.field-0-is at c.in-Err-Memory.ensures.after)) refl
