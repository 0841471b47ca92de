-- What the rules decide is what is judged.
use Rattle.rb_fitting_rules.proofs.Judged.{fit_judged, judged_fit, unfit_judged, judged_unfit}
use Rattle.rb_fitting_rules.proofs.rules_agree.Goals as goal

pub returns-clause-fits : goal.returns-clause-fits
returns-clause-fits c = λ lengths n ps. (judged_fit lengths n ps, fit_judged lengths n ps)

pub returns-clause-misfits : goal.returns-clause-misfits
returns-clause-misfits c = λ lengths n ps wrong. (judged_unfit lengths n ps wrong, unfit_judged lengths n ps wrong)
