use Rattle.rb_marks.proofs.InScript.{remote_in_script}
use Rattle.rb_marks.proofs.laws.remote_expressions_stand_in_the_script.Goals as goal

pub returns : goal.returns
returns c = λ p none s h mark. remote_in_script p none s h mark
