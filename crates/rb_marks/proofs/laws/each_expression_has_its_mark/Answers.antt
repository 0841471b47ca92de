use Rattle.rb_marks.proofs.Law.{each_has_its_mark, no_mark_elsewhere}
use Rattle.rb_marks.proofs.laws.each_expression_has_its_mark.Goals as goal

pub returns-clause-there : goal.returns-clause-there
returns-clause-there c = λ p lawful s h. each_has_its_mark p lawful s h

pub returns-clause-elsewhere : goal.returns-clause-elsewhere
returns-clause-elsewhere c = λ p at absent. no_mark_elsewhere p at absent
