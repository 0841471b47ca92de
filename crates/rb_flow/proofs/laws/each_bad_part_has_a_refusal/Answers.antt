use Rattle.rb_flow.proofs.Refused.{each_bad_part_has_a_refusal}
use Rattle.rb_flow.proofs.laws.each_bad_part_has_a_refusal.Goals as goal

pub returns : goal.returns
returns c = λ p lawful ss batch u h. each_bad_part_has_a_refusal p lawful ss batch u h
