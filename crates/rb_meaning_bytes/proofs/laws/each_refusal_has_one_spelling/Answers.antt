use Rattle.rb_meaning_bytes.proofs.formats.ForestsSpelled.{refusal_spelled}
use Rattle.rb_meaning_bytes.proofs.formats.OnlyForests.{refusal_only}
use Rattle.rb_meaning_bytes.proofs.laws.each_refusal_has_one_spelling.Goals as goal

pub returns : goal.returns
returns c = record {
  spelled = refusal_spelled;
  alone = λ bytes x s. (refusal_only.made bytes x s).is;
  good = λ bytes x s. (refusal_only.made bytes x s).fits;
}
