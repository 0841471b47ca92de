use Rattle.rb_meaning_bytes.proofs.formats.ForestsSpelled.{forest_spelled}
use Rattle.rb_meaning_bytes.proofs.formats.OnlyForests.{forest_only}
use Rattle.rb_meaning_bytes.proofs.laws.each_forest_has_one_spelling.Goals as goal

pub returns : goal.returns
returns c version = record {
  spelled = forest_spelled version;
  alone = λ bytes x s. ((forest_only version).made bytes x s).is;
  good = λ bytes x s. ((forest_only version).made bytes x s).fits;
}
