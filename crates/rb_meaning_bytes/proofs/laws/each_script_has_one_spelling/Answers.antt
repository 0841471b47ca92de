use Rattle.rb_meaning_bytes.proofs.formats.ScriptsSpelled.{script_spelled}
use Rattle.rb_meaning_bytes.proofs.formats.OnlyScripts.{script_only}
use Rattle.rb_meaning_bytes.proofs.laws.each_script_has_one_spelling.Goals as goal

pub returns : goal.returns
returns c = record {
  spelled = script_spelled;
  alone = λ bytes x s. (script_only.made bytes x s).is;
  good = λ bytes x s. (script_only.made bytes x s).fits;
}
