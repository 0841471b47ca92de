use Rattle.rb_meaning_bytes.proofs.formats.ValidScripts.{valid_within}
use Rattle.rb_meaning_bytes.proofs.laws.valid_scripts_are_within_limits.Goals as goal

pub returns : goal.returns
returns c script h = valid_within script h
