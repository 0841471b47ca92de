use Rattle.rb_meaning_bytes.proofs.formats.OnlyScripts.{version_read}
use Rattle.rb_meaning_bytes.proofs.laws.payloads_name_their_version.Goals as goal

pub returns : goal.returns
returns c payload x spelled = version_read payload x spelled
