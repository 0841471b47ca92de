use Rattle.rb_meaning_bytes.specs.formats.ScriptMessages.{script_message}
use Rattle.rb_meaning_bytes.specs.formats.Forests.{forest_message}
use Rattle.rb_meaning_bytes.specs.formats.Refusals.{refusal_message}
use Rattle.rb_meaning_bytes.proofs.formats.Payloads.{is_total}
use Rattle.rb_meaning_bytes.proofs.laws.each_payload_is_spelled_or_violated.Goals as goal

pub returns-clause-scripts : goal.returns-clause-scripts
returns-clause-scripts c = is_total script_message

pub returns-clause-forests : goal.returns-clause-forests
returns-clause-forests c = is_total forest_message

pub returns-clause-refusals : goal.returns-clause-refusals
returns-clause-refusals c = is_total refusal_message
