use Rattle.rb_meaning_bytes.specs.formats.ScriptMessages.{script_message}
use Rattle.rb_meaning_bytes.specs.formats.Forests.{forest_message}
use Rattle.rb_meaning_bytes.specs.formats.Refusals.{refusal_message}
use Rattle.rb_meaning_bytes.proofs.formats.Payloads.{has_one_violation}
use Rattle.rb_meaning_bytes.proofs.laws.payloads_have_one_violation.Goals as goal

pub returns-clause-scripts : goal.returns-clause-scripts
returns-clause-scripts c = has_one_violation script_message

pub returns-clause-forests : goal.returns-clause-forests
returns-clause-forests c = has_one_violation forest_message

pub returns-clause-refusals : goal.returns-clause-refusals
returns-clause-refusals c = has_one_violation refusal_message
