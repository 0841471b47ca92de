use Rattle.rb_meaning_bytes.specs.formats.ScriptMessages.{script_message}
use Rattle.rb_meaning_bytes.specs.formats.Forests.{forest_message}
use Rattle.rb_meaning_bytes.specs.formats.Refusals.{refusal_message}
use Rattle.rb_meaning_bytes.proofs.formats.Payloads.{is_prefix_free}
use Rattle.rb_meaning_bytes.proofs.laws.no_spelling_begins_another.Goals as goal

pub returns-clause-scripts : goal.returns-clause-scripts
returns-clause-scripts c = is_prefix_free script_message

pub returns-clause-forests : goal.returns-clause-forests
returns-clause-forests c = is_prefix_free forest_message

pub returns-clause-refusals : goal.returns-clause-refusals
returns-clause-refusals c = is_prefix_free refusal_message
