-- By what the batches of an admitted program send.
use Rattle.rb_law_division.proofs.Sent.{sent}
use Rattle.rb_law_division.proofs.divided_scripts_can_be_sent.Goals as goal

pub returns : goal.returns
returns c = sent c.admitted_programs_send_only_portable_parts.ensures
