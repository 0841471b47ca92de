use Rattle.rb_flow.proofs.Sent.{admitted_send_portable}
use Rattle.rb_flow.proofs.laws.admitted_programs_send_only_portable_parts.Goals as goal

pub returns : goal.returns
returns c = λ p lawful none ss batch. admitted_send_portable p lawful none ss batch
