-- The entry of the value, or none.
use Rattle.std.proofs.Common.{ap}
use Rattle.std.specs.Option.{option_copied}
use Rattle.rb_exec.proofs.Entries.{first_none}
use Rattle.rb_exec.proofs.nodes.put_first.Goals as goal

pub returns-in-None-clause-ok : goal.returns-in-None-clause-ok
returns-in-None-clause-ok c = first_none _ _ (ap option_copied c.in-None.is)
