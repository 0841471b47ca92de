-- All remote calls.
use Rattle.rb_law_types.proofs.Served.{calls_keep}
use Rattle.rb_law_types.proofs.remote.remote_calls_keep_tables.Goals as goal

pub returns : goal.returns
returns c = calls_keep
