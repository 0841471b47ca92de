-- All scripts.
use Rattle.rb_law_types.proofs.ScriptRuns.{scripts_keep}
use Rattle.rb_law_types.proofs.scripts.scripts_keep_tables.Goals as goal

pub returns : goal.returns
returns c = scripts_keep
