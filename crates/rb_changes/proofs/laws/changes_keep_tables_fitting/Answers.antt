-- The law holds by induction on the changes.
use Rattle.rb_changes.proofs.Fitting.{all_keep}
use Rattle.rb_changes.proofs.laws.changes_keep_tables_fitting.Goals as goal

pub returns : goal.returns
returns c = all_keep
