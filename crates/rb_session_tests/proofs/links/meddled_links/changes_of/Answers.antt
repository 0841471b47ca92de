use Rattle.rb_session_tests.proofs.Bounded.{one_more}
use Rattle.rb_session_tests.proofs.links.meddled_links.changes_of.Goals as goal

pub rows-preserved : goal.rows-preserved
rows-preserved c = rw c.in_ok-push.ensures.ok (one_more c.rows.changes _ c.rows.invariant c.in_ok-value.ensures)
