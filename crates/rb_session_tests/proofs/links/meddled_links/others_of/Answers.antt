use Rattle.rb_session_tests.proofs.Bounded.{list_more}
use Rattle.rb_session_tests.proofs.links.meddled_links.others_of.Goals as goal

pub lists-preserved : goal.lists-preserved
lists-preserved c = rw c.in_ok-push.ensures.ok (list_more c.lists.others _ c.lists.invariant c.in_ok-changes_of.ensures)
