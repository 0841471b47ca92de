use Rattle.rb_meaning.specs.Changes.{AreBounded}
use Rattle.rb_session_tests.proofs.links.meddled_links.changes_of.Given as goal

abbrev pub invariant-rows : goal.invariant-rows
invariant-rows l = AreBounded l.changes
