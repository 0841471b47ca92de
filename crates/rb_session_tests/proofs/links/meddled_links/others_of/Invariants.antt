use Rattle.rb_meaning.specs.Changes.{AllBounded}
use Rattle.rb_session_tests.proofs.links.meddled_links.others_of.Given as goal

abbrev pub invariant-lists : goal.invariant-lists
invariant-lists l = AllBounded l.others
