use Rattle.std.proofs.Common.{◌≤◌, ◌+◌, length}
use Rattle.rb_flow.specs.Levels.{Searched, Serves, bucket, zeros}
use Rattle.rb_flow.proofs.levels.levels_of.Given as goal

abbrev pub invariant-levels : goal.invariant-levels
invariant-levels l = record {
  searched : Searched l.writers l.levels.items l.frontier.items l.level;
  positive : 1 ≤ l.level;
  serves : Serves (bucket l.readers) l.writers l.levels.items;
}

abbrev pub decreases-levels : goal.decreases-levels
decreases-levels l = zeros l.levels.items + length l.frontier.items
