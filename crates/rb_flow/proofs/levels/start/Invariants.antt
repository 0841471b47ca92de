use Rattle.std.proofs.Common.{◌≡◌, ◌++◌, drop, map}
use Rattle.rb_flow.specs.Levels.{first_level, started}
use Rattle.rb_flow.proofs.levels.start.Given as goal

abbrev pub invariant-loop-writer : goal.invariant-loop-writer
invariant-loop-writer l = record {
  count : l.place ≡ l.writer-index;
  levels : l.levels.items ++ map first_level (drop l.writer-index l.writers) ≡ map first_level l.writers;
  frontier : l.frontier.items ++ started l.place (drop l.writer-index l.writers) ≡ started 0 l.writers;
}
