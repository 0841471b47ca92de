use Rattle.std.proofs.Common.{◌≡◌, ℕ, ◌++◌, drop}
use Rattle.rb_flow.specs.Levels.{bucket, readers_from}
use Rattle.rb_flow.proofs.readers.index_readers.Given as goal

abbrev pub invariant-loop-writer : goal.invariant-loop-writer
invariant-loop-writer l = record {
  count : l.place ≡ l.writer-index;
  readers : (n : ℕ) → bucket l.readers n ++ readers_from l.place (drop l.writer-index l.writers) n ≡ readers_from 0 l.writers n;
}
